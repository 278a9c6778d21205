-- Fewer than 64 bytes have no first 64; of more, the first 64 hold the header.
use Rattle.std.proofs.Common.{◌<◌, ◌∙◌, sym, ap, arith, lt-ltb, le-ltb, length}
use Rattle.basis.specs.PickLaws.{on, off}
use Rattle.basis.specs.Refusals.{gives}
use Rattle.serde_rdh.specs.Layout.{decode, decoded}
use Rattle.serde_rdh.proofs.LayoutLaws.{decoded-take}
use Rattle.serde_rdh.proofs.from_buf.Goals as goal

pub returns-in_default : goal.returns-in_default
unfolding decode
returns-in_default c =
    let few : length c.args.buf.now < 64 = omega (arith, c.in_default.ensures.cases) in
    sym (on _ _ (lt-ltb (length c.args.buf.now) 64 few))

pub returns : goal.returns
unfolding decode
returns c =
    let s = c.args.buf.now in
    let first = c.in-Some.ensures.cases in
    ap gives (c.header_of.ensures ∙ ap decoded first.same ∙ decoded-take 64 s (omega arith))
    ∙ sym (off _ _ (le-ltb (length s) 64 first.enough))
