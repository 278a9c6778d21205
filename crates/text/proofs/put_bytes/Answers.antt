-- After i turns the first i bytes have been put; each turn puts the next one behind them.
use mathlib.Core.Path.{ap, sym, ◌∙◌}
use Prim.Native.Nat.{ℕ}
use native.Mathlib.Numerals.{add-one}
use native.Mathlib.Omega.{arith}
use lib.ListN.{take}
use lib.Seq.{take-suc, take_all}
use Rattle.text.specs.PutLaws.{and_then, put_nothing, respelled}
use Rattle.text.specs.PutLaws.{same_length as kept-length}
use Rattle.text.proofs.put_bytes.Goals as goal

pub loop-i-init : goal.loop-i-init
loop-i-init c = (omega arith, put_nothing _ _ (omega arith) (omega arith))

pub loop-i-preserved : goal.loop-i-preserved
loop-i-preserved c =
    let s = c.args.s.now in (
      omega arith,
      respelled (sym (ap (λ (k : ℕ). take k s) (add-one c.loop-i.i) ∙ take-suc s c.loop-i.i 0 (omega arith)))
          (and_then c.loop-i.invariant.1 c.put_byte-next.ensures),
    )

pub shape_of-out : goal.shape_of-out
shape_of-out c = kept-length c.loop-i.invariant.1

pub returns : goal.returns
returns c =
    respelled (take_all c.loop-i.i c.args.s.now c.loop-i-test.false)
    c.loop-i.invariant.1
