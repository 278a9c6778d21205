-- A payload that is neither skipped nor cut is read whole.
use Rattle.std.proofs.Common.{◌≡◌, ℕ, ◌+◌, Bool, false, not, ◌&&◌, length, ltb, ap, sym, ◌∙◌}
use Rattle.std.proofs.Math.Bool.{and-false}
use Rattle.std.proofs.lemmas.Bool.{or_from, or_parts}
use Rattle.basis.specs.PickLaws.{off}
use Rattle.scan_cdp.specs.Outcomes.{payload_size}
use Rattle.scan_cdp.specs.Steps.{cut}
use Rattle.scan_laws.proofs.WindowLaws.{payload-length}
use Rattle.outcome_payload.proofs.read_size.Goals as goal

pub returns-else-none : goal.returns-else-none
unfolding cut
returns-else-none c rest size =
    let h = c.args.judged.rdh in
    let skip = c.args.judged.set.skip_payload in
    let (unskipped, fits) = or_parts skip c.is_short.result c.if-none.false in
    let whole : ltb (length rest) (64 + payload_size h) ≡ false = ap (λ (n : ℕ). ltb n (64 + payload_size h)) size ∙ sym c.is_short.ensures ∙ fits in
    c.from.ensures
    ∙ c.payload_size.ensures
    ∙ sym (payload-length skip h rest ∙ off _ _ (or_from _ _ unskipped (ap (λ (b : Bool). not skip && b) whole ∙ and-false (not skip))))
