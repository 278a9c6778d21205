-- The digits are filled in from the last one back, each in front of those that stand there, until there is no rest.
use Rattle.std.proofs.Common.{ℕ, ◌-◌, take, drop, ap, ◌∙◌, arith}
use Rattle.text.specs.PutLaws.{respelled}
use Rattle.text_numbers.specs.FillLaws.{all_filled, first_filled, next_filled}
use Rattle.text_numbers.proofs.digits.put_digits.Invariants.{spelt}
use Rattle.text_numbers.proofs.digits.put_digits.Goals as goal

pub loop-rest-init : goal.loop-rest-init
loop-rest-init g c =
    first_filled (spelt g) g.row.BASE g.row.PLACES c.args.n (omega arith) c.requires.places.0 (omega arith) c.digit.ensures (omega arith)

pub loop-rest-preserved : goal.loop-rest-preserved
loop-rest-preserved g c = next_filled (omega arith) c.loop-rest.invariant (omega arith) c.digit-in-loop-rest.ensures (omega arith)

pub returns : goal.returns
returns g c =
    let size = c.loop-rest.invariant.size in
    respelled (ap (λ (k : ℕ). take (k - c.loop-rest.first) (drop c.loop-rest.first c.loop-rest.digits)) size ∙ all_filled c.loop-rest.invariant (omega arith))
    c.put_bytes.ensures
