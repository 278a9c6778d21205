-- The number is measured, then put behind the blanks that it lacks.
use Prim.Native.Nat.{◌≤◌}
use native.Mathlib.Omega.{arith}
use lib.ListN.{length}
use Rattle.text_numbers.specs.Numerals.{decimal, numeral}
use Rattle.text.specs.Put.{last_place}
use Rattle.text_numbers.specs.NumeralLaws.{numeral_room}
use Rattle.text.specs.PutLaws.{measured}
use Rattle.text_numbers.proofs.Padding.{padded_before}
use Rattle.text_numbers.proofs.put_decimal_right.Goals as goal

pub returns : goal.returns
unfolding decimal
returns c =
    let args = c.args in
    let small : length (numeral 10 20 args.n) ≤ last_place = omega (arith, numeral_room 10 20 args.n) in
    padded_before {lacks = c.lacking.result} args.width
    (omega (arith, c.lacking.ensures, measured c.put_decimal-len.ensures small))
    c.put_blanks-next.ensures c.put_decimal.ensures
