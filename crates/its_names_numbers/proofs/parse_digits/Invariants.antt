-- The value is what the digits passed spell.
use Rattle.its_names_numbers.proofs.Numbers.{Passed}
use Rattle.its_names_numbers.proofs.parse_digits.Given as goal

abbrev pub invariant-loop-digit : goal.invariant-loop-digit
invariant-loop-digit l = Passed l.text l.digit-index l.value
