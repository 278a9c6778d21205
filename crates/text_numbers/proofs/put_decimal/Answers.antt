-- The digits have no letters.
use mathlib.Core.List.{map-id}
use Rattle.text.specs.PutLaws.{respelled}
use Rattle.text_numbers.specs.Numerals.{decimal}
use Rattle.text_numbers.proofs.put_decimal.Goals as goal

pub returns : goal.returns
unfolding decimal
returns c = respelled (map-id _) c.put_digits.ensures
