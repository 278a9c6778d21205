use Rattle.text_numbers.specs.Numerals.{upper_hex}
use Rattle.text_numbers.proofs.put_upper_hex.Goals as goal

pub returns : goal.returns
unfolding upper_hex
returns c = c.put_prefixed.ensures
