-- A position is a number in hexadecimal, in upper case.
use Rattle.std.proofs.Common.{rules}
use Rattle.text_numbers.specs.Numerals.{upper_hex}
use Rattle.listing_lines.specs.Lines.{position_text}
use Rattle.listing_lines.proofs.position.put.Goals as goal

pub returns : goal.returns
unfolding position_text upper_hex
returns c = search rules
