-- How a piece writes its number.
use Rattle.std.specs.Prelude.{ℕ, List}
use Rattle.text_numbers.specs.Numerals.{decimal, hex}
use Rattle.sanity_pieces.specs.declared.Form.{Form}
use Rattle.sanity_pieces.specs.declared.Form.TheVariants.{Decimal, Hex}

abbrev pub formed : Form → ℕ → List ℕ
formed Decimal n = decimal n
formed Hex n = hex n
