-- The letters stay in lower case.
use Rattle.std.proofs.Common.{List, ℕ, ap, ◌++◌}
use mathlib.Core.List.{map-id}
use Rattle.text.specs.Ascii.{ascii}
use Rattle.text.specs.PutLaws.{respelled}
use Rattle.text_numbers.specs.Numerals.{hex}
use Rattle.text_numbers.proofs.put_hex.Goals as goal

pub returns : goal.returns
unfolding hex
returns c = respelled (ap (λ (t : List ℕ). ascii "0x" ++ t) (map-id _)) c.put_prefixed.ensures
