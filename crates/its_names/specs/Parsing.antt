-- What the private steps of the parser of stave names find: what the grammar has, or that it has nothing there. No
-- public contract cites this file.
use Rattle.std.specs.Prelude.{◌≡◌, List, ℕ, ◌<◌, length, get_or, Option, Some, None}
use Rattle.its_names.specs.StaveNames.{underscore}
use Rattle.its_names.specs.StaveNameGrammar.{Named}

abbrev pub NameParsed : List ℕ → Option (ℕ × ℕ) → Type 0
NameParsed name (Some (layer, stave)) = Named name layer stave
NameParsed name None = (layer stave : ℕ) → Named name layer stave → ⊥

-- The first `_` stands at k.
pub record FirstUnderscore (text : List ℕ) (k : ℕ) : Type 0 where
  pub within : k < length text
  pub none_before : (i : ℕ) → i < k → get_or text i 0 ≡ underscore → ⊥
  pub stands : get_or text k 0 ≡ underscore
