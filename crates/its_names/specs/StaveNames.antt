-- Stave names (N4 to N6, R8): what is answered to a list of bytes. `StaveNameLaws` says that the grammar agrees.
use Rattle.std.specs.Prelude.{ℕ, Bool, ◌&&◌, not, List, [], ◌∷◌, eqb, leb, ltb, Option, Some, None, Result, Ok, Err}
use Rattle.basis.specs.Pick.{pick}
use Rattle.basis.specs.Refusals.{Answer, gives, refuses}
use Rattle.its.specs.FeeIds.{highest_layer, highest_stave, stave_fee_id}
use Rattle.its_names_numbers.specs.Numbers.{number_of}
use Rattle.its_names.specs.declared.NotAStaveName.{NotAStaveName}

-- The byte `_`.
abbrev pub underscore : ℕ
underscore = 95

-- What stands before the first x of a list, and what stands behind it. Of a list that has none that is all of it, and nothing.
unfoldable pub before : ℕ → List ℕ → List ℕ
before x [] = []
before x (y ∷ rest) = pick (eqb y x) [] (y ∷ before x rest)

unfoldable pub behind : ℕ → List ℕ → List ℕ
behind x [] = []
behind x (y ∷ rest) = pick (eqb y x) rest (behind x rest)

-- The first byte of a name: below 0x80, but no `_` (N4).
abbrev pub starts_name : ℕ → Bool
starts_name first = ltb first 0x80 && not (eqb first underscore)

-- A layer and a stave that there are give their FEE id, with nothing folded (N6); any others are no name (R8).
unfoldable pub fee_of_stave : ℕ → ℕ → Answer ℕ
fee_of_stave layer stave = pick (leb layer highest_layer && leb stave highest_stave) (gives (stave_fee_id layer stave)) (refuses 8 [])

-- Two numbers are a layer and a stave. Where one of them is no number there is no name (R8).
abbrev pub fee_of_numbers : Option ℕ → Option ℕ → Answer ℕ
fee_of_numbers (Some layer) (Some stave) = fee_of_stave layer stave
fee_of_numbers (Some layer) None = refuses 8 []
fee_of_numbers None stave = refuses 8 []

-- The FEE id of the stave that is named: a first byte, the layer up to the first `_`, the stave behind it (N4); or refusal 8.
unfoldable pub named_fee : List ℕ → Answer ℕ
named_fee [] = refuses 8 []
named_fee (first ∷ rest) =
    pick (starts_name first) (fee_of_numbers (number_of (before underscore rest)) (number_of (behind underscore rest))) (refuses 8 [])

-- The answer that each case of the code's result is.
abbrev pub name_answer : Result ℕ NotAStaveName → Answer ℕ
name_answer (Ok id) = gives id
name_answer (Err e) = refuses 8 []
