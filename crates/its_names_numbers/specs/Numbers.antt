-- The numbers of a stave name (N5): the number that a list of bytes is, if it is one. `NumberLaws` says that the grammar agrees.
use Rattle.std.specs.Prelude.{ℕ, ◌+◌, ◌-◌, ◌*◌, ◌^◌, Bool, true, ◌&&◌, List, [], ◌∷◌, eqb, leb, length, Option, Some, None}
use Rattle.basis.specs.Pick.{pick}

-- The bytes `+`, `0` and `9`.
abbrev pub plus_sign : ℕ
plus_sign = 43

abbrev pub digit0 : ℕ
digit0 = 48

abbrev pub digit9 : ℕ
digit9 = 57

abbrev pub is_digit : ℕ → Bool
is_digit byte = leb digit0 byte && leb byte digit9

unfoldable pub are_all_digits : List ℕ → Bool
are_all_digits [] = true
are_all_digits (byte ∷ behind) = is_digit byte && are_all_digits behind

-- The number that decimal digits spell: a digit counts ten to the power of how many stand behind it.
unfoldable pub value_of : List ℕ → ℕ
value_of [] = 0
value_of (digit ∷ behind) = (digit - digit0) * 10 ^ length behind + value_of behind

-- Digits, at least one, of a value up to 255.
unfoldable pub digits_number : List ℕ → Option ℕ
digits_number [] = None
digits_number (byte ∷ behind) =
    pick (are_all_digits (byte ∷ behind) && leb (value_of (byte ∷ behind)) 255) (Some (value_of (byte ∷ behind))) None

-- Digits with or without a `+` in front (N5).
unfoldable pub number_of : List ℕ → Option ℕ
number_of [] = None
number_of (byte ∷ behind) = pick (eqb byte plus_sign) (digits_number behind) (digits_number (byte ∷ behind))
