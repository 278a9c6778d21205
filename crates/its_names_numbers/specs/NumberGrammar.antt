-- The grammar of the numbers of a stave name (N5). No public contract cites this file: `NumberLaws` says that `number_of` agrees with it.
use Rattle.std.specs.Prelude.{◌≡◌, List, ◌∷◌, ℕ, ◌≤◌, ◌<◌, length, get_or}
use Rattle.its_names_numbers.specs.Numbers.{plus_sign, digit0, digit9, value_of}

abbrev pub Digit : ℕ → Type 0
Digit byte = (digit0 ≤ byte) × (byte ≤ digit9)

abbrev pub AllDigits : List ℕ → Type 0
AllDigits text = (k : ℕ) → k < length text → Digit (get_or text k 0)

-- Digits, at least one, which spell n, and n is at most 255.
pub record Digits (text : List ℕ) (n : ℕ) : Type 0 where
  pub one_or_more : 0 < length text
  pub each : AllDigits text
  pub spell : value_of text ≡ n
  pub at_most : n ≤ 255

-- A number in a name: digits, or `+` and digits.
pub data Number (text : List ℕ) (n : ℕ) : Type 0 where
  plain : Digits text n → Number text n
  signed : (digits : List ℕ) → text ≡ plus_sign ∷ digits → Digits digits n → Number text n
