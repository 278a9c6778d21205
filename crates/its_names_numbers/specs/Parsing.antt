-- What a parser of numbers finds: the number that a text is by the grammar, or that it is none. No public contract cites this file.
use Rattle.std.specs.Prelude.{List, ℕ, Option, Some, None}
use Rattle.its_names_numbers.specs.NumberGrammar.{Digits, Number}

abbrev pub NumberParsed : List ℕ → Option ℕ → Type 0
NumberParsed text (Some n) = Number text n
NumberParsed text None = (n : ℕ) → Number text n → ⊥

-- The same of digits alone.
abbrev pub DigitsParsed : List ℕ → Option ℕ → Type 0
DigitsParsed text (Some n) = Digits text n
DigitsParsed text None = (n : ℕ) → Digits text n → ⊥
