-- Numbers as texts, as Rust's `{}`, `{:#x}`, `{:#X}`, `{:<width}` and `{:>width}` write them (X2).
use Rattle.std.specs.Prelude.{ℕ, zero, suc, ◌+◌, ◌-◌, ◌/◌, ◌%◌, Bool, true, false, List, [], ◌∷◌, ◌++◌, ltb, map, length, replicate}
use Rattle.basis.specs.Pick.{pick}
use Rattle.text.specs.Ascii.{ascii}

-- The byte of a digit: `0` to `9`, then `a` to `f`.
abbrev pub glyph : ℕ → ℕ
glyph d = pick (ltb d 10) (48 + d) (87 + d)

-- A digit's byte, in upper case or not: the byte of an upper-case letter is 32 below.
abbrev pub cased : Bool → ℕ → ℕ
cased true b = pick (ltb b 97) b (b - 32)
cased false b = b

-- A number in a base, highest digit first and with no zero in front, in at most `most` digits.
unfoldable pub numeral : ℕ → ℕ → ℕ → List ℕ
numeral base zero n = []
numeral base (suc most) n =
    pick (ltb n base) (glyph n ∷ []) (numeral base most (n / base) ++ (glyph (n % base) ∷ []))

-- `{}`: 20 digits hold every number below 2^64.
unfoldable pub decimal : ℕ → List ℕ
decimal n = numeral 10 20 n

-- `{:#x}`: 16 digits hold every number below 2^64.
unfoldable pub hex : ℕ → List ℕ
hex n = ascii "0x" ++ numeral 16 16 n

-- `{:#X}`.
unfoldable pub upper_hex : ℕ → List ℕ
upper_hex n = ascii "0x" ++ map (cased true) (numeral 16 16 n)

-- `{:<width}`: blanks behind a text that is shorter than the width; a longer one is not cut.
unfoldable pub left : ℕ → List ℕ → List ℕ
left width t = t ++ replicate (width - length t) 32

-- `{:>width}`: blanks in front of it.
unfoldable pub right : ℕ → List ℕ → List ℕ
right width t = replicate (width - length t) 32 ++ t
