-- Numbers as bytes, the lowest byte first (B1).
use Rattle.std.specs.Prelude.{List, [], ◌∷◌, ℕ, zero, suc, ◌+◌, ◌*◌, ◌/◌, ◌%◌, ◌<◌, length, take, drop, get_or}

-- The number that bytes spell, lowest byte first.
unfoldable pub little : List ℕ → ℕ
little [] = 0
little (b ∷ bs) = b + 256 * little bs

-- The lowest `width` bytes of a number, lowest first.
unfoldable pub bytes_of : ℕ → ℕ → List ℕ
bytes_of zero v = []
bytes_of (suc width) v = v % 256 ∷ bytes_of width (v / 256)

-- The number in the `width` bytes at `offset` of s.
unfoldable pub number_at : List ℕ → ℕ → ℕ → ℕ
number_at s offset width = little (take width (drop offset s))

-- Each element is a byte.
abbrev pub Bytes : List ℕ → Type 0
Bytes s = (k : ℕ) → k < length s → get_or s k 0 < 256
