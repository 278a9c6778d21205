-- Words of eight bytes in a row.
use Rattle.std.specs.Prelude.{List, [], ◌∷◌, ◌++◌, ℕ, ltb, length, drop}
use Rattle.basis.specs.Bytes.{bytes_of}
use Rattle.basis.specs.Pick.{pick}

-- The bytes of numbers that have eight each, in a row.
unfoldable pub word_bytes : List ℕ → List ℕ
word_bytes [] = []
word_bytes (w ∷ ws) = bytes_of 8 w ++ word_bytes ws

-- What a buffer l holds when eight words were written: their 64 bytes, and what was behind; or all that it held, if it has fewer.
unfoldable pub words_into : List ℕ → List ℕ → List ℕ
words_into ws l = pick (ltb (length l) 64) l (word_bytes ws ++ drop 64 l)
