-- What is written of a buffer that is too short for its text (R7).
use Rattle.std.specs.Prelude.{ℕ, List, ◌++◌, decimal}
use Rattle.text.specs.Ascii.{ascii}

-- The text needs so many bytes.
abbrev pub too_short_text : ℕ → List ℕ
too_short_text needed = ascii "the buffer is too short: the text needs " ++ decimal needed ++ ascii " bytes"
