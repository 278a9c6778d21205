-- What is written of bytes that are fewer than a header's (R9).
use Rattle.std.specs.Prelude.{ℕ, List, ◌++◌, codes, decimal}

abbrev pub too_few_bytes_text : List ℕ
too_few_bytes_text = codes "fewer than " ++ decimal 64 ++ codes " bytes"
