-- What is written of a text that names no stave that there is (R8).
use Rattle.std.specs.Prelude.{ℕ, List, codes}

abbrev pub not_a_stave_name_text : List ℕ
not_a_stave_name_text = codes "the text is not the name of a stave"
