-- What decoding and encoding answer, as an answer: a header, that it was written, or refusal 9.
use Rattle.std.specs.Prelude.{[], Result, Ok, Err}
use Rattle.basis.specs.Refusals.{Answer, gives, refuses}
use Rattle.rdh.specs.declared.rdh_cru.RdhCru.{RdhCru}
use Rattle.rdh.specs.declared.rdh_cru.TooFewBytes.{TooFewBytes}

-- Too few bytes were lent: R9.
abbrev pub decode_answer : Result RdhCru TooFewBytes → Answer RdhCru
decode_answer (Ok h) = gives h
decode_answer (Err few) = refuses 9 []

abbrev pub encode_answer : Result Unit TooFewBytes → Answer Unit
encode_answer (Ok done) = gives tt
encode_answer (Err few) = refuses 9 []
