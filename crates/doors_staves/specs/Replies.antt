-- What C is answered about FEE ids and stave names.
use Rattle.std.specs.Prelude.{ℕ, [], eqb}
use Rattle.basis.specs.Pick.{pick}
use Rattle.basis.specs.Refusals.{Answer, gives, refuses}
use Rattle.rdh.specs.Subfields.{layer_of, stave_of, uplink_of}
use Rattle.doors_staves.specs.declared.PlainFeeParts.{PlainFeeParts}
use Rattle.doors_staves.specs.declared.PlainNamed.{PlainNamed}

-- The parts of a FEE id.
abbrev pub fee_parts : ℕ → PlainFeeParts
fee_parts fee = record { layer = layer_of fee; stave = stave_of fee; uplink = uplink_of fee }

-- The FEE id of a stave name, or the refusal's number with 0.
abbrev pub plain_named : Answer ℕ → PlainNamed
plain_named (gives fee) = record { refusal = 0; fee_id = fee }
plain_named (refuses number values) = record { refusal = number; fee_id = 0 }

-- What that says.
abbrev pub named_of : PlainNamed → Answer ℕ
named_of n = pick (eqb n.refusal 0) (gives n.fee_id) (refuses n.refusal [])
