-- What C is answered to a check.
use Rattle.std.specs.Prelude.{ℕ, false, [], ◌∷◌, eqb, pos}
use Rattle.basis.specs.Pick.{pick}
use Rattle.basis.specs.Refusals.{Answer, gives, refuses}
use Rattle.rdh.specs.declared.rdh_cru.RdhCru.{RdhCru}
use Rattle.validators.specs.Verdict.{Judged, answered, validator_after}
use Rattle.validators.specs.declared.RdhCruSanityValidator.{RdhCruSanityValidator}
use Rattle.doors_header_structs.specs.Plain.{length_needed}
use Rattle.doors_verdict.specs.Plain.{plain_validator}
use Rattle.doors_verdict.specs.declared.PlainChecked.{PlainChecked}

-- C's struct for an answer and a validator: a refusal has its number and the length needed, and nothing is called sound.
abbrev pub plain_checked : Answer Judged → RdhCruSanityValidator → PlainChecked
plain_checked (gives j) v = record { length = j.text_length; refusal = 0; sound = j.is_sound; validator = plain_validator v }
plain_checked (refuses number values) v =
    record { length = length_needed values; refusal = number; sound = false; validator = plain_validator v }

-- What that says of the header; its validator says what is kept.
abbrev pub checked_of : PlainChecked → Answer Judged
checked_of n =
    pick (eqb n.refusal 0) (gives (record { is_sound = n.sound; text_length = n.length }))
    (refuses n.refusal (pos n.length ∷ []))

-- The reply to a check of a header on a validator, with a text buffer of a length.
abbrev pub checked : RdhCruSanityValidator → RdhCru → ℕ → PlainChecked
checked v h room = plain_checked (answered v h room) (validator_after v h room)
