-- A validator, and what a check on it answers and leaves (V, R7).
use Rattle.std.specs.Prelude.{ℕ, ◌≡◌, Bool, true, false, List, [], ◌∷◌, leb, pos, length, Result, Ok, Err}
use Rattle.basis.specs.Pick.{pick}
use Rattle.basis.specs.Refusals.{Answer, gives, refuses}
use Rattle.rdh.specs.declared.rdh_cru.RdhCru.{RdhCru}
use Rattle.text.specs.Written.{overwritten}
use Rattle.text.specs.declared.TooShort.{TooShort}
use Rattle.validators.specs.declared.HeaderId.{HeaderId}
use Rattle.validators.specs.declared.HeaderId.TheVariants.{Configured, NotSettled, Settled}
use Rattle.validators.specs.declared.RdhCruSanityValidator.{RdhCruSanityValidator}
use Rattle.validators.specs.declared.SanityCheck.{SanityCheck}
use Rattle.validators.specs.declared.Verdict.{Verdict}
use Rattle.validators.specs.declared.Verdict.TheVariants.{Sound, NotSound}
use Rattle.sanity.specs.Tests.{sound, text_of_verdict}
use Rattle.sanity.specs.declared.Criteria.{Criteria}

-- The header ID that a header with this ID is held to: the configured or settled one, or its own where none is settled yet (V1, V2).
abbrev pub expected_id : HeaderId → ℕ → ℕ
expected_id (Configured n) id = n
expected_id NotSettled id = id
expected_id (Settled n) id = n

-- What is settled afterwards: where nothing was, the ID of this header, sound or not (V2).
abbrev pub settled_id : HeaderId → ℕ → HeaderId
settled_id (Configured n) id = Configured n
settled_id NotSettled id = Settled id
settled_id (Settled n) id = Settled n

-- What a validator holds a header with this ID to (V1, V2).
abbrev pub held_to : RdhCruSanityValidator → ℕ → Criteria
held_to v id = record { header_id = expected_id v.header_id id; its = v.its }

abbrev pub criteria_of : RdhCruSanityValidator → RdhCru → Criteria
criteria_of v h = held_to v h.rdh0.header_id

-- Whether a validator finds a header sound, and its text.
unfoldable pub sound_to : RdhCruSanityValidator → RdhCru → Bool
sound_to v h = sound (criteria_of v h) h

unfoldable pub text_of : RdhCruSanityValidator → RdhCru → List ℕ
text_of v h = text_of_verdict (criteria_of v h) h

-- The same validator, with another header ID.
abbrev pub holding : RdhCruSanityValidator → HeaderId → RdhCruSanityValidator
holding v id = record { header_id = id; its = v.its }

-- The validator once a header has been checked.
unfoldable pub settled_by : RdhCruSanityValidator → RdhCru → RdhCruSanityValidator
settled_by v h = holding v (settled_id v.header_id h.rdh0.header_id)

-- A verdict: sound or not, and the text's length.
pub record Judged : Type 0 where
  pub is_sound : Bool
  pub text_length : ℕ

-- What each case of the code's result says: a verdict, or refusal 7 with the length needed.
abbrev pub verdict_answer : Result Verdict TooShort → Answer Judged
verdict_answer (Ok Sound) = gives (record { is_sound = true; text_length = 0 })
verdict_answer (Ok (NotSound n)) = gives (record { is_sound = false; text_length = n })
verdict_answer (Err e) = refuses 7 (pos e.needed ∷ [])

-- What a check answers whose header has this text, for a buffer of a length (V7, R7).
abbrev pub judged_in : (is_sound : Bool) (text : List ℕ) (room : ℕ) → Answer Judged
judged_in is_sound text room =
    pick (leb (length text) room)
    (gives (record { is_sound = is_sound; text_length = length text }))
    (refuses 7 (pos (length text) ∷ []))

-- What is kept then: the validator that has settled an ID, or with refusal 7 the one from before, which settles nothing (V2).
abbrev pub kept_in : {A : Type 0} (text : List ℕ) (room : ℕ) (settled unsettled : A) → A
kept_in text room settled unsettled = pick (leb (length text) room) settled unsettled

unfoldable pub answered : RdhCruSanityValidator → RdhCru → ℕ → Answer Judged
answered v h room = judged_in (sound_to v h) (text_of v h) room

unfoldable pub validator_after : RdhCruSanityValidator → RdhCru → ℕ → RdhCruSanityValidator
validator_after v h room = kept_in (text_of v h) room (settled_by v h) v

-- The contract of a check of the header `h` on the validator `v`, which is lent the buffer `l`: `r` is its reply, and `m` is what it leaves
-- in the buffer.
pub record Checks (v : RdhCruSanityValidator) (h : RdhCru) (l : List ℕ) (r : SanityCheck) (m : List ℕ) : Type 0 where
  pub verdict : verdict_answer r.verdict ≡ answered v h (length l)
  pub validator : r.validator ≡ validator_after v h (length l)
  pub leaves : m ≡ overwritten (text_of v h) l

-- The same of a check on any validator, by the verdict and the text of what is checked: `said` and `kept` are its reply.
pub record Judges (A : Type 0) (is_sound : Bool) (text : List ℕ) (settled unsettled : A) (l : List ℕ) (said : Result Verdict TooShort) (kept : A)
    (m : List ℕ) : Type 0 where
  pub verdict : verdict_answer said ≡ judged_in is_sound text (length l)
  pub validator : kept ≡ kept_in text (length l) settled unsettled
  pub leaves : m ≡ overwritten text l

-- The contract of a check of anything that a validator checks, by its header ID and, as it is held to a header ID and a setting, by whether it
-- is sound and by the text that names its failures. What is sound has no text (V1, V2, V3, V5).
abbrev pub ChecksBy : RdhCruSanityValidator → (id : ℕ) → (Criteria → Bool) → (Criteria → List ℕ) → List ℕ → SanityCheck → List ℕ → Type 0
ChecksBy v id is_sound failures l r m =
    let criteria = held_to v id in
    Judges RdhCruSanityValidator (is_sound criteria) (pick (is_sound criteria) [] (failures criteria))
    (holding v (settled_id v.header_id id)) v l r.verdict r.validator m
