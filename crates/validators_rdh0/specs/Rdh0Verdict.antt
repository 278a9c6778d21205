-- What a check of RDH0 alone answers and leaves: the tests of V4 that are RDH0's, in their order, with the pieces under RDH0's heading and no
-- more in front of them. The validator is one of whole headers: settling and refusal 7 are the same (V1, V2, V7).
use Rattle.std.specs.Prelude.{ℕ, Bool, not, List}
use Rattle.rdh.specs.declared.rdh0.Rdh0.{Rdh0}
use Rattle.sanity.specs.Tests.{any_fails, rdh0_tests, section}
use Rattle.sanity.specs.declared.Criteria.{Criteria}
use Rattle.validators.specs.Verdict.{Judges, held_to, holding, settled_id}
use Rattle.validators.specs.declared.RdhCruSanityValidator.{RdhCruSanityValidator}
use Rattle.validators.specs.declared.SanityCheck.{SanityCheck}

-- What a validator holds RDH0 to (V1, V2).
abbrev pub criteria_of : RdhCruSanityValidator → Rdh0 → Criteria
criteria_of v w = held_to v w.header_id

-- Whether it finds RDH0 sound, and its text, which is empty if it does (V3, V5).
unfoldable pub sound_to : RdhCruSanityValidator → Rdh0 → Bool
sound_to v w = not (any_fails (rdh0_tests (criteria_of v w) w))

unfoldable pub text_of : RdhCruSanityValidator → Rdh0 → List ℕ
text_of v w = section "RDH0: " (rdh0_tests (criteria_of v w) w)

-- The validator once RDH0 has been checked (V2).
unfoldable pub settled_by : RdhCruSanityValidator → Rdh0 → RdhCruSanityValidator
settled_by v w = holding v (settled_id v.header_id w.header_id)

-- The contract of a check of the word `w` on the validator `v`, which is lent the buffer `l`: `r` is its reply, and `m` is what it leaves
-- in the buffer.
abbrev pub Checks : (v : RdhCruSanityValidator) (w : Rdh0) (l : List ℕ) (r : SanityCheck) (m : List ℕ) → Type 0
Checks v w l r m = Judges RdhCruSanityValidator (sound_to v w) (text_of v w) (settled_by v w) v l r.verdict r.validator m
