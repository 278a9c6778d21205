-- What a check on a validator that is lent answers and leaves (V, R7, F4).
use Rattle.std.specs.Prelude.{ℕ, ◌≡◌, List, length, Result}
use Rattle.rdh.specs.declared.rdh_cru.RdhCru.{RdhCru}
use Rattle.text.specs.Written.{overwritten}
use Rattle.validators.specs.declared.RdhCruSanityValidator.{RdhCruSanityValidator}
use Rattle.validators.specs.declared.Verdict.{Verdict}
use Rattle.text.specs.declared.TooShort.{TooShort}
use Rattle.validators.specs.Verdict.{verdict_answer, answered, text_of, validator_after}

-- The contract of a check of the header `h` on the validator `v`, which is lent, with the buffer `l`: `r` is the verdict, `w` is what it
-- leaves in the validator, and `m` what in the buffer.
pub record ChecksLent (v : RdhCruSanityValidator) (h : RdhCru) (l : List ℕ) (r : Result Verdict TooShort)
    (w : RdhCruSanityValidator) (m : List ℕ) : Type 0 where
  pub verdict : verdict_answer r ≡ answered v h (length l)
  pub validator : w ≡ validator_after v h (length l)
  pub leaves : m ≡ overwritten (text_of v h) l
