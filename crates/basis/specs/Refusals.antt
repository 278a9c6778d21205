-- How a definition says what a call answers. Each enum of the code is mapped onto `Answer` by one definition, which gives a refusal
-- its number and the values that are returned with it (R1 to R9, Q4).
use Rattle.std.specs.Prelude.{ℕ, List, ℤ}

-- The value that the call is asked for, or the refusal of that number with the values that are returned with it.
pub data Answer (A : Type 0) : Type 0 where
  gives : A → Answer A
  refuses : (number : ℕ) → (values : List ℤ) → Answer A
