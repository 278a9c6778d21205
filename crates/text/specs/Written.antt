-- What a function answers that writes a whole text into a lent buffer, and what it leaves there (X1, R7).
use Rattle.std.specs.Prelude.{ℕ, ◌≤◌, ◌<◌, ◌≡◌, List, [], ◌∷◌, ◌++◌, leb, pos, length, drop, Result, Ok, Err}
use Rattle.basis.specs.Pick.{pick}
use Rattle.basis.specs.Refusals.{Answer}
use Rattle.basis.specs.Refusals.Answer.{gives, refuses}
use Rattle.text.specs.declared.TooShort.{TooShort}

-- The number of bytes written, or refusal 7 with the length needed (R7).
abbrev pub answer : Result ℕ TooShort → Answer ℕ
answer (Ok n) = gives n
answer (Err e) = refuses 7 (pos e.needed ∷ [])

-- What putting the text `t` into the buffer `l` answers.
unfoldable pub written : List ℕ → List ℕ → Answer ℕ
written t l = pick (leb (length t) (length l)) (gives (length t)) (refuses 7 (pos (length t) ∷ []))

-- What it leaves in the buffer.
unfoldable pub overwritten : List ℕ → List ℕ → List ℕ
overwritten t l = pick (leb (length t) (length l)) (t ++ drop (length t) l) l

-- The contract of such a function: `r` is its reply and `m` what it leaves in the buffer `l`.
pub record Writes (t l : List ℕ) (r : Result ℕ TooShort) (m : List ℕ) : Type 0 where
  pub reply : answer r ≡ written t l
  pub leaves : m ≡ overwritten t l

-- A length that tells whether the text fits a room: its own where it does not fit.
pub record Needed (t : List ℕ) (room need : ℕ) : Type 0 where
  pub fits : need ≤ room → length t ≤ room
  pub exact : room < need → need ≡ length t
