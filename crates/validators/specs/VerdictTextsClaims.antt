-- The statement that joins lists of verdicts with the contract of a check: checks that are made one after the other, each as `Checks` says,
-- answer as the list does, and leave the list's texts in their buffers (D3.7, X1, R7).
use Rattle.std.specs.Prelude.{◌≡◌, List, [], ◌∷◌, ◌++◌, map, ℕ, ℤ, length, drop}
use Rattle.basis.specs.Refusals.{refuses}
use Rattle.rdh.specs.declared.rdh_cru.RdhCru.{RdhCru}
use Rattle.validators.specs.declared.RdhCruSanityValidator.{RdhCruSanityValidator}
use Rattle.validators.specs.declared.SanityCheck.{SanityCheck}
use Rattle.validators.specs.Verdict.{Checks, verdict_answer}
use Rattle.validators.specs.Verdicts.{Call, Reply, replies}

-- A check that was made: the header, the buffer lent for the text, the reply, and what was left in the buffer.
pub record Made : Type 0 where
  pub header : RdhCru
  pub lent : List ℕ
  pub check : SanityCheck
  pub leaves : List ℕ

abbrev pub call_of : Made → Call
call_of m = record { header = m.header; room = length m.lent }

-- Checks made one after the other, each as its contract says and on the validator that the one before left.
abbrev pub InTurn : RdhCruSanityValidator → List Made → Type 0
InTurn v [] = Unit {0}
InTurn v (m ∷ ms) = Checks v m.header m.lent m.check m.leaves × InTurn m.check.validator ms

-- A check gave this reply of the list: its verdict or refusal 7, and its text at the start of the buffer, with the bytes behind it as they
-- were. With refusal 7 nothing is written.
pub record Gave (r : Reply) (m : Made) : Type 0 where
  pub verdict : verdict_answer m.check.verdict ≡ r.verdict
  pub buffer : m.leaves ≡ r.text ++ drop (length r.text) m.lent
  pub nothing : (values : List ℤ) → r.verdict ≡ refuses 7 values → m.leaves ≡ m.lent

abbrev pub AllGave : List Reply → List Made → Type 0
AllGave [] [] = Unit {0}
AllGave [] (m ∷ ms) = ⊥
AllGave (r ∷ rs) [] = ⊥
AllGave (r ∷ rs) (m ∷ ms) = Gave r m × AllGave rs ms

-- The checks give the replies of the list, one for one.
abbrev pub TextsLeft : Type 0
TextsLeft = (v : RdhCruSanityValidator) (ms : List Made) → InTurn v ms → AllGave (replies v (map call_of ms)) ms
