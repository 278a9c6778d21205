-- Laws of refusal 6: what its numbers alone leave of it, and what a window that it lets through is.
use Rattle.std.specs.Prelude.{ℕ, ◌+◌, ◌≤◌, Bool, true, false, ◌||◌, ◌≡◌, List, ltb, length, take}
use Rattle.std.proofs.Math.Bool.{or-false, or-true}
use Rattle.std.proofs.Common.{ap, sym, ◌∙◌, ltb-false}
use Rattle.basis.specs.PickLaws.{neither}
use Rattle.stats.specs.Lists.{twice}
use Rattle.scan_cdp.specs.Steps.{limit, numbers_unusable, unusable, with_lent}
use Rattle.scan_cdp.specs.Windows.{examined, examined_unless, outside}
use Rattle.scan_cdp.specs.declared.Progress.{Progress}
use Rattle.scan_cdp.specs.declared.Settings.{Settings}
use Rattle.scan_cdp.specs.declared.State.{State}

-- That no link is listed twice leaves the numbers of refusal 6.
pub numbers_alone : (p : Progress) (links triggers fee_ids : List ℕ) → twice (take p.links_used links) ≡ false
    → unusable (with_lent p links triggers) fee_ids ≡ numbers_unusable p (length links) (length fee_ids)
unfolding unusable
numbers_alone p links triggers fee_ids once =
    let numbers = numbers_unusable p (length links) (length fee_ids) in
    ap (λ (b : Bool). numbers || b) once ∙ or-false numbers

-- Where no link is listed twice, an examination is one with refusal 6 by the numbers.
pub once_examined : (set : Settings) (p : Progress) (links triggers fee_ids w : List ℕ) (first : ℕ) (last : Bool)
    → twice (take p.links_used links) ≡ false
    → examined_unless (numbers_unusable p (length links) (length fee_ids)) set (with_lent p links triggers) fee_ids w first last
    ≡ examined set (with_lent p links triggers) fee_ids w first last
unfolding examined
once_examined set p links triggers fee_ids w first last once =
    ap (λ (b : Bool). examined_unless b set (with_lent p links triggers) fee_ids w first last) (sym (numbers_alone p links triggers fee_ids once))

-- A link that is listed twice is refusal 6.
pub twice-unusable : (s : State) (fee_ids : List ℕ) → twice (take s.progress.links_used s.links) ≡ true → unusable s fee_ids ≡ true
unfolding unusable
twice-unusable s fee_ids e =
    let numbers = numbers_unusable s.progress (length s.links) (length fee_ids) in
    ap (λ (b : Bool). numbers || b) e ∙ or-true numbers

-- A window that is not refused starts at or before the byte place, and ends within the limit.
pub record Inside (place first size : ℕ) : Type 0 where
  pub starts : first ≤ place
  pub ends : first + size ≤ limit

pub inside : (place first size : ℕ) → outside place first size ≡ false → Inside place first size
unfolding outside
inside place first size e =
    let (starts, ends) = neither (ltb place first) (ltb limit (first + size)) e in
    record { starts = ltb-false place first starts; ends = ltb-false limit (first + size) ends }
