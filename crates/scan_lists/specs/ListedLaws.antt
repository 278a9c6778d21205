-- Laws of listing: what the link or FEE id of a header leaves of its list.
use Rattle.std.specs.Prelude.{ℕ, Bool, true, false, ◌≡◌, refl, List, eqb}
use Rattle.std.proofs.Common.{sym}
use Rattle.basis.specs.Pick.{pick}
use Rattle.basis.specs.PickLaws.{off, on}
use Rattle.stats.specs.Lists.{places_after, places_by, used_after, used_by}
use Rattle.scan_cdp.specs.Steps.{places_listed, used_listed}

-- what is listed of numbers is what the step lists
pub used_of_numbers : (due : Bool) (x used : ℕ) (l : List ℕ) → pick due (used_by eqb x used l) used ≡ used_listed due x used l
unfolding used_listed used_after
used_of_numbers due x used l = refl

pub places_of_numbers : (due : Bool) (x used : ℕ) (l : List ℕ) → pick due (places_by eqb x used l) l ≡ places_listed due x used l
unfolding places_listed places_after
places_of_numbers due x used l = refl

-- What is not counted is not listed; what is counted is.
pub not_listed : (due : Bool) (x used : ℕ) (l : List ℕ) → due ≡ false → (used ≡ used_listed due x used l) × (l ≡ places_listed due x used l)
unfolding used_listed places_listed
not_listed due x used l e = (sym (off _ _ e), sym (off _ _ e))

pub listed : (due : Bool) (x used : ℕ) (l : List ℕ) → due ≡ true
    → (used_after x used l ≡ used_listed due x used l) × (places_after x used l ≡ places_listed due x used l)
unfolding used_listed places_listed
listed due x used l e = (sym (on _ _ e), sym (on _ _ e))
