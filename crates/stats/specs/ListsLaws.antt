-- Laws of lists: what a number that is met leaves.
use Rattle.std.specs.Prelude.{◌≡◌, ℕ, ◌+◌, ◌<◌, ◌≤◌, Bool, true, false, not, ◌&&◌, List, [], ◌∷◌, ◌++◌, length, take, ◌==◌, nat_lt, slice_set, refl}
use Rattle.std.proofs.Math.Bool.{and-eq-true_iff}
use Rattle.std.proofs.Common.{ap, ap₂, sym, ◌∙◌, arith, add-one, lt-ltb, le-ltb, le-leb, ltb-true, length-set, take-suc-set}
use Rattle.std.proofs.lemmas.Bool.{lt-leb, not-true, or_from}
use Rattle.std.proofs.lemmas.List.Folds.{list_any-append}
use Rattle.basis.specs.PickLaws.{on, off}
use Rattle.stats_search.specs.FrontWalkLaws.{twice_put}
use Rattle.stats.specs.Lists.{full, goes_in, member, places_after, twice, used_after}

-- ---- a number that is met

-- A list with no place left, or with the number in its used part, stays as it is.
pub record Stays (x used : ℕ) (l : List ℕ) : Type 0 where
  pub number : used ≡ used_after x used l
  pub places : l ≡ places_after x used l

stays : (x used : ℕ) (l : List ℕ) → goes_in x used l ≡ false → Stays x used l
unfolding used_after places_after
stays x used l e = record { number = sym (off _ _ e); places = sym (off _ _ e) }

pub no_place : (x used : ℕ) (l : List ℕ) → length l ≤ used → Stays x used l
unfolding member
no_place x used l h = stays x used l (ap (λ (b : Bool). b && not (member x (take used l))) (le-ltb used (length l) h))

pub known : (x used : ℕ) (l : List ℕ) → used < length l → member x (take used l) ≡ true → Stays x used l
unfolding member
known x used l h e = stays x used l (ap (λ (b : Bool). b && not (member x (take used l))) (lt-ltb used (length l) h) ∙ ap (λ (b : Bool). not b) e)

-- A new number with a place is put there.
pub record GoesIn (x used : ℕ) (l : List ℕ) : Type 0 where
  pub number : used + 1 ≡ used_after x used l
  pub places : slice_set l used x ≡ places_after x used l

pub new : (x used : ℕ) (l : List ℕ) → used < length l → member x (take used l) ≡ false → GoesIn x used l
unfolding used_after places_after member
new x used l h e =
    let goes = ap (λ (b : Bool). b && not (member x (take used l))) (lt-ltb used (length l) h) ∙ ap (λ (b : Bool). not b) e in
    record { number = sym (on _ _ goes); places = sym (on _ _ goes) }

pub has_place : (x used : ℕ) (l : List ℕ) → used < length l → false ≡ full x used l
unfolding full member
has_place x used l h = sym (ap (λ (b : Bool). b && not (member x (take used l))) (lt-leb (length l) used h))

pub searched : (x used : ℕ) (l : List ℕ) → length l ≤ used → not (member x (take used l)) ≡ full x used l
unfolding full member
searched x used l h = sym (ap (λ (b : Bool). b && not (member x (take used l))) (le-leb (length l) used h))

-- ---- a number put behind a list

-- what a list does not have, it does not have with another number behind it; and as `twice_put` of `FrontWalkLaws` says, a list with nothing
-- twice has nothing twice with a new number behind it
pub member_put : (y x : ℕ) (l : List ℕ) → member y l ≡ false → (y == x) ≡ false → member y (l ++ (x ∷ [])) ≡ false
unfolding member
member_put y x l absent other = list_any-append (λ z. y == z) l (x ∷ []) ∙ or_from _ _ absent (or_from _ _ other refl)

-- After a number is met, the list is as long as before, and its used part lies in it and has nothing twice if it did so before.
module _ (x used : ℕ) (l : List ℕ) where
  goes : goes_in x used l ≡ true → (used < length l) × (member x (take used l) ≡ false)
  unfolding member
  goes e =
      let (room, absent) = (and-eq-true_iff (nat_lt used (length l)) (not (member x (take used l)))).0 e in
      (ltb-true used (length l) room, not-true (member x (take used l)) absent)

  pub length_places : length (places_after x used l) ≡ length l
  length_places = met (goes_in x used l) refl
    where
      met : (b : Bool) → goes_in x used l ≡ b → length (places_after x used l) ≡ length l
      met true e = let (room, absent) = goes e in sym (ap length (new x used l room absent).places) ∙ length-set l used x
      met false e = sym (ap length (stays x used l e).places)

  pub used_kept : used ≤ length l → used_after x used l ≤ length (places_after x used l)
  used_kept h = rw length_places (met (goes_in x used l) refl)
    where
      met : (b : Bool) → goes_in x used l ≡ b → used_after x used l ≤ length l
      met true e = let (room, absent) = goes e in omega (arith, (new x used l room absent).number)
      met false e = omega (arith, (stays x used l e).number)

  pub once_kept : twice (take used l) ≡ false → twice (take (used_after x used l) (places_after x used l)) ≡ false
  once_kept once = met (goes_in x used l) refl
    where
      met : (b : Bool) → goes_in x used l ≡ b → twice (take (used_after x used l) (places_after x used l)) ≡ false
      met true e =
          let (room, absent) = goes e in
          let after = new x used l room absent in
          sym (ap₂ (λ (n : ℕ) (t : List ℕ). twice (take n t)) after.number after.places)
          ∙ ap (λ (n : ℕ). twice (take n (slice_set l used x))) (add-one used)
          ∙ ap (λ (t : List ℕ). twice t) (take-suc-set l used x room)
          ∙ twice_put x (take used l) once absent
      met false e =
          let same = stays x used l e in
          sym (ap₂ (λ (n : ℕ) (t : List ℕ). twice (take n t)) same.number same.places) ∙ once
