-- Laws of what is listed twice, and of a walk from the front that finds it.
use Rattle.std.specs.Prelude.{ℕ, suc, ◌+◌, ◌<◌, ◌≤◌, min, Bool, true, false, ◌||◌, ◌≡◌, refl, List, [], ◌∷◌, ◌++◌, eqb, length, take, drop, get_or, set, replicate}
use Rattle.std.proofs.Math.Bool.{or-true, or-false}
use Rattle.std.proofs.Math.Seq.{take-suc, drop-cons}
use Rattle.std.proofs.Common.{ap, sym, ◌∙◌, arith, add-one, eq-eqb, ne_eqb, eqb-true, length-set, get_or-set_same, get_or-set_other}
use Rattle.std.proofs.lemmas.Bool.{eqb-false, or_from, or_parts}
use Rattle.std.proofs.lemmas.List.{get_or-replicate, take_all, take-append-drop, take_min}
use Rattle.std.proofs.lemmas.List.Folds.{list_any-append}
use Rattle.stats_search.specs.Search.{member, twice}

-- ---- a number put behind a list

-- what a list does not have, it does not have with another number behind it
member_put : (y x : ℕ) (l : List ℕ) → member y l ≡ false → eqb x y ≡ false → member y (l ++ (x ∷ [])) ≡ false
unfolding member
member_put y x l absent other =
    list_any-append (eqb y) l (x ∷ []) ∙ or_from _ _ absent (or_from _ _ (ne_eqb y x (λ same. eqb-false x y other (sym same))) refl)

-- a list with nothing twice has nothing twice with a new number behind it
pub twice_put : (x : ℕ) (l : List ℕ) → twice l ≡ false → member x l ≡ false → twice (l ++ (x ∷ [])) ≡ false
unfolding member twice
twice_put x [] once absent = refl
twice_put x (y ∷ l) once absent =
    let (other, later) = or_parts (eqb x y) (member x l) absent in
    let (alone, rest) = or_parts (member y l) (twice l) once in
    or_from _ _ (member_put y x l alone other) (twice_put x l rest later)

-- a number that is listed and stands behind the list too is listed twice
twice_met : (x : ℕ) (l rest : List ℕ) → member x l ≡ true → twice (l ++ (x ∷ rest)) ≡ true
unfolding member twice
twice_met x [] rest met = absurd cc
twice_met x (y ∷ l) rest met = by_first (twice_met x l rest) (eqb x y) refl
  where
    by_first : (member x l ≡ true → twice (l ++ (x ∷ rest)) ≡ true) → (b : Bool) → eqb x y ≡ b → twice (y ∷ (l ++ (x ∷ rest))) ≡ true
    by_first later true same =
        ap (λ (b : Bool). b || twice (l ++ (x ∷ rest)))
        (list_any-append (eqb y) l (x ∷ rest) ∙ ap (λ (b : Bool). member y l || (b || member y rest)) (eq-eqb y x (sym (eqb-true x y same)))
        ∙ or-true (member y l))
    by_first later false other =
        ap (λ (b : Bool). member y (l ++ (x ∷ rest)) || b) (later (ap (λ (b : Bool). b || member x l) (sym other) ∙ met))
        ∙ or-true (member y (l ++ (x ∷ rest)))

-- ---- a walk from the front

-- What the walk knows of the first i elements: none of them is listed twice, and which numbers are among them.
pub record Walked (l : List ℕ) (i : ℕ) (seen : List Bool) : Type 0 where
  pub table : length seen ≡ 256
  pub once : twice (take i l) ≡ false
  pub listed : (x : ℕ) → x < 256 → get_or seen x false ≡ member x (take i l)

pub walk_begins : (l : List ℕ) → Walked l 0 (replicate 256 false)
unfolding twice member
walk_begins l = record { table = refl; once = refl; listed = λ x below. get_or-replicate 256 x false false below }

pub walk_ends : (l : List ℕ) (i : ℕ) (seen : List Bool) → Walked l i seen → length l ≤ i → false ≡ twice l
walk_ends l i seen walked end = sym walked.once ∙ ap (λ (t : List ℕ). twice t) (take_all i l end)

-- the walk goes along the first n elements, which are the used ones
pub used_part : (links : List ℕ) (used n : ℕ) → n ≡ min used (length links) → twice (take n links) ≡ twice (take used links)
used_part links used n is = ap (λ (t : List ℕ). twice t) (ap (λ (k : ℕ). take k links) is ∙ take_min used links)

-- the walk is at an element, which is below 256
module _ (l : List ℕ) (i x : ℕ) (seen : List Bool) (walked : Walked l i seen) (inside : i < length l) (is : x ≡ get_or l i 0) (byte : x < 256) where
  at_element : take (i + 1) l ≡ take i l ++ (x ∷ [])
  at_element = ap (λ (k : ℕ). take k l) (add-one i) ∙ take-suc l i 0 inside ∙ ap (λ (y : ℕ). take i l ++ (y ∷ [])) (sym is)

  pub walk_finds : get_or seen x false ≡ true → true ≡ twice l
  walk_finds met =
      sym (ap (λ (t : List ℕ). twice t)
      (sym (take-append-drop i l)
      ∙ ap (λ (t : List ℕ). take i l ++ t) (drop-cons l i 0 inside ∙ ap (λ (y : ℕ). y ∷ drop (suc i) l) (sym is)))
      ∙ twice_met x (take i l) (drop (suc i) l) (sym (walked.listed x byte) ∙ met))

  pub walk_goes_on : get_or seen x false ≡ false → Walked l (i + 1) (set seen x true)
  unfolding member
  walk_goes_on new =
      record {
        table = length-set seen x true ∙ walked.table;
        once = ap (λ (t : List ℕ). twice t) at_element ∙ twice_put x (take i l) walked.once (sym (walked.listed x byte) ∙ new);
        listed = λ y below.
            looked_up y below (eqb y x) refl
            ∙ sym (ap (λ (t : List ℕ). member y t) at_element ∙ list_any-append (eqb y) (take i l) (x ∷ []));
      }
    where
      looked_up : (y : ℕ) → y < 256 → (b : Bool) → eqb y x ≡ b → get_or (set seen x true) y false ≡ (member y (take i l) || (eqb y x || false))
      looked_up y below true same =
          ap (λ (k : ℕ). get_or (set seen x true) k false) (eqb-true y x same)
          ∙ get_or-set_same seen x true false (omega (arith, walked.table))
          ∙ sym (ap (λ (b : Bool). member y (take i l) || (b || false)) same ∙ or-true (member y (take i l)))
      looked_up y below false other =
          get_or-set_other seen x y true false (eqb-false y x other)
          ∙ walked.listed y below
          ∙ sym (ap (λ (b : Bool). member y (take i l) || (b || false)) other ∙ or-false (member y (take i l)))
