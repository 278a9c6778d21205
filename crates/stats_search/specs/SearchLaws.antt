-- Laws of searches: one from the front, and a walk from the back for what is listed twice.
use Rattle.std.specs.Prelude.{ℕ, zero, suc, ◌+◌, ◌<◌, ◌≤◌, min, Bool, true, false, ◌||◌, ◌≡◌, refl, eqb, length, take, drop, get_or, set, replicate}
use Rattle.std.proofs.Math.Bool.{or-true}
use Rattle.std.proofs.Math.Path.{ap, sym}
use Rattle.std.proofs.Common.{◌∙◌, arith, add-one, eq-eqb, ne_eqb, eqb-true, length-set, drop_of_length-le, drop-cons, get_or-take, get_or-set_same, get_or-set_other}
use mathlib.Core.List.{List, [], ◌∷◌}
use Rattle.std.proofs.lemmas.Bool.{eqb-false}
use Rattle.std.proofs.Math.ListN.{length-take}
use Rattle.std.proofs.lemmas.List.{get_or-replicate}
use Rattle.stats_search.specs.Search.{member, twice}

-- a search looks at one element, then at the rest
pub member-at : (x : ℕ) (l : List ℕ) (i : ℕ) → i < length l → member x (drop i l) ≡ (eqb x (get_or l i 0) || member x (drop (suc i) l))
unfolding member
member-at x l i h = ap (λ (t : List ℕ). member x t) (drop-cons l i 0 h)

pub twice-at : (l : List ℕ) (i : ℕ) → i < length l → twice (drop i l) ≡ (member (get_or l i 0) (drop (suc i) l) || twice (drop (suc i) l))
unfolding twice
twice-at l i h = ap (λ (t : List ℕ). twice t) (drop-cons l i 0 h)

-- what is listed twice in a part is listed twice
pub twice-part : (l : List ℕ) (i : ℕ) → twice (drop i l) ≡ true → twice l ≡ true
unfolding twice
twice-part l zero e = e
twice-part [] (suc i) e = e
twice-part (y ∷ l) (suc i) e = ap (λ (b : Bool). member y l || b) (twice-part l i e) ∙ or-true (member y l)

-- ---- a search through the used part, which has looked at the elements before i

module _ (x : ℕ) (l : List ℕ) (used i : ℕ) (so_far : member x (take used l) ≡ member x (drop i (take used l))) where
  within : i < min used (length l) → i < length (take used l)
  within h = omega (arith, length-take used l)

  here : i < min used (length l) → member x (take used l) ≡ (eqb x (get_or l i 0) || member x (drop (suc i) (take used l)))
  here h =
      so_far ∙ member-at x (take used l) i (within h)
      ∙ ap (λ (y : ℕ). eqb x y || member x (drop (suc i) (take used l))) (get_or-take used l i 0 (omega arith))

  pub found : i < min used (length l) → get_or l i 0 ≡ x → true ≡ member x (take used l)
  found h e = sym (here h ∙ ap (λ (b : Bool). b || member x (drop (suc i) (take used l))) (eq-eqb x (get_or l i 0) (sym e)))

  pub not_here : i < min used (length l) → (get_or l i 0 ≡ x → ⊥) → member x (take used l) ≡ member x (drop (i + 1) (take used l))
  not_here h differs =
      here h ∙ ap (λ (b : Bool). b || member x (drop (suc i) (take used l))) (ne_eqb x (get_or l i 0) (λ e. differs (sym e)))
      ∙ ap (λ (k : ℕ). member x (drop k (take used l))) (sym (add-one i))

  pub not_found : min used (length l) ≤ i → false ≡ member x (take used l)
  unfolding member
  not_found h =
      sym (so_far ∙ ap (λ (t : List ℕ). member x t) (drop_of_length-le (take used l) {i = i} (omega (arith, length-take used l))))

-- ---- a walk through the used part from its end, which has come down to the element behind i

-- What the walk knows of the elements from k on: none of them is listed twice, and which numbers are listed.
pub record Walked (l : List ℕ) (used k : ℕ) (later : List Bool) : Type 0 where
  pub within : k ≤ min used (length l)
  pub table : length later ≡ 256
  pub once : twice (drop k (take used l)) ≡ false
  pub listed : (x : ℕ) → x < 256 → get_or later x false ≡ member x (drop k (take used l))

pub walk_begins : (l : List ℕ) (used : ℕ) → Walked l used (min used (length l)) (replicate 256 false)
unfolding twice member
walk_begins l used =
    let none = drop_of_length-le (take used l) {i = min used (length l)} (omega (arith, length-take used l)) in
    record {
      within = omega arith;
      table = refl;
      once = ap (λ (t : List ℕ). twice t) none;
      listed = λ x below. get_or-replicate 256 x false false below ∙ sym (ap (λ (t : List ℕ). member x t) none);
    }

module _ (l : List ℕ) (used i : ℕ) (later : List Bool) (walked : Walked l used (suc i) later) where
  inside : i < length (take used l)
  inside = omega (arith, walked.within, length-take used l)

  element : get_or (take used l) i 0 ≡ get_or l i 0
  element = get_or-take used l i 0 (omega (arith, walked.within))

  walked_member : (x : ℕ) → member x (drop i (take used l)) ≡ (eqb x (get_or l i 0) || member x (drop (suc i) (take used l)))
  walked_member x =
      member-at x (take used l) i inside ∙ ap (λ (y : ℕ). eqb x y || member x (drop (suc i) (take used l))) element

  pub walk_finds : get_or l i 0 < 256 → get_or later (get_or l i 0) false ≡ true → true ≡ twice (take used l)
  walk_finds byte e =
      sym (twice-part (take used l) i
      (twice-at (take used l) i inside
      ∙ ap (λ (b : Bool). b || twice (drop (suc i) (take used l)))
      (ap (λ (y : ℕ). member y (drop (suc i) (take used l))) element ∙ sym (walked.listed (get_or l i 0) byte) ∙ e)))

  pub walk_goes_on : get_or l i 0 < 256 → get_or later (get_or l i 0) false ≡ false → Walked l used i (set later (get_or l i 0) true)
  walk_goes_on byte e =
      record {
        within = omega (arith, walked.within);
        table = length-set later (get_or l i 0) true ∙ walked.table;
        once =
            twice-at (take used l) i inside
            ∙ ap (λ (b : Bool). b || twice (drop (suc i) (take used l)))
            (ap (λ (y : ℕ). member y (drop (suc i) (take used l))) element ∙ sym (walked.listed (get_or l i 0) byte) ∙ e)
            ∙ walked.once;
        listed = λ x below. looked_up x below (eqb x (get_or l i 0)) refl;
      }
    where
      looked_up : (x : ℕ) → x < 256 → (b : Bool) → eqb x (get_or l i 0) ≡ b
          → get_or (set later (get_or l i 0) true) x false ≡ member x (drop i (take used l))
      looked_up x below true same =
          ap (λ (k : ℕ). get_or (set later (get_or l i 0) true) k false) (eqb-true x (get_or l i 0) same)
          ∙ get_or-set_same later (get_or l i 0) true false (omega (arith, walked.table))
          ∙ sym (walked_member x ∙ ap (λ (b : Bool). b || member x (drop (suc i) (take used l))) same)
      looked_up x below false other =
          get_or-set_other later (get_or l i 0) x true false (eqb-false x (get_or l i 0) other)
          ∙ walked.listed x below
          ∙ sym (walked_member x ∙ ap (λ (b : Bool). b || member x (drop (suc i) (take used l))) other)

pub walk_ends : (l : List ℕ) (used k : ℕ) (later : List Bool) → Walked l used k later → k ≤ 0 → false ≡ twice (take used l)
walk_ends l used zero later walked e = sym walked.once
walk_ends l used (suc k) later walked e = absurd (omega arith)
