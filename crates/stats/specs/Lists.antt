-- The lists of a scan: links and FEE ids, each listed when it is first met (K3), and what refusals 4 and 6 ask of a list. Only the used
-- part of a list counts.
use Rattle.std.specs.Prelude.{ℕ, ◌+◌, Bool, not, ◌&&◌, List, eqb, length, take, nat_le, nat_lt, slice_set}
use Rattle.std.specs.List.{list_any}
use Rattle.basis.specs.Pick.{pick}
unfoldable pub use Rattle.stats_search.specs.Search.{member, twice}

-- Whether what is met is listed: it is new, and the list has a place for it. `same` tells whether two are one.
abbrev pub goes_in_by : {A : Type 0} → (same : A → A → Bool) → A → ℕ → List A → Bool
goes_in_by same x used l = nat_lt used (length l) && not (list_any (same x) (take used l))

-- What is new is put at the first place behind the used part (K3). All other places stay as they are (W3).
abbrev pub places_by : {A : Type 0} → (same : A → A → Bool) → A → ℕ → List A → List A
places_by same x used l = pick (goes_in_by same x used l) (slice_set l used x) l

-- The used number after it.
abbrev pub used_by : {A : Type 0} → (same : A → A → Bool) → A → ℕ → List A → ℕ
used_by same x used l = pick (goes_in_by same x used l) (used + 1) used

-- Whether what is met is new and the list has no place for it, which for a FEE id is refusal 4 (K4).
abbrev pub full_by : {A : Type 0} → (same : A → A → Bool) → A → ℕ → List A → Bool
full_by same x used l = nat_le (length l) used && not (list_any (same x) (take used l))

-- The same of links and of FEE ids, which are numbers.
abbrev pub goes_in : ℕ → ℕ → List ℕ → Bool
goes_in x used l = goes_in_by eqb x used l

unfoldable pub places_after : ℕ → ℕ → List ℕ → List ℕ
places_after x used l = places_by eqb x used l

unfoldable pub used_after : ℕ → ℕ → List ℕ → ℕ
used_after x used l = used_by eqb x used l

unfoldable pub full : ℕ → ℕ → List ℕ → Bool
full x used l = full_by eqb x used l
