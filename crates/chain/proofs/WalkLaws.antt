-- Laws of the walk: it goes one step at a time, each of which is the next one where the scan stands, and what is collected along it is
-- collected step by step.
use Rattle.std.specs.Prelude.{ℕ, Bool, ◌≡◌}
use Rattle.std.proofs.Math.Bool.{true, false}
use Rattle.std.proofs.Math.Path.{refl, ap}
use Rattle.std.proofs.Common.{sym, subst, ◌∙◌}
use mathlib.Core.List.{List, [], ◌∷◌, ◌++◌, flat_map, map}
use Rattle.basis.specs.Each.{Each}
use Rattle.basis.specs.Pick.{pick}
use Rattle.scan_cdp.specs.Steps.{Entry}
use Rattle.scan_cdp.specs.declared.Settings.{Settings}
use Rattle.chain.specs.Chain.{Kept, chain, is_refused, left, next}
use Rattle.chain.proofs.ChainLaws.{chain_induction, chain_unfolds}
use Rattle.chain.specs.Walk.{Met, met, walk, walk_along}

-- The entries of a walk are those that it goes along.
along_entries : (recording : List ℕ) (k : Kept) (es : List (Entry (List ℕ))) → map (λ (m : Met). m.entry) (walk_along recording k es) ≡ es
unfolding walk_along
along_entries recording k [] = refl
along_entries recording k (e ∷ es) = ap (λ (others : List (Entry (List ℕ))). e ∷ others) (along_entries recording (left e) es)

pub walk_entries : (recording : List ℕ) (set : Settings) (start : Kept)
    → map (λ (m : Met). m.entry) (walk recording set start) ≡ chain recording set start
unfolding walk
walk_entries recording set start = along_entries recording start (chain recording set start)

module _ (recording : List ℕ) (set : Settings) where
  -- what is met behind the next entry: nothing where that is refused
  abbrev pub met_behind : Kept → List Met
  met_behind k = pick (is_refused (next recording set k).answer) [] (walk recording set (left (next recording set k)))

  -- The walk is the next step and, unless its entry is refused, the walk from there on.
  pub walk_unfolds : (k : Kept) → walk recording set k ≡ met recording set k ∷ met_behind k
  unfolding walk walk_along
  walk_unfolds k =
      ap (walk_along recording k) (chain_unfolds recording set k)
      ∙ ap (λ (ms : List Met). met recording set k ∷ ms) (onward (is_refused (next recording set k).answer))
    where
      onward : (b : Bool)
          → walk_along recording (left (next recording set k)) (pick b [] (chain recording set (left (next recording set k))))
          ≡ pick b [] (walk recording set (left (next recording set k)))
      onward true = refl
      onward false = refl

  -- What holds of each next step holds of every one that is met.
  pub each_met : (P : Met → Type 0) → ((k : Kept) → P (met recording set k)) → (start : Kept) → Each P (walk recording set start)
  each_met P here =
      chain_induction recording set (λ k. Each P (walk recording set k)) (λ k onward.
      subst (Each P) (sym (walk_unfolds k)) (here k, behind-each k (is_refused (next recording set k).answer) refl onward))
    where
      behind-each : (k : Kept) (b : Bool) → is_refused (next recording set k).answer ≡ b
          → (is_refused (next recording set k).answer ≡ false → Each P (walk recording set (left (next recording set k))))
          → Each P (pick b [] (walk recording set (left (next recording set k))))
      behind-each k true refused onward = tt
      behind-each k false goes onward = onward goes

  -- Each is the next step from what was kept before it.
  pub met_next : (start : Kept) → Each (λ m. m ≡ met recording set m.before) (walk recording set start)
  met_next = each_met (λ m. m ≡ met recording set m.before) (λ k. refl)

-- ---- what is collected along a walk

collected-each : {A : Type 0} (f g : Met → List A) (ms : List Met) → Each (λ m. f m ≡ g m) ms → flat_map f ms ≡ flat_map g ms
unfolding flat_map
collected-each f g [] each = refl
collected-each f g (m ∷ ms) (here, each) = λ i. here i ++ collected-each f g ms each i

-- What agrees at each next step agrees along the walk.
pub same_collected : {A : Type 0} (f g : Met → List A) (recording : List ℕ) (set : Settings) (start : Kept)
    → ((k : Kept) → f (met recording set k) ≡ g (met recording set k))
    → flat_map f (walk recording set start) ≡ flat_map g (walk recording set start)
same_collected f g recording set start here =
    collected-each f g (walk recording set start) (each_met recording set (λ m. f m ≡ g m) here start)

collected_along : {A : Type 0} (f : Entry (List ℕ) → List A) (recording : List ℕ) (k : Kept) (es : List (Entry (List ℕ)))
    → flat_map f es ≡ flat_map (λ (m : Met). f m.entry) (walk_along recording k es)
unfolding flat_map walk_along
collected_along f recording k [] = refl
collected_along f recording k (e ∷ es) = ap (λ (others : List _). f e ++ others) (collected_along f recording (left e) es)

-- What the chain's entries alone tell can be collected along the walk.
pub entries_collected : {A : Type 0} (f : Entry (List ℕ) → List A) (recording : List ℕ) (set : Settings) (start : Kept)
    → flat_map f (chain recording set start) ≡ flat_map (λ (m : Met). f m.entry) (walk recording set start)
unfolding walk
entries_collected f recording set start = collected_along f recording start (chain recording set start)
