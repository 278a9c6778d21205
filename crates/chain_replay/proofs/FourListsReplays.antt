-- Laws of calls over one recording, of the calls that four lists say: they lend windows of it, and a loop over them makes them all. A list
-- may be longer than the others: what it has beyond them asks for no call.
use Rattle.std.specs.Prelude.{ℕ, zero, suc, ◌+◌, ◌≤◌, ◌<◌, min, Bool, true, false, ◌≡◌, refl, List, [], ◌∷◌, length, take, drop, get_or}
use Rattle.std.proofs.Common.{ap, sym, subst, ◌∙◌, arith, add-one, length-drop, drop-cons}
use Rattle.scan_cdp.specs.declared.Settings.{Settings}
use Rattle.chain.specs.Calls.{Call, Windows, replies, reply_to}
use Rattle.chain.specs.Chain.{Kept}
use Rattle.chain_replay_calls.specs.OneCall.{Stand, call_at, stand_by}
use Rattle.chain_replay_calls.specs.declared.Asked.{Asked}
use Rattle.chain_replay.specs.FourLists.{asked_as, asked_in, calls_of_lists}
use Rattle.chain_replay.specs.Replays.{Replays, Stands}
use Rattle.chain_replay.proofs.FourListsLaws.{asked_lists, same_calls}
use Rattle.chain_replay.proofs.ReplaysLaws.{Turn, below_all, goes_on, stops}
use Rattle.chain_replay.proofs.ReplaysLaws as one_list

-- ---- windows

-- All calls lend windows of the recording.
pub windows : (recording : List ℕ) (kinds : List Bool) (firsts sizes : List ℕ) (lasts : List Bool)
    → Windows recording (calls_of_lists recording kinds firsts sizes lasts)
windows recording kinds firsts sizes lasts =
    subst (Windows recording) (same_calls recording kinds firsts sizes lasts) (one_list.windows recording (asked_lists kinds firsts sizes lasts))

-- ---- the first calls

-- The first of each list say the first calls.
pub first_calls : (n : ℕ) (recording : List ℕ) (kinds : List Bool) (firsts sizes : List ℕ) (lasts : List Bool)
    → calls_of_lists recording (take n kinds) (take n firsts) (take n sizes) (take n lasts)
    ≡ take n (calls_of_lists recording kinds firsts sizes lasts)
unfolding calls_of_lists
first_calls zero recording ks fs ns ls = refl
first_calls (suc n) recording [] fs ns ls = refl
first_calls (suc n) recording (k ∷ ks) [] ns ls = refl
first_calls (suc n) recording (k ∷ ks) (f ∷ fs) [] ls = refl
first_calls (suc n) recording (k ∷ ks) (f ∷ fs) (m ∷ ns) [] = refl
first_calls (suc n) recording (k ∷ ks) (f ∷ fs) (m ∷ ns) (l ∷ ls) =
    ap (λ (cs : List Call). call_at recording (asked_as k f m l) ∷ cs) (first_calls n recording ks fs ns ls)

-- ---- the calls from one on

abbrev pub calls_from : ℕ → List ℕ → List Bool → (firsts sizes : List ℕ) → List Bool → List Call
calls_from i recording kinds firsts sizes lasts = calls_of_lists recording (drop i kinds) (drop i firsts) (drop i sizes) (drop i lasts)

pub one_more : (i : ℕ) (recording : List ℕ) (kinds : List Bool) (firsts sizes : List ℕ) (lasts : List Bool)
    → (i < length kinds) × (i < length firsts) × (i < length sizes) × (i < length lasts)
    → calls_from i recording kinds firsts sizes lasts
    ≡ call_at recording (asked_in kinds firsts sizes lasts i) ∷ calls_from (i + 1) recording kinds firsts sizes lasts
unfolding calls_of_lists
one_more i recording kinds firsts sizes lasts (a, b, c, d) =
    λ j. calls_of_lists recording (next kinds false a j) (next firsts 0 b j) (next sizes 0 c j) (next lasts false d j)
  where
    next : {A : Type 0} (l : List A) (e : A) → i < length l → drop i l ≡ get_or l i e ∷ drop (i + 1) l
    next l e below = drop-cons l i e below ∙ ap (λ (k : ℕ). get_or l i e ∷ drop k l) (sym (add-one i))

-- And none behind.
pub no_more : (i n : ℕ) (recording : List ℕ) (kinds : List Bool) (firsts sizes : List ℕ) (lasts : List Bool)
    → n ≡ min (min (length kinds) (length firsts)) (min (length sizes) (length lasts)) → n ≤ i
    → calls_from i recording kinds firsts sizes lasts ≡ []
unfolding calls_of_lists
no_more i n recording kinds firsts sizes lasts is few =
    none (drop i kinds) (drop i firsts) (drop i sizes) (drop i lasts)
    (λ a b c d. omega (arith, is, few, longer kinds a, longer firsts b, longer sizes c, longer lasts d))
  where
    longer : {A : Type 0} (l : List A) → 0 < length (drop i l) → i < length l
    longer l some_left = omega (arith, some_left, length-drop i l)

    none : (bs : List Bool) (fs ns : List ℕ) (ls : List Bool)
        → (0 < length bs → 0 < length fs → 0 < length ns → 0 < length ls → ⊥) → calls_of_lists recording bs fs ns ls ≡ []
    none [] fs ns ls e = refl
    none (b ∷ bs) [] ns ls e = refl
    none (b ∷ bs) (f ∷ fs) [] ls e = refl
    none (b ∷ bs) (f ∷ fs) (n ∷ ns) [] e = refl
    none (b ∷ bs) (f ∷ fs) (n ∷ ns) (l ∷ ls) e = absurd (e (omega arith) (omega arith) (omega arith) (omega arith))

-- ---- the loop

-- With the next call these are all the replies, if it ends the chain, or there is one turn more.
module _ (recording : List ℕ) (set : Settings) (start : Kept) (kinds : List Bool) (firsts sizes : List ℕ) (lasts : List Bool)
    (i : ℕ) (at : Stand)
    (here : Turn set start (calls_of_lists recording kinds firsts sizes lasts) (calls_from i recording kinds firsts sizes lasts) i at)
    (n : ℕ) (fewest : n ≡ min (min (length kinds) (length firsts)) (min (length sizes) (length lasts))) (below : i < n)
    (asked : Asked) (as_said : asked ≡ asked_in kinds firsts sizes lasts i)
    (next : Stand) (is : next ≡ stand_by (reply_to set at.kept (call_at recording asked))) where
  abbrev calls : List Call
  calls = calls_of_lists recording kinds firsts sizes lasts

  abbrev call : Call
  call = call_at recording (asked_in kinds firsts sizes lasts i)

  abbrev onward : List Call
  onward = calls_from (i + 1) recording kinds firsts sizes lasts

  to_make : Turn set start calls (call ∷ onward) i at
  to_make =
      subst (λ (cs : List Call). Turn set start calls cs i at)
      (one_more i recording kinds firsts sizes lasts (below_all _ _ _ _ n i fewest below)) here

  made_so : next ≡ stand_by (reply_to set at.kept call)
  made_so = is ∙ ap (λ (a : Asked). stand_by (reply_to set at.kept (call_at recording a))) as_said

  pub call-stops : next.ends ≡ true → Stands start (replies set start calls) next (i + 1)
  call-stops = stops set start calls i call onward at to_make next made_so

  pub call_goes_on : next.ends ≡ false → Turn set start calls onward (i + 1) next
  call_goes_on = goes_on set start calls i call onward at to_make next made_so

-- What the calls reply is what the chain says.
pub follow : (recording : List ℕ) (set : Settings) (start : Kept) (kinds : List Bool) (firsts sizes : List ℕ) (lasts : List Bool)
    (at : Stand) (made : ℕ) → Stands start (replies set start (calls_of_lists recording kinds firsts sizes lasts)) at made
    → Replays recording set start (calls_of_lists recording kinds firsts sizes lasts) at made
follow recording set start kinds firsts sizes lasts at made =
    subst (λ (cs : List Call). Stands start (replies set start cs) at made → Replays recording set start cs at made)
    (same_calls recording kinds firsts sizes lasts) (one_list.follow recording set start (asked_lists kinds firsts sizes lasts) at made)
