-- Laws of calls that four lists say: they are those of one list of what is asked for, so that the loop over four lists is the loop over that.
use Rattle.std.specs.Prelude.{ℕ, zero, suc, ◌+◌, ◌≤◌, ◌<◌, min, Bool, true, false, ◌≡◌, refl, List, [], ◌∷◌, length, take, get_or, Option, Some}
use Rattle.std.proofs.Common.{ap, sym, subst, ◌∙◌, arith}
use Rattle.scan_cdp.specs.Scans.{SameScan}
use Rattle.scan_cdp.specs.declared.Scan.{Scan}
use Rattle.chain.specs.Calls.{Call, reply_to}
use Rattle.chain_replay_calls.specs.OneCall.{call_at, keeps, stand_by, stand_of}
use Rattle.chain_replay_calls.specs.declared.Asked.{Asked}
use Rattle.chain_replay_calls.specs.declared.Called.{Called}
use Rattle.chain_replay.specs.FourLists.{asked_as, asked_in, calls_of_lists}
use Rattle.chain_replay.specs.Replays.{Replays, calls_of, stand_at}
use Rattle.chain_replay.proofs.ReplaysLaws.{Made, below_all, call_goes_on, call_stops, calls_made}

-- ---- one list for four

unfoldable pub asked_lists : List Bool → (firsts sizes : List ℕ) → List Bool → List Asked
asked_lists [] firsts sizes lasts = []
asked_lists (b ∷ bs) [] sizes lasts = []
asked_lists (b ∷ bs) (f ∷ fs) [] lasts = []
asked_lists (b ∷ bs) (f ∷ fs) (n ∷ ns) [] = []
asked_lists (b ∷ bs) (f ∷ fs) (n ∷ ns) (l ∷ ls) = asked_as b f n l ∷ asked_lists bs fs ns ls

-- It says the same calls.
pub same_calls : (recording : List ℕ) (kinds : List Bool) (firsts sizes : List ℕ) (lasts : List Bool)
    → calls_of recording (asked_lists kinds firsts sizes lasts) ≡ calls_of_lists recording kinds firsts sizes lasts
unfolding calls_of calls_of_lists asked_lists
same_calls recording [] fs ns ls = refl
same_calls recording (b ∷ bs) [] ns ls = refl
same_calls recording (b ∷ bs) (f ∷ fs) [] ls = refl
same_calls recording (b ∷ bs) (f ∷ fs) (n ∷ ns) [] = refl
same_calls recording (b ∷ bs) (f ∷ fs) (n ∷ ns) (l ∷ ls) =
    ap (λ (cs : List Call). call_at recording (asked_as b f n l) ∷ cs) (same_calls recording bs fs ns ls)

-- It has as many as the shortest of the four.
as_many : (kinds : List Bool) (firsts sizes : List ℕ) (lasts : List Bool)
    → length (asked_lists kinds firsts sizes lasts) ≡ min (min (length kinds) (length firsts)) (min (length sizes) (length lasts))
unfolding asked_lists
as_many [] fs ns ls = omega arith
as_many (b ∷ bs) [] ns ls = omega arith
as_many (b ∷ bs) (f ∷ fs) [] ls = omega arith
as_many (b ∷ bs) (f ∷ fs) (n ∷ ns) [] = omega arith
as_many (b ∷ bs) (f ∷ fs) (n ∷ ns) (l ∷ ls) = omega (arith, as_many bs fs ns ls)

-- At each number it has what the four have there.
each_in : (i : ℕ) (kinds : List Bool) (firsts sizes : List ℕ) (lasts : List Bool) (d : Asked)
    → (i < length kinds) × (i < length firsts) × (i < length sizes) × (i < length lasts)
    → get_or (asked_lists kinds firsts sizes lasts) i d ≡ asked_in kinds firsts sizes lasts i
unfolding asked_lists
each_in i [] fs ns ls d (below, _, _, _) = absurd (omega (arith, below))
each_in i (b ∷ bs) [] ns ls d (_, below, _, _) = absurd (omega (arith, below))
each_in i (b ∷ bs) (f ∷ fs) [] ls d (_, _, below, _) = absurd (omega (arith, below))
each_in i (b ∷ bs) (f ∷ fs) (n ∷ ns) [] d (_, _, _, below) = absurd (omega (arith, below))
each_in zero (b ∷ bs) (f ∷ fs) (n ∷ ns) (l ∷ ls) d below = refl
each_in (suc i) (b ∷ bs) (f ∷ fs) (n ∷ ns) (l ∷ ls) d (p, q, r, s) =
    each_in i bs fs ns ls d (omega (arith, p), omega (arith, q), omega (arith, r), omega (arith, s))

pub first_asked : (n : ℕ) (kinds : List Bool) (firsts sizes : List ℕ) (lasts : List Bool)
    → asked_lists (take n kinds) (take n firsts) (take n sizes) (take n lasts) ≡ take n (asked_lists kinds firsts sizes lasts)
unfolding asked_lists
first_asked zero ks fs ns ls = refl
first_asked (suc n) [] fs ns ls = refl
first_asked (suc n) (k ∷ ks) [] ns ls = refl
first_asked (suc n) (k ∷ ks) (f ∷ fs) [] ls = refl
first_asked (suc n) (k ∷ ks) (f ∷ fs) (m ∷ ns) [] = refl
first_asked (suc n) (k ∷ ks) (f ∷ fs) (m ∷ ns) (l ∷ ls) =
    ap (λ (asked : List Asked). asked_as k f m l ∷ asked) (first_asked n ks fs ns ls)

-- ---- the loop

-- With the next call these are all, if it ends the chain, or there is one turn more.
module _ (kinds : List Bool) (firsts sizes : List ℕ) (lasts : List Bool)
    {start scan next : Scan} {recording : List ℕ} {last : Option Called} {made i n : ℕ}
    (here : Made start recording (asked_lists kinds firsts sizes lasts) scan last made i)
    (fewest : n ≡ min (min (length kinds) (length firsts)) (min (length sizes) (length lasts))) (below : i < n)
    (asked : Asked) (as_said : asked ≡ asked_in kinds firsts sizes lasts i) (called : Called)
    (stands : stand_of recording called next ≡ stand_by (reply_to scan.set (keeps scan) (call_at recording asked)))
    (same : SameScan scan next) where
  abbrev all : List Asked
  all = asked_lists kinds firsts sizes lasts

  in_all : i < length all
  in_all = omega (arith, as_many kinds firsts sizes lasts, fewest, below)

  stands_there : stand_of recording called next ≡ stand_by (reply_to scan.set (keeps scan) (call_at recording (get_or all i asked)))
  stands_there =
      stands
      ∙ ap (λ (a : Asked). stand_by (reply_to scan.set (keeps scan) (call_at recording a)))
      (as_said ∙ sym (each_in i kinds firsts sizes lasts asked (below_all _ _ _ _ n i fewest below)))

  pub stops_in_lists : called.ends ≡ true
      → Replays recording start.set (keeps start) (calls_of_lists recording kinds firsts sizes lasts) (stand_of recording called next) (made + 1)
  stops_in_lists e =
      subst (λ (cs : List Call). Replays recording start.set (keeps start) cs (stand_of recording called next) (made + 1))
      (same_calls recording kinds firsts sizes lasts) (call_stops here in_all asked called stands_there same e)

  pub goes_on_in_lists : called.ends ≡ false → Made start recording (asked_lists kinds firsts sizes lasts) next (Some called) (made + 1) (i + 1)
  goes_on_in_lists = call_goes_on here in_all asked called stands_there same

-- And where one of the lists has no more, these are all, too.
pub all_in_lists : (kinds : List Bool) (firsts sizes : List ℕ) (lasts : List Bool)
    {start scan : Scan} {recording : List ℕ} {last : Option Called} {made i n : ℕ}
    → Made start recording (asked_lists kinds firsts sizes lasts) scan last made i
    → n ≡ min (min (length kinds) (length firsts)) (min (length sizes) (length lasts)) → n ≤ i
    → Replays recording start.set (keeps start) (calls_of_lists recording kinds firsts sizes lasts) (stand_at recording last scan) made
all_in_lists kinds firsts sizes lasts {start} {scan} {recording} {last} {made} {i} {n} here fewest few =
    subst (λ (cs : List Call). Replays recording start.set (keeps start) cs (stand_at recording last scan) made)
    (same_calls recording kinds firsts sizes lasts)
    (calls_made here (omega (arith, as_many kinds firsts sizes lasts, fewest, few)))
