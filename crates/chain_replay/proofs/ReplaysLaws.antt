-- Laws of calls over one recording: they lend windows of it, and a loop over them makes them all.
use Rattle.std.specs.Prelude.{ℕ, ◌+◌, ◌≤◌, ◌<◌, min, Bool, true, false, ◌≡◌, refl, length, drop, get_or, Option, Some, None}
use Rattle.std.proofs.Math.Path.{ap}
use Rattle.std.proofs.Common.{sym, subst, ◌∙◌, arith, add-one, length-drop, drop-cons}
use Rattle.std.proofs.lemmas.List.{drop_all}
use mathlib.Core.List.{List, [], ◌∷◌}
use Rattle.basis.specs.Pick.{pick}
use Rattle.scan_cdp.specs.Scans.{SameScan}
use Rattle.scan_cdp.specs.declared.Scan.{Scan}
use Rattle.scan_cdp.specs.declared.Settings.{Settings}
use Rattle.chain.specs.Calls.{Call, Reply, Windows, kept_by, replies, reply_to}
use Rattle.chain.proofs.CallsFollowLaws.{calls_follow}
use Rattle.chain.specs.Chain.{Kept}
use Rattle.chain.specs.Following.{replies_of}
use Rattle.chain_replay_calls.specs.OneCall.{Stand, call_at, keeps, stand_by, stand_of}
use Rattle.chain_replay_calls.proofs.OneCallLaws.{lends, window_of_lem}
use Rattle.chain_replay_calls.specs.declared.Asked.{Asked}
use Rattle.chain_replay_calls.specs.declared.Called.{Called}
use Rattle.chain_replay.specs.Replays.{Replays, Stands, calls_of, stand_after, stand_at, stand_with}

-- ---- windows

-- All calls lend windows of the recording.
pub windows : (recording : List ℕ) (asked : List Asked) → Windows recording (calls_of recording asked)
unfolding calls_of
windows recording [] = tt
windows recording (a ∷ rest) = (lends recording a.kind _ (window_of_lem recording a), windows recording rest)

-- ---- the calls from one on

abbrev pub calls_from : ℕ → List ℕ → List Asked → List Call
calls_from i recording asked = calls_of recording (drop i asked)

pub one_more : (i : ℕ) (recording : List ℕ) (asked : List Asked) (d : Asked) → i < length asked
    → calls_from i recording asked ≡ call_at recording (get_or asked i d) ∷ calls_from (i + 1) recording asked
unfolding calls_of
one_more i recording asked d below =
    ap (calls_of recording) (drop-cons asked i d below ∙ ap (λ (j : ℕ). get_or asked i d ∷ drop j asked) (sym (add-one i)))

-- And none behind.
pub no_more : (i : ℕ) (recording : List ℕ) (asked : List Asked) → length asked ≤ i → calls_from i recording asked ≡ []
unfolding calls_of
no_more i recording asked all = ap (calls_of recording) (drop_all i asked all)

-- ---- the loop

-- A turn of the loop: i calls are made, none of which ended the chain, and all the replies are those so far and those to the calls to come.
pub record Turn (set : Settings) (start : Kept) (calls to_come_lem : List Call) (i : ℕ) (at : Stand) : Type 0 where
  pub stands : stand_with at (replies set at.kept to_come_lem) ≡ stand_after start (replies set start calls)
  pub made : i + length (replies set at.kept to_come_lem) ≡ length (replies set start calls)

pub no_turn : (set : Settings) (start : Kept) (calls : List Call) → Turn set start calls calls 0 (stand_after start [])
no_turn set start calls = record { stands = refl; made = omega arith }

-- One call more.
module _ (set : Settings) (start : Kept) (calls : List Call) (i : ℕ) (c : Call) (cs : List Call) (at : Stand)
    (here : Turn set start calls (c ∷ cs) i at) (next : Stand) (is : next ≡ stand_by (reply_to set at.kept c)) where
  abbrev r : Reply
  r = reply_to set at.kept c

  unfolds : (b : Bool) → next.ends ≡ b → replies set at.kept (c ∷ cs) ≡ r ∷ pick b [] (replies set (kept_by r) cs)
  unfolding replies_of
  unfolds b e = ap (λ (x : Bool). r ∷ pick x [] (replies set (kept_by r) cs)) (sym (ap (λ (s : Stand). s.ends) is) ∙ e)

  -- If it ends the chain, these are all the replies.
  pub stops : next.ends ≡ true → Stands start (replies set start calls) next (i + 1)
  stops e =
      let all = unfolds true e in
      let n = ap (λ (rs : List Reply). length rs) all in
      record { last = is ∙ sym (ap (stand_with at) all) ∙ here.stands; made = omega (arith, n, here.made) }

  -- And else it is one turn more.
  pub goes_on : next.ends ≡ false → Turn set start calls cs (i + 1) next
  goes_on e =
      let all = unfolds false e in
      let n = ap (λ (rs : List Reply). length rs) all in
      let m = ap (λ (s : Stand). length (replies set s.kept cs)) is in
      record {
        stands = ap (λ (s : Stand). stand_with s (replies set s.kept cs)) is ∙ sym (ap (stand_with at) all) ∙ here.stands;
        made = omega (arith, n, m, here.made);
      }

-- What holds in a loop over what is asked: i calls are made, on the scan from the start on.
pub record Made (start : Scan) (recording : List ℕ) (asked : List Asked) (scan : Scan) (last : Option Called) (made i : ℕ) : Type 0 where
  pub turn : Turn start.set (keeps start) (calls_of recording asked) (calls_from i recording asked) i (stand_at recording last scan)
  pub same : SameScan start scan
  pub counted : made ≡ i

pub none_made : {start : Scan} {recording : List ℕ} {asked : List Asked} → Made start recording asked start None 0 0
none_made =
    record {
      turn = no_turn _ _ _;
      same = record { set = refl; links = refl; triggers = refl; fee_ids = refl; links_length = refl; fee_ids_length = refl };
      counted = refl;
    }

pub same_on : {a b c : Scan} → SameScan a b → SameScan b c → SameScan a c
same_on p q =
    record {
      set = q.set ∙ p.set;
      links = q.links ∙ p.links;
      triggers = q.triggers ∙ p.triggers;
      fee_ids = q.fee_ids ∙ p.fee_ids;
      links_length = q.links_length ∙ p.links_length;
      fee_ids_length = q.fee_ids_length ∙ p.fee_ids_length;
    }

-- With no call to come, these are all the replies, too.
pub all_made : (set : Settings) (start : Kept) (calls cs : List Call) (i : ℕ) (at : Stand) → Turn set start calls cs i at → cs ≡ []
    → Stands start (replies set start calls) at i
unfolding replies_of
all_made set start calls cs i at here none =
    let all = ap (replies set at.kept) none in
    let n = ap (λ (rs : List Reply). length rs) all in
    record { last = sym (ap (stand_with at) all) ∙ here.stands; made = omega (arith, n, here.made) }

-- What the calls reply is what the chain says: the theorem of demand 3.
pub follow : (recording : List ℕ) (set : Settings) (start : Kept) (asked : List Asked) (at : Stand) (made : ℕ)
    → Stands start (replies set start (calls_of recording asked)) at made → Replays recording set start (calls_of recording asked) at made
follow recording set start asked at made =
    subst (λ (rs : List Reply). Stands start rs at made)
    (calls_follow recording set start (calls_of recording asked) (windows recording asked))

-- With the next call these are all, if it ends the chain, or there is one turn more.
module _ {start scan next : Scan} {recording : List ℕ} {asked : List Asked} {last : Option Called} {made i : ℕ}
    (here : Made start recording asked scan last made i) (below : i < length asked) (d : Asked) (called : Called)
    (stands : stand_of recording called next ≡ stand_by (reply_to scan.set (keeps scan) (call_at recording (get_or asked i d))))
    (same : SameScan scan next) where
  abbrev call : Call
  call = call_at recording (get_or asked i d)

  to_make : Turn start.set (keeps start) (calls_of recording asked) (call ∷ calls_from (i + 1) recording asked) i (stand_at recording last scan)
  to_make =
      subst (λ (cs : List Call). Turn start.set (keeps start) (calls_of recording asked) cs i (stand_at recording last scan))
      (one_more i recording asked d below) here.turn

  made_so : stand_of recording called next ≡ stand_by (reply_to start.set (keeps scan) call)
  made_so = stands ∙ ap (λ (set : Settings). stand_by (reply_to set (keeps scan) call)) here.same.set

  counted : made + 1 ≡ i + 1
  counted = ap (λ (n : ℕ). n + 1) here.counted

  pub call_stops : called.ends ≡ true
      → Replays recording start.set (keeps start) (calls_of recording asked) (stand_of recording called next) (made + 1)
  call_stops e =
      subst (Replays recording start.set (keeps start) (calls_of recording asked) (stand_of recording called next)) (sym counted)
      (follow recording start.set (keeps start) asked _ _
      (stops start.set (keeps start) (calls_of recording asked) i call _ _ to_make (stand_of recording called next) made_so e))

  pub call_goes_on : called.ends ≡ false → Made start recording asked next (Some called) (made + 1) (i + 1)
  call_goes_on e = record {
    turn = goes_on start.set (keeps start) (calls_of recording asked) i call _ _ to_make (stand_of recording called next) made_so e;
    same = same_on here.same same;
    counted = counted;
  }

-- And where no call is to come, these are all, too.
pub calls_made : {start scan : Scan} {recording : List ℕ} {asked : List Asked} {last : Option Called} {made i : ℕ}
    → Made start recording asked scan last made i → length asked ≤ i
    → Replays recording start.set (keeps start) (calls_of recording asked) (stand_at recording last scan) made
calls_made {start} {scan} {recording} {asked} {last} {made} {i} here all =
    subst (Replays recording start.set (keeps start) (calls_of recording asked) (stand_at recording last scan)) (sym here.counted)
    (follow recording start.set (keeps start) asked _ _
    (all_made start.set (keeps start) (calls_of recording asked) _ i _ here.turn (no_more i recording asked all)))

-- ---- lists that go together

-- What is left of a list is its next one and the rest.
next_one : {A : Type 0} (l : List A) (i : ℕ) (d : A) → i < length l → drop i l ≡ get_or l i d ∷ drop (i + 1) l
next_one l i d below = drop-cons l i d below ∙ ap (λ (j : ℕ). get_or l i d ∷ drop j l) (sym (add-one i))

-- There is one in each of four lists at each number below the fewest.
pub below_all : (a b c d n i : ℕ) → n ≡ min (min a b) (min c d) → i < n → (i < a) × (i < b) × (i < c) × (i < d)
below_all a b c d n i is below = (omega (arith, is, below), omega (arith, is, below), omega (arith, is, below), omega (arith, is, below))

-- Where something is left, the number is one of the list's.
longer : {A : Type 0} (i : ℕ) (l : List A) → 0 < length (drop i l) → i < length l
longer i l some_left = omega (arith, some_left, length-drop i l)
