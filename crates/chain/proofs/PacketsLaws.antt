-- Proofs of the statements on packets: what a call is served hands out the packets of the entries that it takes, and each entry of the chain
-- tells whether the header there matches.
use Rattle.std.specs.Prelude.{ℕ, ◌≤◌, true, false, not, ◌&&◌, ◌≡◌, refl, List, [], ◌∷◌, length, Option}
use Rattle.std.proofs.Common.{true≢false, ap, sym, ◌∙◌, arith}
use Rattle.std.proofs.lemmas.List.{map-append, nil_from_length}
use Rattle.std.proofs.lemmas.Bool.{not-true}
use Rattle.basis.specs.Pick.{pick}
use Rattle.basis.specs.PickLaws.{both, by_test, off, on}
use Rattle.basis.specs.Refusals.{Answer, gives, refuses}
use Rattle.rdh.specs.declared.rdh_cru.RdhCru.{RdhCru}
use Rattle.scan_cdp.specs.Answers.{Found, handed, passed, wants}
use Rattle.scan_cdp.specs.Loads.{is_passed, no_load_marks, together}
use Rattle.scan_cdp.specs.Steps.{Entry, unchanged}
use Rattle.scan_cdp.specs.Outcomes.{is_match}
use Rattle.scan_cdp.specs.declared.LoadMarks.{LoadMarks}
use Rattle.scan_cdp.specs.declared.Settings.{Settings}
use Rattle.chain.specs.Calls.{Call, Hold, Served, Window, along, examination, examined_by, examines, free, held, held_back, kept_by, load_along, loaded_by, loads, replies, served_by, to_come}
use Rattle.chain.proofs.CallsLaws.{held_cases}
use Rattle.chain.specs.Chain.{Kept, chain, is_refused, left, next}
use Rattle.chain.proofs.CallsFollowLaws.{calls_follow}
use Rattle.chain.specs.Following.{cut_into, left_over}
use Rattle.chain.proofs.GatheredLaws.{gathered_as}
use Rattle.chain.proofs.NextLaws.{Tells, next_tells}
use Rattle.chain.specs.OwnPositions.{open_at, position_of}
use Rattle.chain.specs.PacketLists.{Packet, headers_of, is_held, match_in, matching, none_held, packet_in, packets_in, packets_of}
use Rattle.chain.specs.PacketsClaims.{EachOnce, ExactlyMatching, MatchingInTurn, NoneMissing, ReachesEnd}
use Rattle.chain.proofs.TellingLaws.{Telling, all_told, told_once}
use Rattle.chain.specs.Walk.{header_at}
use Rattle.chain.proofs.WalkLaws.{entries_collected, same_collected}
use Rattle.scan_cdp.specs.declared.Position.{Position}

-- ---- each once

-- An answer tells of its packet, whatever is kept.
pub telling_packets : Telling (λ (a : Answer (Found (List ℕ))) (k : Kept). packet_in a)
telling_packets = record { of_passed = λ k. refl; of_want = λ k place size. refl; of_six = λ k usable. refl }

pub each_once : EachOnce
each_once recording set start calls windows = told_once _ telling_packets recording set start calls windows

-- ---- exactly the matching headers

-- the header that an answer hands out is the one that is due
header_told : (set : Settings) (k : Kept) (h : RdhCru) (position : ℕ) (load : Option Position) (a : Answer (Found (List ℕ)))
    → Tells set k h position load a → headers_of (packet_in a) ≡ pick (not (is_refused a) && is_match set h) (h ∷ []) []
header_told set k h position load (gives passed) told = sym (off _ _ told.other)
header_told set k h position load (gives (handed p)) told = ap (λ (x : RdhCru). x ∷ []) told.header ∙ sym (on _ _ told.taken)
header_told set k h position load (gives (wants place size)) told = absurd told
header_told set k h position load (refuses number values) told = refl

abbrev headers_in : Entry (List ℕ) → List RdhCru
headers_in e = headers_of (packet_in e.answer)

pub exactly_matching : ExactlyMatching
unfolding matching
exactly_matching recording set start =
    gathered_as (λ (p : Packet). p.header) (λ (e : Entry (List ℕ)). packet_in e.answer) (chain recording set start)
    ∙ entries_collected headers_in recording set start
    ∙ same_collected (λ m. headers_in m.entry) (match_in set) recording set start (λ k.
    let e = next recording set k in
    header_told set k (header_at recording k) (position_of (left e)).0 (open_at (left e)) e.answer (next_tells recording set k))

-- ---- the matching headers, each in its turn

pub matching_in_turn : MatchingInTurn
matching_in_turn recording set start calls windows =
    sym (map-append (λ (p : Packet). p.header) (packets_of (replies set start calls)) (packets_in (to_come set start calls (chain recording set start))))
    ∙ ap headers_of (each_once recording set start calls windows)
    ∙ exactly_matching recording set start

pub none_missing : NoneMissing
none_missing recording set start calls windows end =
    ap headers_of (all_told _ telling_packets recording set start calls windows end) ∙ exactly_matching recording set start

-- ---- to the chain's end

-- What holds a call back is told from the reply.
abbrev Seen : Kept → Hold → Type 0
Seen k free = Unit {0}
Seen k (held a) = is_held (examination (unchanged k.state k.fee_ids a)) ≡ true

held_seen : (set : Settings) (k : Kept) (w : Window) (e : Entry (List ℕ)) → Seen k (held_back set k w e)
held_seen set k w e = held_cases set k w e (Seen k) tt (λ usable. ap not usable) (λ size. refl)

-- A load that is not held back leaves no more entries than there were.
abbrev NoLonger : Settings → Window → LoadMarks → Kept → List (Entry (List ℕ)) → Type 0
NoLonger set w ms k es = is_held (load_along set w ms k es).reply ≡ false → length (load_along set w ms k es).rest ≤ length es

-- And it takes one, or more.
load_takes : (set : Settings) (w : Window) (ms : LoadMarks) (k : Kept) (e : Entry (List ℕ)) (es : List (Entry (List ℕ)))
    → NoLonger set w (together ms e.marks) (left e) es
    → is_held (load_along set w ms k (e ∷ es)).reply ≡ false → length (load_along set w ms k (e ∷ es)).rest ≤ length es
unfolding load_along
load_takes set w ms k e es onward = by_held (held_back set k w e) (held_seen set k w e)
  where
    by_held : (h : Hold) → Seen k h
        → is_held (loaded_by ms k e es (load_along set w (together ms e.marks) (left e) es) h).reply ≡ false
        → length (loaded_by ms k e es (load_along set w (together ms e.marks) (left e) es) h).rest ≤ length es
    by_held free fine =
        by_test (λ (o : Served). is_held o.reply ≡ false → length o.rest ≤ length es) (is_passed e.answer) _ _
        (λ passes. onward) (λ stops is. omega arith)
    by_held (held a) told = λ is. absurd (true≢false (sym told ∙ is))

no_longer : (set : Settings) (w : Window) (es : List (Entry (List ℕ))) (ms : LoadMarks) (k : Kept) → NoLonger set w ms k es
unfolding load_along
no_longer set w [] ms k is = omega arith
no_longer set w (e ∷ es) ms k is =
    omega (arith, load_takes set w ms k e es (no_longer set w es (together ms e.marks) (left e)) is)

examined_takes : (k : Kept) (e : Entry (List ℕ)) (es : List (Entry (List ℕ))) (h : Hold) → Seen k h
    → is_held (examined_by k e es h).reply ≡ false → length (examined_by k e es h).rest ≤ length es
examined_takes k e es free fine is = omega arith
examined_takes k e es (held a) told is = absurd (true≢false (sym told ∙ is))

served_takes : (set : Settings) (k : Kept) (c : Call) (e : Entry (List ℕ)) (es : List (Entry (List ℕ)))
    → is_held (served_by set k c e es).reply ≡ false → length (served_by set k c e es).rest ≤ length es
unfolding served_by
served_takes set k (examines w) e es = examined_takes k e es (held_back set k w e) (held_seen set k w e)
served_takes set k (loads w) e es = load_takes set w no_load_marks k e es (no_longer set w es (together no_load_marks e.marks) (left e))

along_ends : (set : Settings) (k : Kept) (calls : List Call) (es : List (Entry (List ℕ))) → length es ≤ length calls
    → none_held (along set k calls es) ≡ true → to_come set k calls es ≡ []
unfolding cut_into left_over none_held
along_ends set k [] es few free_all = nil_from_length es (omega (arith, few))
along_ends set k (c ∷ cs) [] few free_all = refl
along_ends set k (c ∷ cs) (e ∷ es) few free_all =
    let o = served_by set k c e es in
    let (this, others) = both (not (is_held o.reply)) (none_held (along set (kept_by o.reply) cs o.rest)) free_all in
    along_ends set (kept_by o.reply) cs o.rest (omega (arith, few, served_takes set k c e es (not-true _ this))) others

pub reaches_end : ReachesEnd
reaches_end recording set start calls windows enough free_all =
    along_ends set start calls (chain recording set start) enough
    (ap none_held (sym (calls_follow recording set start calls windows)) ∙ free_all)

-- an allowance of no entries is met by none
none_left : (es : List (Entry (List ℕ))) → length es ≤ 0 → es ≡ []
none_left [] few = refl
none_left (e ∷ es) few = absurd (omega (arith, few))
