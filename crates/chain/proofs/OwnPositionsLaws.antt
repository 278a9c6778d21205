-- Proofs of the statements on positions: what the next entry tells of them, and what that gives along the walk.
use Rattle.std.specs.Prelude.{ℕ, ◌+◌, ◌≤◌, true, ◌≡◌, Option, Some, None}
use Rattle.std.proofs.Math.Bool.{false}
use Rattle.std.proofs.Common.{true≢false, sym, ◌∙◌, arith}
use Rattle.std.proofs.lemmas.Bool.{false≢true}
use Rattle.std.proofs.Math.Path.{refl, ap, subst}
use mathlib.Core.List.{List, [], ◌∷◌, ◌++◌, flat_map, map}
use Rattle.basis.specs.Each.{Each}
use Rattle.basis.specs.Pick.{pick}
use Rattle.basis.specs.PickLaws.{off, on}
use Rattle.basis.specs.Refusals.{Answer, gives, refuses}
use Rattle.filter.specs.FilterLaws.{all-taken}
use Rattle.rdh.specs.declared.rdh_cru.RdhCru.{RdhCru}
use Rattle.scan_cdp.specs.Answers.{Found, handed, passed, wants}
use Rattle.scan_cdp.specs.Loads.{is_passed}
use Rattle.scan_cdp.specs.Outcomes.{header_fee_id, offset}
use Rattle.scan_cdp.specs.Steps.{Entry, is_first, start_of}
use Rattle.scan_cdp.specs.declared.Position.{Position}
use Rattle.scan_cdp.specs.declared.Settings.{Settings}
use Rattle.chain.specs.Calls.{replies, reply_answer, reply_to, to_come}
use Rattle.chain.specs.Chain.{Kept, chain, is_refused, left, next}
use Rattle.chain.proofs.ChainLaws.{chain_induction, chain_unfolds}
use Rattle.chain.specs.Following.{replies_of}
use Rattle.chain.proofs.GatheredLaws.{each_part}
use Rattle.chain.proofs.LoadLaws.{not-refused}
use Rattle.chain.proofs.NextLaws.{PassedBy, Tells, next_tells}
use Rattle.chain.specs.OwnPositions.{WholeLoad, open_at, start_of_load, offsets, passed_after, passed_first, position_of, whole_loads}
use Rattle.chain.specs.OwnPositionsClaims.{AtHeader, EachPacket, InCall, OwnByOffsets}
use Rattle.chain.specs.OwnPositionsClaims.{OwnAtHeader, OwnInCall, OwnNotBefore, OwnOverLoads, OwnUnfiltered}
use Rattle.chain.specs.PacketLists.{Packet, packet_in, packets_in, packets_of}
use Rattle.chain.proofs.PacketsLaws.{each_once}
use Rattle.chain.specs.Walk.{Met, header_at, walk}
use Rattle.chain.proofs.WalkLaws.{each_met, entries_collected, walk_unfolds}

-- ---- at its header

packet_told : (set : Settings) (k : Kept) (h : RdhCru) (position : ℕ) (load : Option Position) (a : Answer (Found (List ℕ)))
    → Tells set k h position load a → Each (AtHeader k) (packet_in a)
packet_told set k h position load (gives passed) told = tt
packet_told set k h position load (gives (handed p)) told = (told.at-header, tt)
packet_told set k h position load (gives (wants place size)) told = absurd told
packet_told set k h position load (refuses number values) told = tt

pub own_at-header : OwnAtHeader
own_at-header recording set =
    each_met recording set (λ m. Each (AtHeader m.before) (packet_in m.entry.answer)) (λ k.
    let e = next recording set k in
    packet_told set k (header_at recording k) (position_of (left e)).0 (open_at (left e)) e.answer (next_tells recording set k))

-- ---- loads along the walk

-- The packets of the loads are the chain's.
packets_of_loads : (hs : List RdhCru) (ms : List Met)
    → flat_map (λ (m : Met). packet_in m.entry.answer) ms ≡ map (λ (l : WholeLoad). l.packet) (whole_loads hs ms)
unfolding flat_map whole_loads
packets_of_loads hs [] = refl
packets_of_loads hs (m ∷ ms) = by_answer m.entry.answer _ (whole_loads onward ms) (packets_of_loads onward ms)
  where
    onward : List RdhCru
    onward = passed_after hs m.header m.entry.answer

    by_answer : (a : Answer (Found (List ℕ))) (ps : List Packet) (ls : List WholeLoad) → ps ≡ map (λ (l : WholeLoad). l.packet) ls
        → packet_in a ++ ps
        ≡ map (λ (l : WholeLoad). l.packet) (map (λ (p : Packet). record { passed = hs; packet = p }) (packet_in a) ++ ls)
    by_answer (gives passed) ps ls same = same
    by_answer (gives (handed p)) ps ls same = ap (λ (others : List Packet). p ∷ others) same
    by_answer (gives (wants place size)) ps ls same = same
    by_answer (refuses number values) ps ls same = same

chain_packets : (recording : List ℕ) (set : Settings) (start : Kept)
    → packets_in (chain recording set start) ≡ map (λ (l : WholeLoad). l.packet) (whole_loads [] (walk recording set start))
chain_packets recording set start =
    entries_collected (λ e. packet_in e.answer) recording set start ∙ packets_of_loads [] (walk recording set start)

-- What holds of the packet at a header where the scan stands well holds of each load: a passed header leaves it standing well, and so does a
-- load that is closed.
module _ (recording : List ℕ) (set : Settings) (P : WholeLoad → Type 0) (Well : List RdhCru → Kept → Type 0)
    (here : (hs : List RdhCru) (k : Kept) (p : Packet) → Well hs k → AtHeader k p → P (record { passed = hs; packet = p }))
    (passes : (hs : List RdhCru) (k k' : Kept) (h : RdhCru) → Well hs k → PassedBy set k h (position_of k').0 (open_at k')
    → Well (passed_after hs h (gives passed)) k')
    (closes : (hs : List RdhCru) (k' : Kept) (h : RdhCru) (p : Packet) → open_at k' ≡ None → Well (passed_after hs h (gives (handed p))) k') where
  each_load : (start : Kept) (hs : List RdhCru) → Well hs start → Each P (whole_loads hs (walk recording set start))
  unfolding whole_loads
  each_load =
      chain_induction recording set (λ k. (hs : List RdhCru) → Well hs k → Each P (whole_loads hs (walk recording set k))) (λ k onward hs well.
      subst (λ (ms : List Met). Each P (whole_loads hs ms)) (sym (walk_unfolds recording set k))
      (by_answer k (left (next recording set k)) hs well (next recording set k).answer (next_tells recording set k) onward))
    where
      by_answer : (k k' : Kept) (hs : List RdhCru) → Well hs k → (a : Answer (Found (List ℕ)))
          → Tells set k (header_at recording k) (position_of k').0 (open_at k') a
          → (is_refused a ≡ false → (hs' : List RdhCru) → Well hs' k' → Each P (whole_loads hs' (walk recording set k')))
          → Each P (map (λ (p : Packet). record { passed = hs; packet = p }) (packet_in a)
          ++ whole_loads (passed_after hs (header_at recording k) a) (pick (is_refused a) [] (walk recording set k')))
      by_answer k k' hs well (gives passed) told onward = onward refl _ (passes hs k k' (header_at recording k) well told)
      by_answer k k' hs well (gives (handed p)) told onward =
          (here hs k p well told.at-header, onward refl _ (closes hs k' (header_at recording k) p told.closed))
      by_answer k k' hs well (gives (wants place size)) told onward = absurd told
      by_answer k k' hs well (refuses number values) told onward = tt

-- ---- over a whole load

is_none : (load : Option Position) → is_first load ≡ true → load ≡ None
is_none None e = refl
is_none (Some start) e = absurd (false≢true e)

as_numbers : {p q : Position} → p ≡ q → p.0 ≡ q.0
as_numbers same = ap (λ (n : Position). n.0) same

-- Where no load is open, the next header's load starts at the position.
starts_here : (k : Kept) → open_at k ≡ None → start_of_load k ≡ position_of k
starts_here k none = ap (λ (load : Option Position). start_of load (position_of k)) none

-- A passed header leaves the start of its load.
start_stays : (set : Settings) (k k' : Kept) (h : RdhCru) → PassedBy set k h (position_of k').0 (open_at k') → start_of_load k' ≡ start_of_load k
start_stays set k k' h told = ap (λ (load : Option Position). start_of load (position_of k')) told.opened

offsets_more : (hs : List RdhCru) (h : RdhCru) → offsets (hs ++ (h ∷ [])) ≡ offsets hs + offset h
unfolding offsets
offsets_more [] h = omega arith
offsets_more (x ∷ hs) h = omega (arith, offsets_more hs h)

-- The position is the load's start and the offsets passed.
abbrev Summed : List RdhCru → Kept → Type 0
Summed hs k = (position_of k).0 ≡ (start_of_load k).0 + offsets hs

none_summed : (k : Kept) → open_at k ≡ None → Summed [] k
unfolding offsets
none_summed k none = omega (arith, as_numbers (starts_here k none))

passed_summed : (set : Settings) (hs : List RdhCru) (k k' : Kept) (h : RdhCru) → Summed hs k
    → PassedBy set k h (position_of k').0 (open_at k') → Summed (hs ++ (h ∷ [])) k'
passed_summed set hs k k' h summed told =
    omega (arith, told.moved, summed, offsets_more hs h, as_numbers (start_stays set k k' h told))

sums : (recording : List ℕ) (set : Settings) (start : Kept) → is_first (open_at start) ≡ true
    → Each OwnByOffsets (whole_loads [] (walk recording set start))
sums recording set start none =
    each_load recording set OwnByOffsets Summed
    (λ hs k p summed at. omega (arith, summed, as_numbers at.own, as_numbers at.position))
    (λ hs k k' h summed told. passed_summed set hs k k' h summed told)
    (λ hs k' h p none. none_summed k' none)
    start [] (none_summed start (is_none (open_at start) none))

pub own_over_loads : OwnOverLoads
own_over_loads recording set start =
    record {
      sums = sums recording set start;
      packets = λ calls windows. each_once recording set start calls windows ∙ chain_packets recording set start;
    }

-- ---- in one call

-- The first of a list, if there is one.
abbrev First : {A : Type 0} → (A → Type 0) → List A → Type 0
First P [] = Unit {0}
First P (x ∷ xs) = P x

first_of : {A : Type 0} {P Q : A → Type 0} (xs : List A) → ((x : A) → P x → Q x) → First P xs → First Q xs
first_of [] so first = tt
first_of (x ∷ xs) so first = so x first

module _ (recording : List ℕ) (set : Settings) (k : Kept) where
  -- the next entry's answer, and where the scan stands after it
  abbrev answer : Answer (Found (List ℕ))
  answer = (next recording set k).answer

  abbrev k' : Kept
  k' = left (next recording set k)

  -- what the walk passes first, from a header that is not passed, and from one that is
  stops_first : is_passed answer ≡ false → passed_first (walk recording set k) ≡ []
  unfolding passed_first
  stops_first stops = ap passed_first (walk_unfolds recording set k) ∙ off _ _ stops

  passes_first : is_passed answer ≡ true → passed_first (walk recording set k) ≡ header_at recording k ∷ passed_first (walk recording set k')
  unfolding passed_first
  passes_first passes =
      ap passed_first (walk_unfolds recording set k)
      ∙ on _ _ passes
      ∙ ap (λ (ms : List Met). header_at recording k ∷ passed_first ms) (off _ _ (not-refused answer passes))

  -- the first packet of what is to come is told by the next entry, or comes behind it
  first_by : (a : Answer (Found (List ℕ))) → answer ≡ a → Tells set k (header_at recording k) (position_of k').0 (open_at k') a
      → (is_refused a ≡ false → First (InCall recording set k') (packets_in (chain recording set k')))
      → First (InCall recording set k) (packet_in a ++ packets_in (pick (is_refused a) [] (chain recording set k')))
  unfolding flat_map offsets
  first_by (gives passed) is told onward =
      first_of (packets_in (chain recording set k'))
      (λ p in-call.
      record {
        position = in-call.position ∙ start_stays set k k' (header_at recording k) told;
        own = omega (arith, in-call.own, told.moved, ap offsets (passes_first (ap is_passed is)));
      })
      (onward refl)
  first_by (gives (handed p)) is told onward =
      record {
        position = told.at-header.position;
        own = omega (arith, as_numbers told.at-header.own, ap offsets (stops_first (ap is_passed is)));
      }
  first_by (gives (wants place size)) is told onward = absurd told
  first_by (refuses number values) is told onward = tt

first_packet : (recording : List ℕ) (set : Settings) (k : Kept) → First (InCall recording set k) (packets_in (chain recording set k))
unfolding flat_map
first_packet recording set =
    chain_induction recording set (λ k. First (InCall recording set k) (packets_in (chain recording set k))) (λ k onward.
    subst (λ (es : List (Entry (List ℕ))). First (InCall recording set k) (packets_in es)) (sym (chain_unfolds recording set k))
    (first_by recording set k (next recording set k).answer refl (next_tells recording set k) onward))

-- The packet of a reply is the first of those that it hands out, followed by others.
reply_first : (P : Packet → Type 0) (a : Answer (Found (List ℕ))) (ps qs : List Packet) → First P ((packet_in a ++ ps) ++ qs)
    → Each P (packet_in a)
reply_first P (gives passed) ps qs first = tt
reply_first P (gives (handed p)) ps qs first = (first, tt)
reply_first P (gives (wants place size)) ps qs first = tt
reply_first P (refuses number values) ps qs first = tt

pub own_in_call : OwnInCall
unfolding flat_map replies_of
own_in_call recording set k c of =
    reply_first (InCall recording set k) (reply_answer (reply_to set k c)) _ (packets_in (to_come set k (c ∷ []) (chain recording set k)))
    (subst (First (InCall recording set k)) (sym (each_once recording set k (c ∷ []) (of, tt))) (first_packet recording set k))

-- ---- what follows

each_mapped : {A B : Type 0} (P : B → Type 0) (f : A → B) (xs : List A) → Each (λ x. P (f x)) xs → Each P (map f xs)
each_mapped P f [] each = tt
each_mapped P f (x ∷ xs) (this, others) = (this, each_mapped P f xs others)

-- What holds of each load's packet holds of each packet of the chain and of the calls.
each_packet : (P : Packet → Type 0) (recording : List ℕ) (set : Settings) (start : Kept)
    → Each (λ l. P l.packet) (whole_loads [] (walk recording set start)) → EachPacket P recording set start
each_packet P recording set start each =
    let on_chain : Each P (packets_in (chain recording set start)) =
    subst (Each P) (sym (chain_packets recording set start)) (each_mapped P (λ l. l.packet) (whole_loads [] (walk recording set start)) each) in
    record {
      on_chain = on_chain;
      by_calls = λ calls windows.
          (each_part P (packets_of (replies set start calls)) (packets_in (to_come set start calls (chain recording set start)))
          (subst (Each P) (sym (each_once recording set start calls windows)) on_chain)).0;
    }

-- Without a filter no header is passed, so that no load is ever open.
pub own_unfiltered : OwnUnfiltered
own_unfiltered recording set start unfiltered none =
    each_packet (λ p. p.own ≡ p.position) recording set start
    (each_load recording set (λ l. l.packet.own ≡ l.packet.position) (λ hs k. open_at k ≡ None)
    (λ hs k p closed at. at.own ∙ sym (starts_here k closed) ∙ sym at.position)
    (λ hs k k' h closed told. absurd (true≢false (sym (all-taken set.filter h.link_id (header_fee_id h) unfiltered) ∙ told.other)))
    (λ hs k' h p closed. closed)
    start [] (is_none (open_at start) none))

pub own_not_before : OwnNotBefore
own_not_before recording set start before =
    each_packet (λ p. p.position.0 ≤ p.own.0) recording set start
    (each_load recording set (λ l. l.packet.position.0 ≤ l.packet.own.0) (λ hs k. (start_of_load k).0 ≤ (position_of k).0)
    (λ hs k p behind at. omega (arith, behind, as_numbers at.position, as_numbers at.own))
    (λ hs k k' h behind told. omega (arith, behind, told.moved, as_numbers (start_stays set k k' h told)))
    (λ hs k' h p none. omega (arith, as_numbers (starts_here k' none)))
    start [] before)
