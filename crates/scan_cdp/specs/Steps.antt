-- The step of the chain: what S1 to S8 make of the header at the byte place, over a recording, with no window and no want. A recording shows
-- itself to a step as the bytes from the byte place on, and as the place at which it ends.
use Rattle.std.specs.Prelude.{ℕ, ◌+◌, ◌^◌, max, Bool, true, false, not, ◌||◌, ◌&&◌, List, [], ◌∷◌, eqb, ltb, pos, length, take, drop, replicate, Option, None, Some}
use Rattle.basis.specs.Pick.{pick}
use Rattle.basis.specs.Refusals.{Answer, gives, refuses}
use Rattle.filter.specs.Filter.{enabled}
use Rattle.rdh.specs.Subfields.{data_format_of}
use Rattle.rdh.specs.declared.rdh_cru.RdhCru.{RdhCru}
use Rattle.serde_rdh.specs.Layout.{decoded}
use Rattle.stats.specs.Counts.{added, full_count}
use Rattle.stats.specs.Lists.{full, places_after, twice, used_after}
use Rattle.stats.specs.declared.Count.{Count}
use Rattle.trigger_stats.specs.Counters.{counted, uncounted}
use Rattle.scan_cdp.specs.Answers.{Found, answer_as, handed, passed}
use Rattle.scan_cdp.specs.Outcomes.{is_counted, header_fee_id, hands_out, matched, header_memory_size, offset, payload_size, outcome_of, skip_distance, header_trigger_type}
use Rattle.scan_cdp.specs.declared.Position.{Position}
use Rattle.scan_cdp.specs.declared.Settings.{Settings}
use Rattle.scan_cdp.specs.declared.Counts.{Counts}
use Rattle.scan_cdp.specs.declared.Progress.{Progress}
use Rattle.scan_cdp.specs.declared.State.{State}
use Rattle.scan_cdp.specs.declared.Initial.{Initial}
use Rattle.scan_cdp.specs.declared.Marks.{Marks}
use Rattle.scan_cdp.specs.declared.Tally.{Tally}
use Rattle.scan_cdp.specs.declared.Outcome.{Outcome}
use Rattle.scan_cdp.specs.declared.Outcome.TheVariants.{FeeIdsFull, BadOffset, MemorySize, Passed, HandedOut}

-- An entry: what is answered, its marks, and what state and list hold after it (C2).
pub record Entry (P : Type 0) : Type 0 where
  pub answer : Answer (Found P)
  pub marks : Marks
  pub state : State
  pub fee_ids : List ℕ

-- An entry with the payload said in another way.
abbrev pub entry_as : {P Q : Type 0} → (P → Q) → Entry P → Entry Q
entry_as f e = record { answer = answer_as f e.answer; marks = e.marks; state = e.state; fee_ids = e.fee_ids }

-- The state of a scan that has not begun (W1): at byte place and position 0, with nothing counted or listed.
abbrev pub new_state : State
new_state =
    record {
      progress = record {
        place = record { 0 = 0 };
        position = record { 0 = 0 };
        load = None;
        counts = record { seen = 0; filtered = 0; payload = 0 };
        links_used = 0;
        fee_ids_used = 0;
      };
      links = replicate 256 0;
      triggers = uncounted;
    }

-- The state at another byte place, with all else as it was.
abbrev pub with_place : ℕ → State → State
with_place place s =
    record {
      progress = record {
        place = record { 0 = place };
        position = s.progress.position;
        load = s.progress.load;
        counts = s.progress.counts;
        links_used = s.progress.links_used;
        fee_ids_used = s.progress.fee_ids_used;
      };
      links = s.links;
      triggers = s.triggers;
    }

-- The state, whose links and trigger counts stand apart while a call goes on.
abbrev pub with_lent : Progress → (links triggers : List ℕ) → State
with_lent p links triggers = record { progress = p; links = links; triggers = triggers }

-- The state with this load open, or none, and with all else as it was.
abbrev pub with_load : Option Position → State → State
with_load load s =
    record {
      progress = record {
        place = s.progress.place;
        position = s.progress.position;
        load = load;
        counts = s.progress.counts;
        links_used = s.progress.links_used;
        fee_ids_used = s.progress.fee_ids_used;
      };
      links = s.links;
      triggers = s.triggers;
    }

-- The state with no load open (S7).
abbrev pub closed : State → State
closed = with_load None

-- ---- step 1

-- No place, position or window end is above it (R6).
abbrev pub limit : ℕ
limit = 2 ^ 60

-- Refusal 6 by the state's numbers and the lengths of the lists, a line for each: byte place and position; used numbers; counts.
abbrev pub numbers_unusable : Progress → (links fee_ids : ℕ) → Bool
numbers_unusable p links fee_ids =
    ltb limit p.place.0 || ltb limit p.position.0
    || ltb links p.links_used || ltb fee_ids p.fee_ids_used
    || eqb p.counts.seen full_count || eqb p.counts.filtered full_count || eqb p.counts.payload full_count

-- Refusal 6 by state and list alone (R6, R11): by a number, or by a link that is listed twice.
unfoldable pub unusable : State → List ℕ → Bool
unusable s fee_ids =
    numbers_unusable s.progress (length s.links) (length fee_ids) || twice (take s.progress.links_used s.links)

abbrev pub no_marks : Marks
no_marks = record { initial = None; seen_carry = false; filtered_carry = false; payload_carry = false; payload_cut = false }

-- A call that changes nothing.
abbrev pub unchanged : {P : Type 0} → State → List ℕ → Answer (Found P) → Entry P
unchanged s fee_ids a = record { answer = a; marks = no_marks; state = s; fee_ids = fee_ids }

-- Refusal 1: the byte place moves to the end, never back, and the load is closed (R1, S7).
unfoldable pub ended : {P : Type 0} → State → List ℕ → ℕ → Entry P
ended s fee_ids end =
    record {
      answer = refuses 1 [];
      marks = no_marks;
      state = with_place (max s.progress.place.0 end) (closed s);
      fee_ids = fee_ids;
    }

-- ---- step 2

-- Whether a header is the first of a load: no load is open (T4).
abbrev pub is_first : Option Position → Bool
is_first None = true
is_first (Some start) = false

-- What becomes of the header (S2 to S5). With statistics off there is no refusal 4 (S8).
unfoldable pub outcome_in : Settings → Progress → List ℕ → RdhCru → Outcome
outcome_in set p fee_ids h = outcome_of set (is_first p.load) (set.stats && full (header_fee_id h) p.fee_ids_used fee_ids) h

-- The initial mark, with its three values: a first header at position 0, statistics on (S2, W8).
unfoldable pub initial_of : Bool → Bool → Position → RdhCru → Option Initial
initial_of stats first position h =
    pick (stats && first && eqb position.0 0)
    (Some (record {
      trigger_type = header_trigger_type h;
      data_format = data_format_of h.dataformat_reserved0.0;
      system_id = h.rdh0.system_id;
    }))
    None

-- A count that grows by n if it is to be raised.
unfoldable pub raised : Bool → ℕ → ℕ → Count
raised due count n = pick due (added count n) (record { value = count; carry = false })

-- The counts, and their carries: seen in step 2, filtered and payload in step 4; none with statistics off (K1, S8).
unfoldable pub tallied : Settings → Bool → Outcome → Counts → RdhCru → Tally
tallied set first t counts h =
    record {
      seen = raised (set.stats && is_counted first t) counts.seen 1;
      filtered = raised (set.stats && enabled set.filter && matched t) counts.filtered 1;
      payload = raised (set.stats && hands_out t) counts.payload (payload_size h);
    }

-- ---- steps 3 to 5

-- Whether the recording's end cuts a payload that is to be read (S6): fewer than 64 plus its size are left from the byte place on.
unfoldable pub cut : Bool → Outcome → RdhCru → ℕ → Bool
cut skip t h left = hands_out t && not skip && ltb left (64 + payload_size h)

-- The byte place afterwards: behind the 64 bytes with refusals 2 to 4 (R); by the offset where the header is passed (S3) or its payload
-- skipped, and by the memory size where it is read (S5); at the end where it is cut (S6).
unfoldable pub place_after : Bool → Outcome → RdhCru → (place left end : ℕ) → ℕ
place_after skip FeeIdsFull h place left end = place + 64
place_after skip BadOffset h place left end = place + 64
place_after skip MemorySize h place left end = place + 64
place_after skip Passed h place left end = place + offset h
place_after skip HandedOut h place left end = pick skip (place + offset h) (pick (cut skip HandedOut h left) end (place + header_memory_size h))

-- The position grows by the offset of a header that is passed or handed out (S3, S5).
abbrev pub position_after : Outcome → RdhCru → ℕ → ℕ
position_after FeeIdsFull h position = position
position_after BadOffset h position = position
position_after MemorySize h position = position
position_after Passed h position = position + offset h
position_after HandedOut h position = position + offset h

-- The position from the start of the load, which a packet is given (S5).
abbrev pub start_of : Option Position → Position → Position
start_of None position = position
start_of (Some start) position = start

-- Only a passed header leaves a load open, with its start (S7).
abbrev pub load_after : Outcome → Option Position → Position → Option Position
load_after FeeIdsFull load position = None
load_after BadOffset load position = None
load_after MemorySize load position = None
load_after Passed load position = Some (start_of load position)
load_after HandedOut load position = None

-- What is answered: refusal 2 with the signed distance and the position at this header (R2), a packet with its load's start and, as its own,
-- the position at this header (S5).
abbrev pub answer_in : {P : Type 0} → Outcome → RdhCru → P → (start position : Position) → Answer (Found P)
answer_in FeeIdsFull h payload start position = refuses 4 []
answer_in BadOffset h payload start position = refuses 2 (skip_distance (offset h) ∷ pos position.0 ∷ [])
answer_in MemorySize h payload start position = refuses 3 []
answer_in Passed h payload start position = gives passed
answer_in HandedOut h payload start position = gives (handed (record { header = h; payload = payload; position = start; own = position }))

-- The payload's bytes behind the header; none where it is skipped or cut (S6).
unfoldable pub payload_of : Bool → Outcome → RdhCru → List ℕ → List ℕ
payload_of skip t h rest = pick (skip || cut skip t h (length rest)) [] (take (payload_size h) (drop 64 rest))

-- ---- the step

-- The marks of a header (W8): the initial one, the carries of the counts, and E100, with statistics off too (S8).
unfoldable pub marks_of : Settings → Outcome → Progress → RdhCru → ℕ → Marks
marks_of set t p h left =
    let tally = tallied set (is_first p.load) t p.counts h in
    record {
      initial = initial_of set.stats (is_first p.load) p.position h;
      seen_carry = tally.seen.carry;
      filtered_carry = tally.filtered.carry;
      payload_carry = tally.payload.carry;
      payload_cut = cut set.skip_payload t h left;
    }

-- Whether step 2 lists the link and the FEE id, and counts the trigger word.
abbrev pub lists : Settings → Outcome → Progress → Bool
lists set t p = set.stats && is_counted (is_first p.load) t

-- A list's places and its used number, after a number that step 2 lists.
unfoldable pub places_listed : Bool → ℕ → ℕ → List ℕ → List ℕ
places_listed due x used l = pick due (places_after x used l) l

unfoldable pub used_listed : Bool → ℕ → ℕ → List ℕ → ℕ
used_listed due x used l = pick due (used_after x used l) used

-- The trigger counts, after a word that step 2 counts (G2).
unfoldable pub triggers_after : Bool → ℕ → List ℕ → List ℕ
triggers_after due word counts = pick due (counted counts word) counts

-- How far the scan has come, with the used numbers of links and FEE ids.
unfoldable pub progress_after : Settings → Outcome → Progress → RdhCru → (left end links_used fee_ids_used : ℕ) → Progress
progress_after set t p h left end links_used fee_ids_used =
    let tally = tallied set (is_first p.load) t p.counts h in
    record {
      place = record { 0 = place_after set.skip_payload t h p.place.0 left end };
      position = record { 0 = position_after t h p.position.0 };
      load = load_after t p.load p.position;
      counts = record { seen = tally.seen.value; filtered = tally.filtered.value; payload = tally.payload.value };
      links_used = links_used;
      fee_ids_used = fee_ids_used;
    }

-- The entry of a header that has an outcome.
unfoldable pub entry_of : Settings → Outcome → State → List ℕ → RdhCru → List ℕ → ℕ → Entry (List ℕ)
entry_of set t s fee_ids h rest end =
    let p = s.progress in
    record {
      answer = answer_in t h (payload_of set.skip_payload t h rest) (start_of p.load p.position) p.position;
      marks = marks_of set t p h (length rest);
      state = record {
        progress =
            progress_after set t p h (length rest) end
            (used_listed (lists set t p) h.link_id p.links_used s.links)
            (used_listed (lists set t p) (header_fee_id h) p.fee_ids_used fee_ids);
        links = places_listed (lists set t p) h.link_id p.links_used s.links;
        triggers = triggers_after (lists set t p) (header_trigger_type h) s.triggers;
      };
      fee_ids = places_listed (lists set t p) (header_fee_id h) p.fee_ids_used fee_ids;
    }

-- The entry of the header at the start of some bytes.
abbrev pub entry_at : Settings → State → List ℕ → (rest : List ℕ) → (end : ℕ) → Entry (List ℕ)
entry_at set s fee_ids rest end = entry_of set (outcome_in set s.progress fee_ids (decoded rest)) s fee_ids (decoded rest) rest end

-- Refusal 6 where it is due, then refusal 1 (S1), then what becomes of the header at the byte place.
abbrev pub step_unless : (six : Bool) → Settings → State → List ℕ → (rest : List ℕ) → (end : ℕ) → Entry (List ℕ)
step_unless six set s fee_ids rest end =
    pick six (unchanged s fee_ids (refuses 6 [])) (pick (ltb (length rest) 64) (ended s fee_ids end) (entry_at set s fee_ids rest end))

-- The step: refusal 6 is due by state and list.
unfoldable pub step : Settings → State → List ℕ → (rest : List ℕ) → (end : ℕ) → Entry (List ℕ)
step set s fee_ids rest end = step_unless (unusable s fee_ids) set s fee_ids rest end

-- The step at a state's byte place in a whole recording.
abbrev pub step_in : List ℕ → Settings → State → List ℕ → Entry (List ℕ)
step_in recording set s fee_ids = step set s fee_ids (drop s.progress.place.0 recording) (length recording)
