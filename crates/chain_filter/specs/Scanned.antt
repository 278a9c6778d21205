-- What a scan of a recording comes to, its packets and its end, and what is left of that where a filter thins it out (C7).
use Rattle.std.specs.Prelude.{ℕ, Bool, true, false, Some, None}
use mathlib.Core.List.{List, [], ◌∷◌, ◌++◌, flat_map, map}
use Rattle.basis.specs.Pick.{pick}
use Rattle.basis.specs.Refusals.{Answer}
use Rattle.filter.specs.declared.FilterOpt.{FilterOpt}
use Rattle.rdh.specs.declared.rdh_cru.RdhCru.{RdhCru}
use Rattle.scan_cdp.specs.Answers.{Found}
use Rattle.scan_cdp.specs.Steps.{Entry, closed, new_state, unusable}
use Rattle.scan_cdp.specs.declared.Settings.{Settings}
use Rattle.scan_laws.specs.Runs.{closes}
use Rattle.chain.specs.Calls.{Call, Reply, ends_by, kept_by, replies, reply_answer}
use Rattle.chain.specs.Chain.{Kept, chain, left}
use Rattle.chain.specs.PacketLists.{Packet, packets_in, packets_of}
use Rattle.chain.specs.Walk.{Met}

-- ---- a quick look

-- Payload skipped, statistics off, with these filters.
abbrev pub quick : FilterOpt → Settings
quick filters = record { filter = filters; skip_payload = true; stats = false }

-- No filter, and each of the three kinds alone (S3).
abbrev pub no_filter : FilterOpt
no_filter = record { filter_link = None; filter_fee = None; filter_its_stave = None }

abbrev pub filter_by_link : ℕ → FilterOpt
filter_by_link link = record { filter_link = Some link; filter_fee = None; filter_its_stave = None }

abbrev pub filter_by_fee : ℕ → FilterOpt
filter_by_fee fee = record { filter_link = None; filter_fee = Some fee; filter_its_stave = None }

abbrev pub filter_by_stave : ℕ → FilterOpt
filter_by_stave stave = record { filter_link = None; filter_fee = None; filter_its_stave = Some stave }

-- What a reader starts with that has not begun, with this FEE list (W1).
abbrev pub new_with : List ℕ → Kept
new_with fee_ids = record { state = new_state; fee_ids = fee_ids }

-- The headers on a chain, by its walk: those that its entries look at, which refusals 1 and 6 do not.
abbrev pub headers_met : List Met → List RdhCru
headers_met = flat_map (λ (m : Met). pick (closes m.entry.answer) [] (m.header ∷ []))

-- ---- what a scan comes to

-- What is kept, but for an open load.
abbrev pub except_load : Kept → Kept
except_load k = record { state = closed k.state; fee_ids = k.fee_ids }

-- How a scan ends: the refusal, with its number and values, and what is kept then, position and byte place among it. A load that a 6 leaves
-- open is no part of it.
pub record Ending : Type 0 where
  pub refusal : Answer (Found (List ℕ))
  pub kept : Kept

abbrev pub ending_at : Answer (Found (List ℕ)) → Kept → Ending
ending_at a k = record { refusal = a; kept = except_load k }

-- The end that an answer is, if it is one (C3), by what is kept after it.
abbrev pub end_in : Answer (Found (List ℕ)) → Kept → List Ending
end_in a k = pick (ends_by a (unusable k.state k.fee_ids)) (ending_at a k ∷ []) []

-- The packets that were handed out, and the end, if one was met.
pub record Scanned : Type 0 where
  pub packets : List Packet
  pub end : List Ending

-- By entries, and by the replies to calls.
abbrev pub scanned_in : List (Entry (List ℕ)) → Scanned
scanned_in es = record { packets = packets_in es; end = flat_map (λ (e : Entry (List ℕ)). end_in e.answer (left e)) es }

abbrev pub scanned_by : List Reply → Scanned
scanned_by rs = record { packets = packets_of rs; end = flat_map (λ (r : Reply). end_in (reply_answer r) (kept_by r)) rs }

-- What a quick look comes to with these filters: by the chain, and by calls.
abbrev pub look_along : List ℕ → FilterOpt → Kept → Scanned
look_along recording filters start = scanned_in (chain recording (quick filters) start)

abbrev pub look_by : FilterOpt → Kept → List Call → Scanned
look_by filters start calls = scanned_by (replies (quick filters) start calls)

-- ---- thinned out

-- A packet but for its load's start: its header, its payload and its own position.
abbrev pub except_start : Packet → Packet
except_start p = record { header = p.header; payload = p.payload; position = record { 0 = 0 }; own = p.own }

abbrev pub except_starts : Scanned → Scanned
except_starts s = record { packets = map except_start s.packets; end = s.end }

-- Of packets those whose headers are taken, in their order.
abbrev pub if_taken : (RdhCru → Bool) → Packet → List Packet
if_taken taken p = pick (taken p.header) (p ∷ []) []

unfoldable pub taken_of : (RdhCru → Bool) → List Packet → List Packet
taken_of taken [] = []
taken_of taken (p ∷ ps) = if_taken taken p ++ taken_of taken ps

-- These packets are left, and the end is what it was.
abbrev pub thinned : (RdhCru → Bool) → Scanned → Scanned
thinned taken s = record { packets = taken_of taken s.packets; end = s.end }
