-- Examples, which no public contract cites. C7 on a small recording, computed: what is scanned without a filter, and with one. Then C8: on what it
-- rests, each part with the smallest recording for which the conclusion fails without it.
use Rattle.std.specs.Prelude.{ℕ, true, false, ◌≡◌, refl, pos, drop, take}
use mathlib.Core.List.{List, [], ◌∷◌, ◌++◌, flat_map, map}
use Rattle.std.proofs.Common.{arith}
use Rattle.std.proofs.Math.IntN.{sub_ℕ}
use Rattle.basis.specs.Bytes.{bytes_of, little, number_at}
use Rattle.basis.specs.Refusals.{Answer, refuses}
use Rattle.filter.specs.declared.FilterOpt.{FilterOpt}
use Rattle.serde_rdh.specs.Layout.{decoded, header, span}
use Rattle.scan_cdp.specs.Answers.{Found}
use Rattle.scan_cdp.specs.Outcomes.{filtered, outcome_of}
use Rattle.scan_cdp.specs.Steps.{cut, ended, entry_of, initial_of, marks_of, outcome_in, payload_of, place_after, places_listed, progress_after, raised, step, tallied, triggers_after, unusable, used_listed}
use Rattle.scan_cdp.specs.declared.Settings.{Settings}
use Rattle.stats.specs.Counts.{added}
use Rattle.stats.specs.Lists.{full, member, places_after, twice, used_after}
use Rattle.trigger_stats.specs.Counters.{bit_of, count, counted, place_of}
use Rattle.chain.specs.Chain.{chain, chain_of}
use Rattle.chain_filter.specs.FilterThinsClaims.{EachKindThins, NoneTooSmall}
use Rattle.chain_filter.proofs.FilterThinsLaws.{filter_thins}
use Rattle.chain.specs.Following.{entries_of}
use Rattle.chain.specs.OwnPositions.{position_of}
use Rattle.chain.specs.PacketLists.{Packet}
use Rattle.chain_filter.specs.Scanned.{Ending, filter_by_fee, new_with, no_filter, quick, scanned_in}
use Rattle.chain.specs.Walk.{walk, walk_along}
use Rattle.demand3.specs.MarkedCases.{sample}
use Rattle.demand3.specs.MarkedCasesClaims.{◌then◌}

-- ---- what is shown of a scan

-- The packets: FEE id, the load's start, and own position.
abbrev packets : List ℕ → Settings → List ℕ → List (ℕ × ℕ × ℕ)
packets recording set fee_ids =
    map (λ (p : Packet). (p.header.rdh0.fee_id.0, p.position.0, p.own.0)) (scanned_in (chain recording set (new_with fee_ids))).packets

-- The end: the refusal, and the position.
abbrev end : List ℕ → Settings → List ℕ → List (Answer (Found (List ℕ)) × ℕ)
end recording set fee_ids = map (λ (x : Ending). (x.refusal, (position_of x.kept).0)) (scanned_in (chain recording set (new_with fee_ids))).end

-- ---- a filter thins out (C7)

-- Four headers, of which the first and the third are taken by a filter for the FEE id 0x3006, and the last has a bad offset.
unfoldable pub mixed : List ℕ
mixed = sample 0x3006 64 0 0x4813 ++ sample 0x502A 64 0 0x4813 ++ sample 0x3006 64 0 0x4813 ++ sample 0x502A 63 0 0x4813

-- Without the filter three are handed out, and the fourth is refused. With it the two that match are handed out, with the same own positions, and
-- the same refusal ends the scan at the same position. The third one's load began at the second.
pub whole_scan : (packets mixed (quick no_filter) [] ≡ (0x3006, 0, 0) ∷ (0x502A, 64, 64) ∷ (0x3006, 128, 128) ∷ [])
    × (end mixed (quick no_filter) [] ≡ (refuses 2 (sub_ℕ 63 64 ∷ pos 192 ∷ []), 192) ∷ [])
unfolding mixed sample bytes_of number_at little decoded header span chain chain_of entries_of unusable twice member step entry_of marks_of tallied raised initial_of outcome_in outcome_of filtered payload_of cut places_listed used_listed triggers_after progress_after place_after ended flat_map
whole_scan = (refl, refl)

pub filtered_scan : (packets mixed (quick (filter_by_fee 0x3006)) [] ≡ (0x3006, 0, 0) ∷ (0x3006, 64, 128) ∷ [])
    × (end mixed (quick (filter_by_fee 0x3006)) [] ≡ (refuses 2 (sub_ℕ 63 64 ∷ pos 192 ∷ []), 192) ∷ [])
unfolding mixed sample bytes_of number_at little decoded header span chain chain_of entries_of unusable twice member step entry_of marks_of tallied raised initial_of outcome_in outcome_of filtered payload_of cut places_listed used_listed triggers_after progress_after place_after ended flat_map
filtered_scan = (refl, refl)

-- The premise is met, so that the theorem speaks of this recording.
pub mixed_large : NoneTooSmall mixed (new_with [])
unfolding mixed sample bytes_of number_at little decoded header span walk walk_along chain chain_of entries_of unusable twice member step entry_of marks_of tallied raised initial_of outcome_in outcome_of filtered payload_of cut places_listed used_listed triggers_after progress_after place_after ended flat_map
mixed_large = omega arith then omega arith then omega arith then omega arith then tt

pub mixed_thins : EachKindThins mixed (new_with [])
mixed_thins = filter_thins mixed [] mixed_large

-- ---- a header that is too small (C8)

-- A header of 64 bytes with another memory size.
unfoldable pub sized : (fee_id memory : ℕ) → List ℕ
sized fee_id memory = take 10 (sample fee_id 64 0 0x4813) ++ bytes_of 2 memory ++ drop 12 (sample fee_id 64 0 0x4813)

-- Alone, with a memory size of 0: without a filter it is refused with 3, at position 0. A filter that does not take it passes it, and the end is
-- 1, at position 64. A filter that takes it meets 3, too: that does no harm.
pub too_small_passed : (end (sized 0x502A 0) (quick no_filter) [] ≡ (refuses 3 [], 0) ∷ [])
    × (end (sized 0x502A 0) (quick (filter_by_fee 0x3006)) [] ≡ (refuses 1 [], 64) ∷ [])
    × (end (sized 0x502A 0) (quick (filter_by_fee 0x502A)) [] ≡ (refuses 3 [], 0) ∷ [])
unfolding sized sample bytes_of number_at little decoded header span chain chain_of entries_of unusable twice member step entry_of marks_of tallied raised initial_of outcome_in outcome_of filtered payload_of cut places_listed used_listed triggers_after progress_after place_after ended flat_map
too_small_passed = (refl, refl, refl)

-- ---- payload that is read

abbrev reading : FilterOpt → Settings
reading filters = record { filter = filters; skip_payload = false; stats = false }

-- Two headers, the second of which is the payload of the first. Where payload is read, the scan without a filter goes on behind it, by the memory
-- size; a filter that does not take the first passes it by the offset, and hands out what is no packet without it.
unfoldable pub within : List ℕ
within = sized 0x502A 128 ++ sample 0x3006 64 0 0x4813

pub payload_read : (packets within (reading no_filter) [] ≡ (0x502A, 0, 0) ∷ []) × (packets within (reading (filter_by_fee 0x3006)) [] ≡ (0x3006, 0, 64) ∷ [])
unfolding within sized sample bytes_of number_at little decoded header span chain chain_of entries_of unusable twice member step entry_of marks_of tallied raised initial_of outcome_in outcome_of filtered payload_of cut places_listed used_listed triggers_after progress_after place_after ended flat_map
payload_read = (refl, refl)

-- ---- statistics that are on

abbrev counting : FilterOpt → Settings
counting filters = record { filter = filters; skip_payload = true; stats = true }

-- Two headers, the second with a bad offset and a new FEE id, and a list with one place. Without a filter both are the first of their loads, and the
-- second is refused with 4; a filter that passes the first makes a later one of it, which is refused with 2.
unfoldable pub two_fees : List ℕ
two_fees = sample 0x502A 64 0 0x4813 ++ sample 0x3006 63 0 0x4813

pub statistics_on : (end two_fees (counting no_filter) (0 ∷ []) ≡ (refuses 4 [], 64) ∷ [])
    × (end two_fees (counting (filter_by_fee 0x3006)) (0 ∷ []) ≡ (refuses 2 (sub_ℕ 63 64 ∷ pos 64 ∷ []), 64) ∷ [])
unfolding two_fees sample bytes_of number_at little decoded header span chain chain_of entries_of unusable twice member step entry_of marks_of tallied raised added initial_of outcome_in outcome_of filtered full payload_of cut places_listed places_after used_listed used_after triggers_after counted count place_of bit_of progress_after place_after ended flat_map
statistics_on = (refl, refl)
