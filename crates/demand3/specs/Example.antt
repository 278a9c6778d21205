-- Examples, which no public contract cites. D3.1 on a small recording, computed: there are two packets of 64 bytes, and four calls on
-- windows that meet the premises. The replies and the chain are written out, so that a reader sees that they agree. Then both ends of S10,
-- the two positions of S12, and the trigger counts of G5.
use Rattle.std.specs.Prelude.{ℕ, Bool, true, false, ◌≡◌, refl, ℤ, pos, drop, replicate, take, Some}
use Rattle.std.proofs.lemmas.Bool.{false≢true}
use mathlib.Core.List.{List, [], ◌∷◌, ◌++◌, flat_map, map}
use Rattle.std.proofs.Common.{arith}
use Rattle.std.proofs.Math.IntN.{sub_ℕ}
use Rattle.basis.specs.Bytes.{bytes_of, little, number_at}
use Rattle.basis.specs.Pick.{pick}
use Rattle.basis.specs.Refusals.{Answer, gives, refuses}
use Rattle.serde_rdh.specs.Layout.{decoded, header, span}
use Rattle.scan_cdp.specs.Answers.{Found, passed, wants}
use Rattle.scan_cdp.specs.Loads.{loaded, loaded_from, together}
use Rattle.scan_cdp.specs.Steps.{Entry, cut, ended, entry_of, initial_of, marks_of, new_state, payload_of, place_after, places_listed, progress_after, raised, step, tallied, triggers_after, outcome_in, unusable, used_listed, with_lent}
use Rattle.scan_cdp.specs.Outcomes.{filtered, offset, skip_distance, outcome_of}
use Rattle.scan_cdp.specs.Windows.{bytes_at, examined, outside, part_at}
use Rattle.scan_cdp.specs.declared.Settings.{Settings}
use Rattle.stats.specs.Counts.{added}
use Rattle.stats.specs.Lists.{full, member, places_after, twice, used_after}
use Rattle.trigger_stats.specs.Counters.{bit_of, count, counted, place_of}
use Rattle.chain.specs.Calls.{Call, Reply, Window, Windows, along, reply_answer, examines, loads, replies, reply_to}
use Rattle.chain.proofs.CallsFollowLaws.{calls_follow}
use Rattle.chain.specs.Chain.{Kept, chain, chain_of, is_refused}
use Rattle.chain.specs.CountedHeaders.{seen_of, triggers_of}
use Rattle.chain.specs.CountedHeadersClaims.{after}
use Rattle.chain.specs.Following.{entries_of, kept_after, replies_of}
use Rattle.chain.specs.OwnPositions.{WholeLoad, offsets, whole_loads}
use Rattle.chain.specs.Walk.{Met, walk, walk_along}
use Rattle.chain_filter.specs.Scanned.{filter_by_fee, filter_by_link, no_filter, quick}
use Rattle.demand3.specs.MarkedCasesClaims.{◌then◌}
use Rattle.demand3.specs.MarkedCases.{given_at, plain, sample}

-- Two headers without payload, of two FEE ids.
unfoldable pub recording : List ℕ
recording = sample 0x502A 64 0 0x4813 ++ sample 0x3006 64 0 0x4813

-- A scan that has not begun, with four FEE places.
abbrev pub start : Kept
start = record { state = new_state; fee_ids = 0 ∷ 0 ∷ 0 ∷ 0 ∷ [] }

-- The window of so many bytes from a place on.
abbrev window_at : ℕ → ℕ → Bool → Window
window_at first size last = record { bytes = take size (drop first recording); first = first; last = last }

-- An examination that sees 10 bytes; a load that sees the first packet; an examination of the second; a load at the end.
pub calls : List Call
calls =
    examines (window_at 0 10 false)
    ∷ loads (window_at 0 70 false)
    ∷ examines (window_at 64 64 true)
    ∷ loads (window_at 0 128 true)
    ∷ []

abbrev answers : List Reply → List (Answer (Found (List ℕ)))
answers [] = []
answers (r ∷ rs) = reply_answer r ∷ answers rs

abbrev entry_answers : List (Entry (List ℕ)) → List (Answer (Found (List ℕ)))
entry_answers [] = []
entry_answers (e ∷ es) = e.answer ∷ entry_answers es

-- A want, the two packets, and the end.
pub calls_answer : answers (replies plain start calls)
    ≡ gives (wants (record { 0 = 0 }) 64) ∷ given_at 0 0 0x502A 64 ∷ given_at 64 64 0x3006 64 ∷ refuses 1 [] ∷ []
unfolding recording calls sample bytes_of number_at little decoded header span replies_of reply_to examined outside unusable twice member step entry_of marks_of tallied raised added initial_of outcome_in outcome_of filtered full payload_of cut places_listed places_after used_listed used_after progress_after place_after ended loaded loaded_from together bytes_at part_at
calls_answer = refl

-- The chain itself: the two packets, and the end.
pub chain-answers : entry_answers (chain recording plain start) ≡ given_at 0 0 0x502A 64 ∷ given_at 64 64 0x3006 64 ∷ refuses 1 [] ∷ []
unfolding recording sample bytes_of number_at little decoded header span chain chain_of entries_of unusable twice member step entry_of marks_of tallied raised added initial_of outcome_in outcome_of filtered full payload_of cut places_listed places_after used_listed used_after progress_after place_after ended
chain-answers = refl

-- The windows are windows of the recording, so that the theorem speaks of these calls.
pub windows : Windows recording calls
unfolding calls recording sample bytes_of
windows =
    record { bytes = refl; last = λ e. absurd (false≢true e) }
    then record { bytes = refl; last = λ e. absurd (false≢true e) }
    then record { bytes = refl; last = λ e. omega arith }
    then record { bytes = refl; last = λ e. omega arith }
    then tt

pub calls_follow_here : replies plain start calls ≡ along plain start calls (chain recording plain start)
calls_follow_here = calls_follow recording plain start calls windows

-- ---- the ends of what is skipped (S10)

-- A recording of one header that has this offset.
abbrev alone : ℕ → List ℕ
alone n = sample 0x502A n 0 0x4813

-- Payload skipped, statistics off. With no filter the header is handed out ..
abbrev handing : Settings
handing = quick no_filter

-- .. and where link 1 is asked for, it is passed: it is of link 2.
abbrev passing : Settings
passing = quick (filter_by_link 1)

-- What a chain skips: for each entry that is not refused its answer, and the distance of its header.
abbrev skips : List ℕ → Settings → List (Answer (Found (List ℕ)) × ℤ)
skips bytes set =
    flat_map (λ (m : Met). pick (is_refused m.entry.answer) [] ((m.entry.answer, skip_distance (offset m.header)) ∷ []))
    (walk bytes set start)

-- The least, 0, is skipped behind an offset of 64 ..
pub least_skipped : (skips (alone 64) passing ≡ (gives passed, pos 0) ∷ []) × (skips (alone 64) handing ≡ (given_at 0 0 0x502A 64, pos 0) ∷ [])
unfolding sample bytes_of number_at little decoded header span walk walk_along chain chain_of entries_of unusable twice member step entry_of outcome_in outcome_of filtered full payload_of cut places_listed used_listed progress_after place_after marks_of tallied raised initial_of ended flat_map
least_skipped = (refl, refl)

-- .. and the most, 10,000, behind one of 10,064.
pub most_skipped : (skips (alone 10064) passing ≡ (gives passed, pos 10000) ∷ []) × (skips (alone 10064) handing ≡ (given_at 0 0 0x502A 10064, pos 10000) ∷ [])
unfolding sample bytes_of number_at little decoded header span walk walk_along chain chain_of entries_of unusable twice member step entry_of outcome_in outcome_of filtered full payload_of cut places_listed used_listed progress_after place_after marks_of tallied raised initial_of ended flat_map
most_skipped = (refl, refl)

-- ---- the two positions of a packet (S12)

-- A header in front of the two, with an offset of 80, so that two are passed where the FEE id of the last is asked for.
unfoldable pub three : List ℕ
three = sample 0x502A 80 0 0x4813 ++ replicate 16 0 ++ recording

abbrev last_fee : Settings
last_fee = quick (filter_by_fee 0x3006)

-- One load in three calls: a load that passes the first header and wants the second, an examination that passes that, and a load.
pub one_load : List Call
one_load =
    loads (record { bytes = take 100 three; first = 0; last = false })
    ∷ examines (record { bytes = take 64 (drop 80 three); first = 80; last = false })
    ∷ loads (record { bytes = three; first = 0; last = true })
    ∷ []

-- With none open its packet has the position where the load began, 0, and as its own 0 and two offsets, 80 and 64.
pub own_over_calls : answers (replies last_fee start one_load)
    ≡ gives (wants (record { 0 = 80 }) 64) ∷ gives passed ∷ given_at 0 144 0x3006 64 ∷ []
unfolding one_load three recording sample bytes_of number_at little decoded header span replies_of reply_to examined outside unusable twice member step entry_of marks_of tallied raised added initial_of outcome_in outcome_of filtered full payload_of cut places_listed places_after used_listed used_after progress_after place_after ended loaded loaded_from together bytes_at part_at
own_over_calls = refl

-- These are the offsets that the walk gives for that load.
pub offsets_by_walk : map (λ (l : WholeLoad). offsets l.passed) (whole_loads [] (walk three last_fee start)) ≡ 144 ∷ []
unfolding three recording sample bytes_of number_at little decoded header span walk walk_along chain chain_of entries_of unusable twice member step entry_of outcome_in outcome_of filtered full payload_of cut places_listed used_listed progress_after place_after marks_of tallied raised initial_of ended whole_loads offsets
offsets_by_walk = refl

-- A state with an open load whose start is above the position, which no scan leaves.
abbrev opened : Kept
opened =
    record {
      state = record {
        progress = record {
          place = record { 0 = 0 };
          position = record { 0 = 0 };
          load = Some (record { 0 = 1000 });
          counts = new_state.progress.counts;
          links_used = 0;
          fee_ids_used = 0;
        };
        links = new_state.links;
        triggers = new_state.triggers;
      };
      fee_ids = start.fee_ids;
    }

-- The packet has that start, and as its own the position where the calls began and the two offsets: here it is before the start.
pub own_before_start : answers (replies last_fee opened one_load)
    ≡ gives (wants (record { 0 = 80 }) 64) ∷ gives passed ∷ given_at 1000 144 0x3006 64 ∷ []
unfolding one_load three recording sample bytes_of number_at little decoded header span replies_of reply_to examined outside unusable twice member step entry_of marks_of tallied raised added initial_of outcome_in outcome_of filtered full payload_of cut places_listed places_after used_listed used_after progress_after place_after ended loaded loaded_from together bytes_at part_at
own_before_start = refl

-- ---- the trigger counts (G5)

-- A header that a filter for the FEE id 0x3006 passes, one that it takes, another one to pass, and one whose offset is bad.
unfoldable pub four : List ℕ
four = sample 0x502A 64 0 0x3 ++ sample 0x3006 64 0 0x4813 ++ sample 0x502A 64 0 0x80000001 ++ sample 0x502A 63 0 0xFFFFFFFF

abbrev counting : Settings
counting = record { filter = last_fee.filter; skip_payload = true; stats = true }

-- A state made by hand, whose last trigger count is full.
abbrev nearly : Kept
nearly =
    record {
      state = with_lent new_state.progress new_state.links (replicate 19 0 ++ (0xFFFFFFFF ∷ []));
      fee_ids = start.fee_ids;
    }

-- A load that passes the first header and hands out the second, and a load that passes the third and is refused with 2 at the fourth.
pub two_loads : List Call
two_loads =
    loads (record { bytes = four; first = 0; last = true })
    ∷ loads (record { bytes = four; first = 0; last = true })
    ∷ []

-- Three headers are counted, the passed ones among them, and the fourth, which is a later one, is not. The last count starts again at 0.
pub counts_left : (answers (replies counting nearly two_loads) ≡ given_at 0 64 0x3006 64 ∷ refuses 2 (sub_ℕ 63 64 ∷ pos 192 ∷ []) ∷ [])
    × (seen_of (after counting nearly two_loads) ≡ 3)
    × (triggers_of (after counting nearly two_loads)
    ≡ 3 ∷ 2 ∷ 0 ∷ 0 ∷ 1 ∷ 0 ∷ 0 ∷ 0 ∷ 0 ∷ 0 ∷ 0 ∷ 1 ∷ 0 ∷ 0 ∷ 1 ∷ 0 ∷ 0 ∷ 0 ∷ 0 ∷ 0 ∷ [])
unfolding two_loads four sample bytes_of number_at little decoded header span replies_of kept_after reply_to unusable twice member step entry_of marks_of tallied raised added initial_of outcome_in outcome_of filtered full payload_of cut places_listed places_after used_listed used_after triggers_after counted count place_of bit_of progress_after place_after ended examined outside loaded loaded_from together bytes_at part_at
counts_left = (refl, refl, refl)
