-- The statement on the counts that calls leave (K5, G5): seen, and each of the 20 trigger counts, by the headers that the calls met.
use Rattle.std.specs.Prelude.{ℕ, ◌+◌, ◌*◌, ◌%◌, ◌^◌, ◌<◌, true, ◌≡◌, List, ◌++◌, length}
use Rattle.stats.specs.Counts.{full_count}
use Rattle.trigger_stats.specs.Counters.{Counter, bit_of, collected, count, with_bit}
use Rattle.scan_cdp.specs.declared.Settings.{Settings}
use Rattle.chain.specs.Calls.{Call, Windows, chain_ended, kept_by_all, replies, to_come}
use Rattle.chain.specs.Chain.{Kept, chain}
use Rattle.chain.specs.CountedHeaders.{carries_of, counted_headers, counted_words, seen_of, triggers_of}
use Rattle.chain.specs.Walk.{Met, walk, walk_along}

-- What calls leave.
abbrev pub after : Settings → Kept → List Call → Kept
after set start calls = kept_by_all start (replies set start calls)

-- What some calls counted. They met the first steps of the walk, all but those still to come. The trigger counts are those at the start, raised
-- by the words of the headers counted there: each by the number of words that have its bit, modulo 2^32. Seen, with 2^32 - 1 for each time that
-- the marks told that it started again, is what it was and the number of these headers. Counts are numbers of 32 bits, as in each state that
-- the code holds.
pub record Counted (recording : List ℕ) (set : Settings) (start : Kept) (calls : List Call) : Type 0 where
  pub met : List Met
  pub split : met ++ walk_along recording (after set start calls) (to_come set start calls (chain recording set start)) ≡ walk recording set start
  pub whole : chain_ended (replies set start calls) ≡ true → met ≡ walk recording set start
  pub triggers : triggers_of (after set start calls) ≡ collected (triggers_of start) (counted_words set met)
  pub each : (k : Counter) → count k (triggers_of start) < 2 ^ 32
      → count k (triggers_of (after set start calls)) ≡ (count k (triggers_of start) + with_bit (bit_of k) (counted_words set met)) % 2 ^ 32
  pub seen : seen_of start < 2 ^ 32
      → seen_of (after set start calls) + carries_of (replies set start calls) * full_count ≡ seen_of start + length (counted_headers set met)

-- So it is with any calls on windows of any recording.
abbrev pub CallsCount : Type 0
CallsCount =
    (recording : List ℕ) (set : Settings) (start : Kept) (calls : List Call) → Windows recording calls → Counted recording set start calls
