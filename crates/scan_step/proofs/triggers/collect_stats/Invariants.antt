use Rattle.std.proofs.Common.{◌≡◌, ℕ, ◌<◌, ◌≤◌, get_or, length}
use Rattle.trigger_stats.specs.Counters.{counted}
use Rattle.scan_step.proofs.triggers.collect_stats.Given as goal

-- The counts at the places so far are those after the word, and the others are as they were.
abbrev pub invariant-loop-place : goal.invariant-loop-place
invariant-loop-place l =
    (length l.counts ≡ 20)
    × ((k : ℕ)
    → (k < l.place → get_or l.counts k 0 ≡ get_or (counted l.initial.counts l.trigger) k 0)
    × (l.place ≤ k → get_or l.counts k 0 ≡ get_or l.initial.counts k 0))
