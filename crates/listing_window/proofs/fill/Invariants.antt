-- What was held stays in front: each read goes behind it.
use Rattle.std.proofs.Common.{◌-◌, ◌≡◌, ◌≤◌, length, take}
use Rattle.listing_window.proofs.fill.Given as goal

abbrev pub invariant-loop-there : goal.invariant-loop-there
invariant-loop-there g l =
    (length l.buffer ≡ length l.fn.buffer) × (l.fn.held.length ≤ l.there.length) × (l.there.length ≤ length l.buffer)
    × (l.there.first ≡ l.fn.held.first) × (l.there.last ≡ l.fn.held.last)
    × (take l.fn.held.length l.buffer ≡ take l.fn.held.length l.fn.buffer)
    × (l.wanted ≤ l.fn.held.length → (l.there.length ≡ l.fn.held.length) × (l.buffer ≡ l.fn.buffer))

abbrev pub decreases-loop-there : goal.decreases-loop-there
decreases-loop-there g l = length l.buffer - l.there.length
