-- Each read moves what is held on, and no further than the place.
use Rattle.std.proofs.Common.{◌-◌, ◌≡◌, ◌≤◌, length, false}
use Rattle.listing_window.proofs.drop_up_to.Given as goal

abbrev pub invariant-loop-held : goal.invariant-loop-held
invariant-loop-held g l =
    (length l.buffer ≡ length l.fn.buffer) × (l.fn.from.0 ≤ l.held.first.0) × (l.held.first.0 ≤ l.place.0) × (l.held.length ≡ 0) × (l.held.last ≡ false)

abbrev pub decreases-loop-held : goal.decreases-loop-held
decreases-loop-held g l = l.place.0 - l.held.first.0
