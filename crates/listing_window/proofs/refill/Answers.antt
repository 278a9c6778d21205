-- The bytes from the place on move to the front; the input is read up to the place, and then behind what is held.
use Rattle.listing_window.proofs.HeldLaws.{all_read}
use Rattle.listing_window.proofs.refill.Goals as goal

pub returns : goal.returns
returns g c = rw (← c.slide-kept.ensures.value) (rw (← c.slide-kept.ensures.buffer_after) (all_read c.in_ok-there.ensures c.args.size _ c.fill.result c.fill.ensures))
