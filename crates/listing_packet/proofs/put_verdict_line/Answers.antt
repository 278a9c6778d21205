-- The text of a header that is not sound is within the buffer.
use Rattle.std.proofs.Common.{arith}
use Rattle.listing_packet.proofs.put_verdict_line.Goals as goal

pub slice_bounds-text-end : goal.slice_bounds-text-end
slice_bounds-text-end c = omega (arith, (c.check-check.ensures.flawed _ c.in-NotSound.ensures).2, c.check-check.array_long)
