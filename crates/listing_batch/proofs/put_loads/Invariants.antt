use Prim.Native.Nat.{◌-◌}
use lib.ListN.{length}
use Rattle.scan_cdp.specs.Scans.{SameScan, state_of}
use Rattle.listing_batch.specs.BatchLaws.{ListTurn}
use Rattle.listing_batch.proofs.put_loads.Given as goal

-- The scan goes on as the same one, and the loads from here on give what all of them give.
abbrev pub invariant-loop-w : goal.invariant-loop-w
invariant-loop-w l =
    SameScan l.fn.scan l.scan
    × ListTurn l.fn.scan.set l.fn.validator (state_of l.fn.scan) l.fn.scan.fee_ids.now l.window.bytes.now l.window.first.0 l.window.last l.fn.out
    l.initial.w l.validator (state_of l.scan) l.scan.fee_ids.now l.w l.unsound

abbrev pub decreases-loop-w : goal.decreases-loop-w
decreases-loop-w l = length l.w.buf.now - l.w.count
