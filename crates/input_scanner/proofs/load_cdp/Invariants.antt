use Rattle.std.proofs.Common.{◌+◌, ◌-◌, length}
use Rattle.scan_cdp.specs.Loads.{no_load_marks}
use Rattle.scan_cdp.specs.Scans.{SameScan, state_of}
use Rattle.scan_laws.proofs.LoadTurnLaws.{LoadTurn}
use Rattle.input_scanner.proofs.load_cdp.Given as goal

-- The scan goes on as the same one, and the whole load is the load from here on.
abbrev pub invariant-loop-answer : goal.invariant-loop-answer
invariant-loop-answer l =
    SameScan l.fn.scan l.scan
    × LoadTurn l.fn.scan.set no_load_marks (state_of l.fn.scan) l.fn.scan.fee_ids.now l.window.bytes.now l.window.first.0 l.window.last
    l.marks (state_of l.scan) l.scan.fee_ids.now

abbrev pub decreases-loop-answer : goal.decreases-loop-answer
decreases-loop-answer l = l.window.first.0 + length l.window.bytes.now - l.scan.progress.place.0
