-- The packets so far and those that the loads from here on find are all, where the recording is in memory.
use Rattle.std.specs.Prelude.{◌≡◌, ◌≤◌, length}
use Rattle.scan_cdp.specs.Scans.{SameScan, state_of}
use Rattle.bench.specs.Counted.{all, left_from, most, packets_from}
use Rattle.bench.proofs.CountedLaws.{Turn}
use Rattle.bench.proofs.load_all.Given as goal

abbrev pub invariant-loop : goal.invariant-loop
invariant-loop l =
    let s = l.fn.scan in
    record {
      same : SameScan s l.scan;
      held : l.held.length ≤ length l.buffer;
      packets : l.packets ≤ l.counter;
      turn : l.fn.held ≡ all (length l.fn.buffer)
          → Turn s.set l.fn.buffer (packets_from most s.set (state_of s) s.fee_ids.now l.fn.buffer)
          (left_from most s.set (state_of s) s.fee_ids.now l.fn.buffer) l.buffer l.scan.fee_ids.now (state_of l.scan) l.held l.packets
          l.counter;
    }
