-- From load to load, what is held stands in its buffer and the lines in theirs.
use Rattle.std.specs.Prelude.{◌≤◌, length}
use Rattle.listing_lines.specs.Lines.{room}
use Rattle.listing.proofs.list.Given as goal

abbrev pub invariant-loop : goal.invariant-loop
invariant-loop g l =
    record {
      held : l.held.length ≤ length l.buffer;
      count : l.w.count ≤ length l.w.buf.now;
      room : room ≤ length l.w.buf.now;
    }
