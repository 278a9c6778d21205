-- The four lines, one behind the other; the last has the number of the refusal.
use Rattle.std.proofs.Common.{rules, ◌<◌, ◌^◌, length}
use Rattle.text_writer.proofs.WriterLaws.{extended_then}
use Rattle.listing_lines.specs.Lines.{last_lines}
use Rattle.listing_lines.proofs.put_last.Goals as goal

pub returns : goal.returns
unfolding last_lines
returns c =
    let room : length c.args.w.now.buf.now < 2 ^ 64 = search rules in
    extended_then _ _ _ _ room (extended_then _ _ _ _ room (extended_then _ _ _ _ room c.put_count.ensures c.put_count-2.ensures) c.put_count-3.ensures) (rw c.number.ensures at c.put_count-4.ensures)
