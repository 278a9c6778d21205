-- The name, a blank, the number and the end of the line, one behind the other.
use Rattle.std.proofs.Common.{rules, ◌<◌, ◌^◌, length}
use Rattle.text_writer.proofs.WriterLaws.{extended_then}
use Rattle.listing_lines.specs.Lines.{count_line}
use Rattle.listing_lines.proofs.put_count.Goals as goal

pub returns : goal.returns
unfolding count_line
returns c =
    let room : length c.args.w.now.buf.now < 2 ^ 64 = search rules in
    extended_then _ _ _ _ room (extended_then _ _ _ _ room (extended_then _ _ _ _ room c.write_bytes.ensures c.write_byte.ensures) c.write_decimal.ensures) c.write_byte-2.ensures
