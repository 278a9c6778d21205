-- The pieces, one behind the other.
use Rattle.std.proofs.Common.{rules, ◌<◌, ◌^◌, length}
use Rattle.text_writer.proofs.WriterLaws.{extended_then}
use Rattle.listing_lines.specs.Lines.{line_at}
use Rattle.listing_packet.proofs.put_row_line.Goals as goal

pub returns : goal.returns
unfolding line_at
returns c =
    let room : length c.args.w.now.buf.now < 2 ^ 64 = search rules in
    extended_then _ _ _ _ room (extended_then _ _ _ _ room (extended_then _ _ _ _ room c.put.ensures c.write_bytes.ensures) c.put_row.ensures)
    c.write_byte.ensures
