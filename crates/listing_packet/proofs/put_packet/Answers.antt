-- The row, then the verdict of a packet that is not sound.
use Rattle.std.proofs.Common.{rules, ◌<◌, ◌^◌, length}
use Rattle.serde_rdh.proofs.Ranges.{in_range}
use Rattle.rdh_row.proofs.RowLaws.{longest_row}
use Rattle.listing_packet.specs.PacketLaws.{packet_written, short_packet}
use Rattle.listing_packet.proofs.put_packet.Goals as goal

pub returns : goal.returns
returns c =
    let room : length c.args.w.now.buf.now < 2 ^ 64 = search rules in
    let judged = c.put_verdict_line.ensures in
    record {
      validator = judged.validator;
      unsound = judged.unsound;
      lines = packet_written _ _ _ _ _ room c.put_row_line.ensures judged.lines;
      short = short_packet _ _ c.args.rdh (longest_row c.args.rdh (in_range c.args.rdh _ c.well_formed.1.1.1.0)) judged.short;
    }
