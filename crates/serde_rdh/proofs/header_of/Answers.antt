-- Each field is the number in its bytes, and each word's struct that word's.
use Rattle.std.proofs.Common.{arith}
use Rattle.serde_rdh.specs.Layout.{decoded, header, span}
use Rattle.serde_rdh.proofs.ReadLaws.{byte, eight_bytes, two_bytes}
use Rattle.serde_rdh.proofs.header_of.Goals as goal

pub returns : goal.returns
unfolding decoded header span
returns c =
    let s = c.args.buf.now in
    λ i.
    record {
      rdh0 = c.from_buf.ensures i;
      offset_new_packet = two_bytes s _ 8 _ (omega arith) c.bytes_at.ensures c.from_le_bytes.ensures i;
      memory_size = two_bytes s _ 10 _ (omega arith) c.bytes_at-2.ensures c.from_le_bytes-2.ensures i;
      link_id = byte s 12 (omega arith) i;
      packet_counter = byte s 13 (omega arith) i;
      cruid_dw = record { 0 = two_bytes s _ 14 _ (omega arith) c.bytes_at-3.ensures c.from_le_bytes-3.ensures i };
      rdh1 = c.from_buf-2.ensures i;
      dataformat_reserved0 = record { 0 = eight_bytes s _ 24 _ (omega arith) c.bytes_at-4.ensures c.from_le_bytes-4.ensures i };
      rdh2 = c.from_buf-3.ensures i;
      reserved1 = eight_bytes s _ 40 _ (omega arith) c.bytes_at-5.ensures c.from_le_bytes-5.ensures i;
      rdh3 = c.from_buf-4.ensures i;
      reserved2 = eight_bytes s _ 56 _ (omega arith) c.bytes_at-6.ensures c.from_le_bytes-6.ensures i;
    }
