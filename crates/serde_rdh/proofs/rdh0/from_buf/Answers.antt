-- Each field of the word is the number in its bytes.
use Rattle.std.proofs.Common.{arith}
use Rattle.serde_rdh.specs.Layout.{decoded, header, span}
use Rattle.serde_rdh.proofs.ReadLaws.{byte, two_bytes}
use Rattle.serde_rdh.proofs.rdh0.from_buf.Goals as goal

pub returns : goal.returns
unfolding decoded header span
returns c =
    let s = c.args.buf.now in
    λ i.
    record {
      header_id = byte s 0 (omega arith) i;
      header_size = byte s 1 (omega arith) i;
      fee_id = record { 0 = two_bytes s _ 2 _ (omega arith) c.bytes_at.ensures c.from_le_bytes.ensures i };
      priority_bit = byte s 4 (omega arith) i;
      system_id = byte s 5 (omega arith) i;
      reserved0 = two_bytes s _ 6 _ (omega arith) c.bytes_at-2.ensures c.from_le_bytes-2.ensures i;
    }
