-- Each field of the word is the number in its bytes.
use Rattle.std.proofs.Common.{arith}
use Rattle.serde_rdh.specs.Layout.{decoded, header, span}
use Rattle.serde_rdh.proofs.ReadLaws.{byte, four_bytes, two_bytes}
use Rattle.serde_rdh.proofs.rdh2.from_buf.Goals as goal

pub returns : goal.returns
unfolding decoded header span
returns c =
    let s = c.args.buf.now in
    λ i.
    record {
      trigger_type = four_bytes s _ 32 _ (omega arith) c.bytes_at.ensures c.from_le_bytes.ensures i;
      pages_counter = two_bytes s _ 36 _ (omega arith) c.bytes_at-2.ensures c.from_le_bytes-2.ensures i;
      stop_bit = byte s 38 (omega arith) i;
      reserved0 = byte s 39 (omega arith) i;
    }
