-- Each field of the word is the number in its bytes.
use Rattle.std.proofs.Common.{arith}
use Rattle.serde_rdh.specs.Layout.{decoded, header, span}
use Rattle.serde_rdh.proofs.ReadLaws.{four_bytes, two_bytes}
use Rattle.serde_rdh.proofs.rdh3.from_buf.Goals as goal

pub returns : goal.returns
unfolding decoded header span
returns c =
    let s = c.args.buf.now in
    λ i.
    record {
      detector_field = four_bytes s _ 48 _ (omega arith) c.bytes_at.ensures c.from_le_bytes.ensures i;
      par_bit = two_bytes s _ 52 _ (omega arith) c.bytes_at-2.ensures c.from_le_bytes-2.ensures i;
      reserved0 = two_bytes s _ 54 _ (omega arith) c.bytes_at-3.ensures c.from_le_bytes-3.ensures i;
    }
