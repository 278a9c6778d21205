-- Each field of the word is the number in its bytes.
use Rattle.std.proofs.Common.{arith}
use Rattle.serde_rdh.specs.Layout.{decoded, header, span}
use Rattle.serde_rdh.proofs.ReadLaws.{four_bytes}
use Rattle.serde_rdh.proofs.rdh1.from_buf.Goals as goal

pub returns : goal.returns
unfolding decoded header span
returns c =
    let s = c.args.buf.now in
    λ i.
    record {
      bc_reserved0 = record { 0 = four_bytes s _ 16 _ (omega arith) c.bytes_at.ensures c.from_le_bytes.ensures i };
      orbit = four_bytes s _ 20 _ (omega arith) c.bytes_at-2.ensures c.from_le_bytes-2.ensures i;
    }
