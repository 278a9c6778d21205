-- The words' bytes are those of their fields, which are the table's in its order.
use mathlib.Core.List.{[], ◌++◌}
use Rattle.basis.specs.Bytes.{bytes_of}
use Rattle.serde_rdh.specs.Layout.{bytes_in, span, value}
use Rattle.serde_rdh_words.specs.WordBytes.{word_bytes}
use Rattle.serde_rdh.proofs.Ranges.{in_range}
use Rattle.serde_rdh.proofs.words.Goals as goal

pub returns : goal.returns
unfolding word_bytes bytes_in bytes_of span value
returns c =
    let h = c.args.rdh in
    record {
      bytes = λ i.
          c.word.ensures i
          ++ (c.packet_word.ensures i
          ++ (c.word-2.ensures i
          ++ (bytes_of 8 h.dataformat_reserved0.0
          ++ (c.word-3.ensures i
          ++ (bytes_of 8 h.reserved1
          ++ (c.word-4.ensures i
          ++ (bytes_of 8 h.reserved2
          ++ [])))))));
      fits = in_range h _ c.well_formed.0;
    }
