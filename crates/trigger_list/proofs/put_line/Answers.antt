-- The label, the count and a line feed, one behind the other.
use Rattle.std.proofs.Common.{rules, ◌<◌, ◌^◌, length, ◌∙◌, ap, List, ℕ}
use Rattle.text_writer.specs.Writer.{extended}
use Rattle.text_writer.proofs.WriterLaws.{extended_then}
use Rattle.trigger_texts.specs.TriggerList.{line_of}
use Rattle.trigger_list.proofs.put_line.Goals as goal

pub returns : goal.returns
unfolding line_of
returns c =
    let room : length c.args.w.now.buf.now < 2 ^ 64 = search rules in
    let label = c.write_bytes.ensures ∙ ap (λ (t : List ℕ). extended c.args.w.now t) c.as_bytes.ensures.value in
    extended_then _ _ _ _ room (extended_then _ _ _ _ room label c.write_decimal_right.ensures) c.write_byte.ensures
