-- After the title, each turn writes the line of the next counter behind those of the ones before.
use Rattle.std.proofs.Common.{ℕ, ◌<◌, ◌^◌, ◌++◌, List, length, take, ap, ap₂, sym, ◌∙◌, rules, take_all, append_assoc}
use Rattle.text.specs.Ascii.{ascii}
use Rattle.text_writer.specs.Writer.{extended}
use Rattle.text_writer.proofs.WriterLaws.{extended_then}
use Rattle.trigger_stats.specs.Counters.{counters, counter_at}
use Rattle.trigger_stats.proofs.CountersLaws.{count_at}
use Rattle.trigger_texts.specs.CounterOrder.{texts_in_order}
use Rattle.trigger_texts.specs.TriggerList.{label, line, line_of, list_text}
use Rattle.trigger_texts.proofs.CounterOrderLaws.{next_one}
use Rattle.trigger_texts.proofs.TableLaws.{text_at}
use Rattle.trigger_list.proofs.put_list.Goals as goal

pub loop-k-init : goal.loop-k-init
unfolding texts_in_order
loop-k-init c = c.write_bytes.ensures

pub loop-k-preserved : goal.loop-k-preserved
unfolding line
loop-k-preserved c =
    let counts = c.args.counts in
    let k = c.loop-k.k in
    let title = ascii "Trigger statistics:\n" in
    let before = texts_in_order (line counts) (take k counters) in
    let next = line counts (counter_at k) in
    let room : length c.args.w.now.buf.now < 2 ^ 64 = search rules in
    let named = text_at (λ j. ascii (label j)) c.args.labels.now k _ c.requires c.loop-k-test.true in
    let told = ap₂ line_of named (sym (count_at k c.loop-k-test.true counts)) in
    extended_then _ _ (title ++ before) next room c.loop-k.invariant (c.put_line.ensures ∙ ap (λ (t : List ℕ). extended c.loop-k.w t) told)
    ∙ ap (λ (t : List ℕ). extended c.args.w.now t)
    (append_assoc title before next ∙ ap (λ (t : List ℕ). title ++ t) (sym (next_one (line counts) k c.loop-k-test.true)))

pub returns : goal.returns
unfolding list_text
returns c =
    c.loop-k.invariant
    ∙ ap (λ ks. extended c.args.w.now (ascii "Trigger statistics:\n" ++ texts_in_order (line c.args.counts) ks))
    (take_all c.loop-k.k counters c.loop-k-test.false)
