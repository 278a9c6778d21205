-- Each turn writes the mismatch of the next counter, if there is one, behind those of the ones before.
use Rattle.std.proofs.Common.{ℕ, ◌<◌, ◌^◌, ◌≡◌, List, length, get_or, take, ap, ap₂, sym, ◌∙◌, rules, take_all}
use Rattle.text.specs.Ascii.{ascii}
use Rattle.text_writer.specs.Writer.{extended}
use Rattle.text_writer.proofs.WriterLaws.{extended_then}
use Rattle.trigger_stats.specs.Counters.{counters, counter_at}
use Rattle.trigger_stats.proofs.CountersLaws.{count_at}
use Rattle.trigger_texts.specs.CounterOrder.{texts_in_order}
use Rattle.trigger_texts.specs.FieldMismatches.{counter_mismatch, mismatch_if_any}
use Rattle.trigger_texts.specs.Mismatches.{name}
use Rattle.trigger_texts.proofs.CounterOrderLaws.{next_one}
use Rattle.trigger_texts.proofs.MismatchesLaws.{by_counter}
use Rattle.trigger_texts.proofs.TableLaws.{text_at}
use Rattle.trigger_compare.proofs.put_mismatches.Goals as goal

pub loop-field-init : goal.loop-field-init
unfolding texts_in_order
loop-field-init c = c.write_bytes.ensures

pub loop-field-preserved : goal.loop-field-preserved
loop-field-preserved c =
    let self = c.args.counts in
    let other = c.args.expected in
    let k = c.loop-field.field in
    let below = c.loop-field-test.true in
    let before = texts_in_order (counter_mismatch self other) (take k counters) in
    let next = counter_mismatch self other (counter_at k) in
    let room : length c.args.w.now.buf.now < 2 ^ 64 = search rules in
    let named = text_at (λ j. ascii (name j)) c.args.names.now k _ c.requires below in
    let told : mismatch_if_any (get_or c.args.names.now k _).now (get_or other k 0) (get_or self k 0) ≡ next =
    ap (λ (t : List ℕ). mismatch_if_any t (get_or other k 0) (get_or self k 0)) named
    ∙ ap₂ (mismatch_if_any (ascii (name (counter_at k)))) (sym (count_at k below other)) (sym (count_at k below self)) in
    extended_then _ _ before next room c.loop-field.invariant (c.put_mismatch.ensures ∙ ap (λ (t : List ℕ). extended c.loop-field.w t) told)
    ∙ ap (λ (t : List ℕ). extended c.args.w.now t) (sym (next_one (counter_mismatch self other) k below))

pub returns : goal.returns
returns c =
    let self = c.args.counts in
    let other = c.args.expected in
    c.loop-field.invariant
    ∙ ap (λ (t : List ℕ). extended c.args.w.now t)
    (ap (texts_in_order (counter_mismatch self other)) (take_all c.loop-field.field counters c.loop-field-test.false)
    ∙ sym (by_counter self other))
