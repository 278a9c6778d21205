-- Where the counts are equal nothing is written; where they differ, the six pieces of the line, one behind the other.
use Rattle.std.proofs.Common.{ℕ, ◌<◌, ◌^◌, List, length, ap, sym, ◌∙◌, arith, rules}
use borrow.Author.Tests.{eq-eqb, ne_eqb}
use Rattle.basis.specs.PickLaws.{off, on}
use Rattle.text_writer.specs.Writer.{extended}
use Rattle.text_writer.proofs.WriterLaws.{extended_then}
use Rattle.trigger_texts.specs.FieldMismatches.{mismatch_if_any}
use Rattle.trigger_texts.specs.Mismatches.{mismatch_of}
use Rattle.trigger_compare.proofs.put_mismatch.Goals as goal

pub returns-then-got-expected : goal.returns-then-got-expected
unfolding mismatch_if_any
returns-then-got-expected c =
    c.write_bytes.ensures
    ∙ ap (λ (t : List ℕ). extended c.args.w.now t) (sym (on _ _ (eq-eqb c.args.got c.args.expected (omega arith))))

pub returns : goal.returns
unfolding mismatch_if_any mismatch_of
returns c =
    let room : length c.args.w.now.buf.now < 2 ^ 64 = search rules in
    let p₁ = c.write_bytes-2.ensures ∙ ap (λ (t : List ℕ). extended c.args.w.now t) c.as_bytes.ensures.value in
    let p₂ = extended_then _ _ _ _ room p₁ c.write_bytes-3.ensures in
    let p₃ = extended_then _ _ _ _ room p₂ c.write_decimal.ensures in
    let p₄ = extended_then _ _ _ _ room p₃ c.write_bytes-4.ensures in
    let p₅ = extended_then _ _ _ _ room p₄ c.write_decimal-2.ensures in
    extended_then _ _ _ _ room p₅ c.write_byte.ensures
    ∙ ap (λ (t : List ℕ). extended c.args.w.now t)
    (sym (off _ _ (ne_eqb c.args.got c.args.expected (λ same. omega arith))))
