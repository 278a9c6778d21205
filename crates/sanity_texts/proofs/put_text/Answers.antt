-- The title and the five parts, one behind the other.
use Rattle.std.proofs.Common.{rules, ◌<◌, ◌^◌, ◌++◌, length}
use Rattle.text.specs.Ascii.{ascii}
use Rattle.text_writer.proofs.WriterLaws.{extended_then}
use Rattle.sanity.specs.Tests.{cru_tests, failure_text, pieces, rdh0_tests, rdh1_tests, rdh2_tests, rdh3_tests, section}
use Rattle.sanity_texts.proofs.put_text.Goals as goal

pub returns : goal.returns
unfolding failure_text
returns c =
    let h = c.args.rdh in
    let room : length c.args.w.now.buf.now < 2 ^ 64 = search rules in
    let title = ascii "[E10] RDH sanity check failed: " in
    let s₀ = section "RDH0: " (rdh0_tests c.args.criteria h.rdh0) in
    let s₁ = section "RDH1: " (rdh1_tests h.rdh1) in
    let s₂ = section "RDH2: " (rdh2_tests h.rdh2) in
    let s₃ = section "RDH3: " (rdh3_tests h.rdh3) in
    let p₀ = extended_then _ _ title s₀ room c.write_bytes.ensures c.put.ensures in
    let p₁ = extended_then _ _ (title ++ s₀) s₁ room p₀ c.put-2.ensures in
    let p₂ = extended_then _ _ (title ++ s₀ ++ s₁) s₂ room p₁ c.put-3.ensures in
    let p₃ = extended_then _ _ (title ++ s₀ ++ s₁ ++ s₂) s₃ room p₂ c.put-4.ensures in
    extended_then _ _ (title ++ s₀ ++ s₁ ++ s₂ ++ s₃) (pieces (cru_tests h)) room p₃ c.put-5.ensures
