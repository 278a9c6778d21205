-- Each call extends the writer that the call before left, so the columns stand in a row.
use Rattle.std.proofs.Common.{rules, ◌<◌, ◌^◌, length}
use Rattle.rdh_columns.specs.Columns.{columns_text}
use Rattle.text_writer.proofs.WriterLaws.{extended_then}
use Rattle.rdh_columns.proofs.put_columns.Goals as goal

pub returns : goal.returns
unfolding columns_text
returns c =
    let room : length c.args.w.now.buf.now < 2 ^ 64 = search rules in
    let p₁ = c.write_decimal_left.ensures in
    let p₂ = extended_then _ _ _ _ room p₁ c.write_decimal_left-2.ensures in
    let p₃ = extended_then _ _ _ _ room p₂ c.write_decimal_left-3.ensures in
    let p₄ = extended_then _ _ _ _ room p₃ c.write_decimal_left-4.ensures in
    let p₅ = extended_then _ _ _ _ room p₄ c.write_decimal_left-5.ensures in
    let p₆ = extended_then _ _ _ _ room p₅ c.write_decimal_left-6.ensures in
    let p₇ = extended_then _ _ _ _ room p₆ c.write_decimal_left-7.ensures in
    let p₈ = extended_then _ _ _ _ room p₇ c.write_decimal_left-8.ensures in
    let p₉ = extended_then _ _ _ _ room p₈ c.write_hex_left.ensures in
    let p₁₀ = extended_then _ _ _ _ room p₉ c.write_decimal_left-9.ensures in
    let p₁₁ = extended_then _ _ _ _ room p₁₀ c.write_hex_left-2.ensures in
    let p₁₂ = extended_then _ _ _ _ room p₁₁ c.write_decimal_left-10.ensures in
    let p₁₃ = extended_then _ _ _ _ room p₁₂ c.write_decimal_left-11.ensures in
    let p₁₄ = extended_then _ _ _ _ room p₁₃ c.write_byte.ensures in
    let p₁₅ = extended_then _ _ _ _ room p₁₄ c.write_byte-2.ensures in
    extended_then _ _ _ _ room p₁₅ c.write_hex.ensures
