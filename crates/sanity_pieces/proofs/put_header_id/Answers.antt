-- The five parts of the piece, one behind the other.
use mathlib.Core.Bool.{not}
use mathlib.Core.Path.{ap}
use Rattle.std.proofs.Common.{rules, ◌<◌, ◌^◌, ◌++◌, length}
use Rattle.text.specs.Ascii.{ascii}
use Rattle.text_numbers.specs.Numerals.{decimal}
use Rattle.text_writer.proofs.WriterLaws.{extended_then}
use Rattle.sanity.specs.Tests.{header_id_test}
use Rattle.sanity_pieces.specs.PieceLaws.{failed}
use Rattle.sanity_pieces.proofs.put_header_id.Goals as goal

pub returns : goal.returns
returns c =
    let args = c.args in
    let n = args.header_id in
    let room : length args.w.now.buf.now < 2 ^ 64 = search rules in
    let t₁ = ascii "Header ID = " in
    let p₂ = extended_then _ _ t₁ (decimal n) room c.write_bytes-2.ensures c.write_decimal.ensures in
    let p₃ = extended_then _ _ (t₁ ++ decimal n) (ascii " (expected ") room p₂ c.write_bytes-3.ensures in
    let t₃ = t₁ ++ decimal n ++ ascii " (expected " in
    let p₄ = extended_then _ _ t₃ (decimal args.criteria.header_id) room p₃ c.write_decimal-2.ensures in
    let p₅ = extended_then _ _ (t₃ ++ decimal args.criteria.header_id) (ascii ")") room p₄ c.write_bytes-4.ensures in
    failed args.w.now (header_id_test args.criteria n) c.header_id_fails.ensures (ap not c.if-not-header_id_fails.false) p₅
