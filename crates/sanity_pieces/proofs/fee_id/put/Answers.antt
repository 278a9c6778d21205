-- The pieces between brackets.
use mathlib.Core.Bool.{not}
use mathlib.Core.Path.{ap}
use Rattle.std.proofs.Common.{rules, ◌<◌, ◌^◌, ◌++◌, length}
use Rattle.text.specs.Ascii.{ascii}
use Rattle.text_writer.proofs.WriterLaws.{extended_then}
use Rattle.sanity.specs.Tests.{fee_id_test, fee_id_tests, pieces}
use Rattle.sanity_pieces.specs.PieceLaws.{failed}
use Rattle.sanity_pieces.proofs.fee_id.put.Goals as goal

pub returns : goal.returns
returns c =
    let own = pieces (fee_id_tests c.args.fee_id.0) in
    let room : length c.args.w.now.buf.now < 2 ^ 64 = search rules in
    let p = extended_then _ _ (ascii "FEE ID = [") own room c.write_bytes-2.ensures c.put_pieces.ensures in
    failed c.args.w.now (fee_id_test _) c.fails.ensures (ap not c.if-not-fails.false)
    (extended_then _ _ (ascii "FEE ID = [" ++ own) (ascii "] ") room p c.write_bytes-3.ensures)
