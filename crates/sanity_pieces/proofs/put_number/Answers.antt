-- Label, number and blank, one behind the other.
use mathlib.Core.Bool.{not}
use mathlib.Core.Path.{ap, refl}
use Rattle.std.proofs.Common.{rules, ◌<◌, ◌^◌, length}
use Rattle.sanity.specs.Tests.{test}
use Rattle.sanity_pieces.specs.PieceLaws.{failed}
use Rattle.text_writer.proofs.WriterLaws.{extended_then}
use Rattle.sanity_pieces.proofs.put_number.Goals as goal

pub returns : goal.returns
returns c =
    let room : length c.args.w.now.buf.now < 2 ^ 64 = search rules in
    failed c.args.w.now (test c.args.fails _) refl (ap not c.if-not-fails.false)
    (extended_then _ _ _ _ room (extended_then _ _ _ _ room c.write_bytes-2.ensures c.put.ensures) c.write_byte.ensures)
