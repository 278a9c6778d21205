-- The heading and the two pieces, one behind the other, where any test fails.
use mathlib.Core.Bool.{not}
use mathlib.Core.Path.{ap}
use Rattle.std.proofs.Common.{rules}
use Rattle.sanity.specs.Tests.{bc_test, rdh1_tests, reserved0_test}
use Rattle.sanity_pieces.specs.PieceLaws.{first_piece, last_piece, renumbered, tested, under}
use Rattle.sanity_texts.proofs.rdh1.put.Goals as goal

pub returns : goal.returns
unfolding rdh1_tests
returns c =
    let x = c.write_bytes-2.new.self in
    let y = c.put_reserved0.new.w in
    under c.args.w.now "RDH1: " _ c.fails.ensures (ap not c.if-not-fails.false) (search rules) c.write_bytes-2.ensures
    (λ room. first_piece x _ _ room (renumbered x reserved0_test c.reserved0.ensures c.put_reserved0.ensures)
    (λ _. last_piece y _ (renumbered y bc_test c.bc-bc.ensures (tested y (bc_test _) c.bc_fails.ensures c.put_number.ensures))))
