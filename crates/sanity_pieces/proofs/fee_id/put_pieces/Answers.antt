-- The three pieces, one behind the other, of the numbers that the FEE id gives.
use Rattle.std.proofs.Common.{rules}
use Rattle.sanity.specs.Tests.{fee_id_tests, layer_test, reserved_bits_test, stave_test}
use Rattle.sanity_pieces.specs.PieceLaws.{first_piece, last_piece, renumbered, tested}
use Rattle.sanity_pieces.proofs.fee_id.put_pieces.Goals as goal

pub returns : goal.returns
unfolding fee_id_tests
returns c =
    let w = c.args.w.now in
    let x = c.put_number.new.w in
    let y = c.put_number-2.new.w in
    first_piece w _ _ (search rules) (renumbered w reserved_bits_test c.reserved_bits-reserved_bits.ensures
    (tested w (reserved_bits_test _) c.reserved_bits_fail.ensures c.put_number.ensures))
    (λ room. first_piece x _ _ room (renumbered x stave_test c.stave-stave_number.ensures
    (tested x (stave_test _) c.stave_number_fails.ensures c.put_number-2.ensures))
    (λ _. last_piece y _ (renumbered y layer_test c.layer-layer.ensures
    (tested y (layer_test _) c.layer_fails.ensures c.put_number-3.ensures))))
