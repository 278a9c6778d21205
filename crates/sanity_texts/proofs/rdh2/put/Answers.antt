-- The heading and the three pieces, one behind the other, where any test fails.
use mathlib.Core.Bool.{not}
use mathlib.Core.Path.{ap}
use Rattle.std.proofs.Common.{rules}
use Rattle.sanity.specs.Tests.{rdh2_tests, stop_bit_test, trigger_type_test}
use Rattle.sanity_pieces.specs.PieceLaws.{first_piece, last_piece, tested, under}
use Rattle.sanity_texts.proofs.rdh2.put.Goals as goal

pub returns : goal.returns
unfolding rdh2_tests
returns c =
    let x = c.write_bytes-2.new.self in
    let y = c.put_reserved0.new.w in
    let z = c.put_number.new.w in
    under c.args.w.now "RDH2: " _ c.fails.ensures (ap not c.if-not-fails.false) (search rules) c.write_bytes-2.ensures
    (λ room. first_piece x _ _ room c.put_reserved0.ensures
    (λ room. first_piece y _ _ room (tested y (stop_bit_test _) c.stop_bit_fails-stop_bit.ensures c.put_number.ensures)
    (λ _. last_piece z _ (tested z (trigger_type_test _) c.trigger_type_fails-trigger_type.ensures c.put_number-2.ensures))))
