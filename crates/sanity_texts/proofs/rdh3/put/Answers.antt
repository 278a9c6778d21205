-- The heading and the two pieces, one behind the other, where any test fails.
use mathlib.Core.Bool.{not}
use mathlib.Core.Path.{ap}
use Rattle.std.proofs.Common.{rules}
use Rattle.sanity.specs.Tests.{detector_field_test, rdh3_tests}
use Rattle.sanity_pieces.specs.PieceLaws.{first_piece, last_piece, tested, under}
use Rattle.sanity_texts.proofs.rdh3.put.Goals as goal

pub returns : goal.returns
unfolding rdh3_tests
returns c =
    let x = c.write_bytes-2.new.self in
    let y = c.put_reserved0.new.w in
    under c.args.w.now "RDH3: " _ c.fails.ensures (ap not c.if-not-fails.false) (search rules) c.write_bytes-2.ensures
    (λ room. first_piece x _ _ room c.put_reserved0.ensures
    (λ _. last_piece y _ (tested y (detector_field_test _) c.detector_field_fails-detector_field.ensures c.put_number.ensures)))
