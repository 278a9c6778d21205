-- The piece is written where the test fails.
use Rattle.sanity.specs.Tests.{reserved0_test}
use Rattle.sanity_pieces.specs.PieceLaws.{tested}
use Rattle.sanity_pieces.proofs.put_reserved0.Goals as goal

pub returns : goal.returns
returns c = tested c.args.w.now (reserved0_test c.args.reserved0) c.reserved0_fails-fails.ensures c.put_number.ensures
