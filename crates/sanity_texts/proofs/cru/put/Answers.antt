-- The two pieces, one behind the other, of the numbers that the header gives.
use Rattle.std.proofs.Common.{rules}
use Rattle.sanity.specs.Tests.{cru_tests, data_format_test, dw_test}
use Rattle.sanity_pieces.specs.PieceLaws.{first_piece, last_piece, renumbered, tested}
use Rattle.sanity_texts.proofs.cru.put.Goals as goal

pub returns : goal.returns
unfolding cru_tests
returns c =
    let w = c.args.w.now in
    let x = c.put_number.new.w in
    first_piece w _ _ (search rules) (renumbered w dw_test c.dw-dw.ensures (tested w (dw_test _) c.dw_fails.ensures c.put_number.ensures))
    (λ _. last_piece x _ (renumbered x data_format_test c.data_format-data_format.ensures
    (tested x (data_format_test _) c.data_format_fails.ensures c.put_number-2.ensures)))
