-- The heading and the six pieces, one behind the other, where any test fails.
use mathlib.Core.Bool.{not}
use mathlib.Core.Path.{ap}
use Rattle.std.proofs.Common.{rules}
use Rattle.sanity.specs.Tests.{header_size_test, priority_bit_test, rdh0_tests, system_id_test}
use Rattle.sanity_pieces.specs.PieceLaws.{first_piece, last_piece, tested, under}
use Rattle.sanity_texts.proofs.rdh0.put.Goals as goal

pub returns : goal.returns
unfolding rdh0_tests
returns c =
    let criteria = c.args.criteria in
    let x₁ = c.write_bytes-2.new.self in
    let x₂ = c.put_header_id.new.w in
    let x₃ = c.put_number.new.w in
    let x₄ = c.put.new.w in
    let x₅ = c.put_number-2.new.w in
    let x₆ = c.put_number-3.new.w in
    under c.args.w.now "RDH0: " _ c.fails.ensures (ap not c.if-not-fails.false) (search rules) c.write_bytes-2.ensures
    (λ room. first_piece x₁ _ _ room c.put_header_id.ensures
    (λ room. first_piece x₂ _ _ room (tested x₂ (header_size_test _) c.header_size_fails-header_size.ensures c.put_number.ensures)
    (λ room. first_piece x₃ _ _ room c.put.ensures
    (λ room. first_piece x₄ _ _ room (tested x₄ (priority_bit_test _) c.priority_bit_fails-priority_bit.ensures c.put_number-2.ensures)
    (λ room. first_piece x₅ _ _ room (tested x₅ (system_id_test criteria _) c.system_id_fails-system_id.ensures c.put_number-3.ensures)
    (λ _. last_piece x₆ _ c.put_reserved0.ensures))))))
