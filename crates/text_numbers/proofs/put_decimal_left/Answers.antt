-- The number, then the blanks that it lacks.
use Rattle.text_numbers.proofs.Padding.{padded_behind}
use Rattle.text_numbers.proofs.put_decimal_left.Goals as goal

pub returns : goal.returns
returns c =
    padded_behind c.args.width c.put_decimal-end.ensures
    c.lacking.ensures c.put_blanks.ensures
