-- A text that does not fit is refused with its length; one that fits is put.
use Rattle.text.specs.WrittenLaws.{fitting, too_short}
use Rattle.text_writer.proofs.whole.write_text.Goals as goal

pub returns-then-out-needed : goal.returns-then-out-needed
returns-then-out-needed g c = too_short _ c.needed-needed.ensures c.if-out-needed.true

pub returns : goal.returns
returns g c = fitting (c.needed-needed.ensures.fits c.if-out-needed.false) c.put_at_start.ensures
