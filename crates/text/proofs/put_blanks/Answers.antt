-- Those blanks are filled in that lie within the buffer.
use Rattle.std.proofs.Common.{arith, rules}
use Rattle.text.proofs.Parts.{put_run}
use Rattle.text.proofs.put_blanks.Goals as goal

pub returns : goal.returns
returns c = put_run _ _ _ _ _ _ _ _ (omega arith) c.saturating_add-end.ensures c.min-start.ensures (omega arith) (search rules)
