-- No text of a header is longer than 406 bytes.
use native.Mathlib.Omega.{arith}
use Rattle.serde_rdh.proofs.Ranges.{in_range}
use Rattle.validators.proofs.TextLengthsLaws.{longest_text}
use Rattle.validators.proofs.checked.RdhCruChecked.longest.Goals as goal

pub returns : goal.returns
returns c = longest_text c.args.self (in_range _ _ c.well_formed.0) c.args._criteria (omega arith)
