-- The low half fits its bytes.
use native.Mathlib.Omega.{arith}
use Rattle.serde_rdh_numbers.proofs.JoinLaws.{joined}
use Rattle.serde_rdh_numbers.proofs.U32Half.join.Goals as goal

pub returns : goal.returns
returns c = joined 4 c.args.self c.args.high _ (omega arith) (omega arith)
