-- No text of RDH0 is longer than 174 bytes.
use native.Mathlib.Omega.{arith}
use Rattle.validators.proofs.TextLengthsLaws.{rdh0_section}
use Rattle.validators_rdh0.proofs.FirstWordChecked.longest.Goals as goal

pub returns : goal.returns
returns c =
    rdh0_section c.args._criteria c.args.self.0 (omega arith)
    (record { id = omega arith; size = omega arith; priority = omega arith; system = omega arith; reserved = omega arith })
