-- The first `_` behind the first byte is the only place where the name can be cut, and each part is a number by itself, or none.
use Rattle.std.proofs.Common.{arith}
use Rattle.its_names.proofs.Parts.{is_named, no_layer, no_stave, some_underscore}
use Rattle.its_names.proofs.parse_stave_name.Goals as goal

pub returns-in_err-mid : goal.returns-in_err-mid
returns-in_err-mid c = rw c.from_residual-in_err-mid.ensures (some_underscore c.in_ok-first.ensures.cases.0 c.in_err-mid.ensures)

pub returns-in_err-layer : goal.returns-in_err-layer
returns-in_err-layer c =
    rw c.from_residual-in_err-layer.ensures (no_layer c.in_ok-first.ensures.cases.0 c.in_ok-mid.ensures c.in_err-layer.ensures)

pub returns-in_err-stave : goal.returns-in_err-stave
returns-in_err-stave c =
    rw c.from_residual-in_err-stave.ensures (no_stave c.in_ok-first.ensures.cases.0 c.in_ok-mid.ensures c.in_err-stave.ensures)

pub returns : goal.returns
returns c =
    is_named c.in_ok-first.ensures.cases.0 c.in_ok-mid.ensures (omega arith) (λ e. omega (arith, e)) c.in_ok-layer.ensures c.in_ok-stave.ensures
