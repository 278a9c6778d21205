-- The statement that each reply of a list of verdicts follows from the settings, the starting state and the calls up to it (D3.7).
use Rattle.std.specs.Prelude.{◌≡◌, List, [], ◌∷◌, ◌++◌}
use Rattle.validators.specs.declared.RdhCruSanityValidator.{RdhCruSanityValidator}
use Rattle.validators.specs.Verdicts.{Call, replies, reply, validator_over}

-- The statement: in a list of calls, what is answered to a call that stands behind others is the reply of the validator that
-- `validator_over` makes of the starting one and those others, whatever comes after.
abbrev pub Follows : Type 0
Follows =
    (v : RdhCruSanityValidator) (earlier : List Call) (c : Call) (later : List Call)
    → replies v (earlier ++ (c ∷ later))
    ≡ replies v earlier ++ (reply (validator_over v earlier) c ∷ replies (validator_over v (earlier ++ (c ∷ []))) later)
