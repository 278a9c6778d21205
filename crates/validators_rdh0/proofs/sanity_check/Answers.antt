-- What a check of anything promises, at RDH0.
use Rattle.validators_rdh0.specs.Rdh0VerdictLaws.{checks_word}
use Rattle.validators_rdh0.proofs.sanity_check.Goals as goal

pub returns : goal.returns
returns c = checks_word c.args.validator c.args.rdh0 c.check.ensures
