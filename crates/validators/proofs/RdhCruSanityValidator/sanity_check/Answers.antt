-- What a check of anything promises, at a header.
use Rattle.sanity.specs.Tests.{text_of_verdict}
use Rattle.validators.specs.Verdict.{answered, settled_by, sound_to, text_of, validator_after}
use Rattle.validators.proofs.RdhCruSanityValidator.sanity_check.Goals as goal

pub returns : goal.returns
unfolding answered validator_after settled_by sound_to text_of text_of_verdict
returns c = record { verdict = c.check.ensures.verdict; validator = c.check.ensures.validator; leaves = c.check.ensures.leaves }
