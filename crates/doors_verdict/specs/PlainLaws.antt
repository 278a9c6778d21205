-- Laws of C's struct for a validator: what comes back means what went, and the struct that is all zeros is a new validator.
use Rattle.std.specs.Prelude.{Bool, false, ◌≡◌, refl}
use Rattle.std.proofs.Common.{ap}
use Rattle.validators.specs.declared.HeaderId.{HeaderId}
use Rattle.validators.specs.declared.HeaderId.TheVariants.{Configured, NotSettled, Settled}
use Rattle.validators.specs.declared.RdhCruSanityValidator.{RdhCruSanityValidator}
use Rattle.doors_verdict.specs.Plain.{plain_id, plain_validator, validator_of}
use Rattle.doors_verdict.specs.declared.plain.PlainValidator.{PlainValidator}

id_again : (h : HeaderId) (its : Bool) → validator_of (plain_id h its) ≡ record { header_id = h; its = its }
id_again (Configured n) its = refl
id_again NotSettled its = refl
id_again (Settled n) its = refl

-- a validator comes back as it went
pub validator_again : (v : RdhCruSanityValidator) → validator_of (plain_validator v) ≡ v
validator_again v = id_again v.header_id v.its

-- C's struct comes back as it went if a call left it; any other one comes back as one that means the same
pub plain_again : (v : RdhCruSanityValidator) → plain_validator (validator_of (plain_validator v)) ≡ plain_validator v
plain_again v = ap plain_validator (validator_again v)

pub same_meaning : (n : PlainValidator) → validator_of (plain_validator (validator_of n)) ≡ validator_of n
same_meaning n = validator_again (validator_of n)

-- all zeros: no version configured, no header ID settled, and the system id not tested
pub zeros_are_new : validator_of (record { configured = false; settled = false; id = 0; its = false })
    ≡ record { header_id = NotSettled; its = false }
zeros_are_new = refl
