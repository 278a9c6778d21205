-- What C's struct for a validator means.
use Rattle.std.specs.Prelude.{ℕ, Bool, true, false}
use Rattle.basis.specs.Pick.{pick}
use Rattle.validators.specs.declared.HeaderId.{HeaderId}
use Rattle.validators.specs.declared.HeaderId.TheVariants.{Configured, NotSettled, Settled}
use Rattle.validators.specs.declared.RdhCruSanityValidator.{RdhCruSanityValidator}
use Rattle.doors_verdict.specs.declared.plain.PlainValidator.{PlainValidator}

-- The header ID that headers are held to: the configured one; or else the settled one; or else none yet.
abbrev pub plain_header_id : Bool → Bool → ℕ → HeaderId
plain_header_id configured settled id = pick configured (Configured id) (pick settled (Settled id) NotSettled)

-- The validator that C's struct is.
abbrev pub validator_of : PlainValidator → RdhCruSanityValidator
validator_of n = record { header_id = plain_header_id n.configured n.settled n.id; its = n.its }

-- C's struct for a header ID, with 0 where there is none.
abbrev pub plain_id : HeaderId → Bool → PlainValidator
plain_id (Configured n) its = record { configured = true; settled = false; id = n; its = its }
plain_id NotSettled its = record { configured = false; settled = false; id = 0; its = its }
plain_id (Settled n) its = record { configured = false; settled = true; id = n; its = its }

-- C's struct for a validator.
abbrev pub plain_validator : RdhCruSanityValidator → PlainValidator
plain_validator v = plain_id v.header_id v.its
