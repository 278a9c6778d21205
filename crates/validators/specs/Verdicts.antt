-- A list of verdicts on one validator, refused ones among them: what is replied, and what the validator then holds (D3.7).
use Rattle.std.specs.Prelude.{ℕ, Bool, List, [], ◌∷◌, leb, length}
use Rattle.basis.specs.Pick.{pick}
use Rattle.basis.specs.Refusals.{Answer}
use Rattle.rdh.specs.declared.rdh_cru.RdhCru.{RdhCru}
use Rattle.validators.specs.declared.HeaderId.{HeaderId}
use Rattle.validators.specs.declared.HeaderId.TheVariants.{Configured, NotSettled, Settled}
use Rattle.validators.specs.declared.RdhCruSanityValidator.{RdhCruSanityValidator}
use Rattle.validators.specs.Verdict.{Judged, answered, holding, text_of, validator_after}

-- A header put, and the length of the text buffer lent.
pub record Call : Type 0 where
  pub header : RdhCru
  pub room : ℕ

-- What a call gives: the verdict or refusal 7, and the text written, which is empty where it is refused.
pub record Reply : Type 0 where
  pub verdict : Answer Judged
  pub text : List ℕ

unfoldable pub reply : RdhCruSanityValidator → Call → Reply
reply v c =
    record {
      verdict = answered v c.header c.room;
      text = pick (leb (length (text_of v c.header)) c.room) (text_of v c.header) [];
    }

-- The replies to a list of calls, each on the validator that the last one left.
unfoldable pub replies : RdhCruSanityValidator → List Call → List Reply
replies v [] = []
replies v (c ∷ cs) = reply v c ∷ replies (validator_after v c.header c.room) cs

-- The header ID that a call's header has.
abbrev pub id_of : Call → ℕ
id_of c = c.header.rdh0.header_id

-- Whether a call would settle the ID on this validator, had it settled none: its text, for a header held to its own ID, fits the buffer.
unfoldable pub settling : RdhCruSanityValidator → Call → Bool
settling v c = leb (length (text_of (holding v NotSettled) c.header)) c.room

-- The ID that the first call of the list settles that is not refused (V2).
unfoldable pub first_settled : RdhCruSanityValidator → List Call → HeaderId
first_settled v [] = NotSettled
first_settled v (c ∷ cs) = pick (settling v c) (Settled (id_of c)) (first_settled v cs)

-- What a validator holds headers to after a list of calls: a version or a settled ID stays (V1, V2).
unfoldable pub settled_over : RdhCruSanityValidator → HeaderId → List Call → HeaderId
settled_over v (Configured n) cs = Configured n
settled_over v NotSettled cs = first_settled v cs
settled_over v (Settled n) cs = Settled n

-- The validator after a list of calls.
unfoldable pub validator_over : RdhCruSanityValidator → List Call → RdhCruSanityValidator
validator_over v cs = holding v (settled_over v v.header_id cs)
