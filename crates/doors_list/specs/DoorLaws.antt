-- The next call finds what a call left.
use Rattle.std.specs.Prelude.{ℕ, ◌≤◌, Bool, List, ◌≡◌}
use Rattle.listing_batch.specs.JoinLaws.{listed_known}
use Rattle.listing_batch.specs.Listings.{Listing, listed_into}
use Rattle.doors_scan_structs.specs.Plain.{settings_of, state_of}
use Rattle.doors_scan_structs.specs.PlainLaws.{state_again}
use Rattle.doors_scan_reply.specs.Replies.{kind_want}
use Rattle.doors_scan_structs.specs.declared.PlainSettings.{PlainSettings}
use Rattle.doors_scan_structs.specs.declared.PlainState.{PlainState}
use Rattle.doors_verdict.specs.Plain.{validator_of}
use Rattle.doors_verdict.specs.PlainLaws.{validator_again}
use Rattle.doors_verdict.specs.declared.plain.PlainValidator.{PlainValidator}
use Rattle.doors_list.specs.Doors.{left_by, listed_through}
use Rattle.doors_list.specs.ReplyLaws.{known_kind}

-- A call with what came back goes on from the state and the validator that the call before left.
pub goes_on : (o : Listing) (settings : PlainSettings) (w : List ℕ) (first : ℕ) (last : Bool) (out : List ℕ)
    → listed_through settings (left_by o).reply.state (left_by o).reply.validator (left_by o).links (left_by o).triggers (left_by o).fee_ids w
    first last out
    ≡ left_by (listed_into out (settings_of settings) o.validator o.state o.fee_ids w first last)
unfolding listed_through
goes_on o settings w first last out =
    λ i.
    left_by (listed_into out (settings_of settings) (validator_again o.validator i) (state_again o.state i) o.fee_ids w first last)

-- The kind of a reply is that of a want, of a refusal, or of a full buffer.
pub kinds : (settings : PlainSettings) (state : PlainState) (validator : PlainValidator) (links triggers fee_ids w : List ℕ) (first : ℕ) (last : Bool)
    (out : List ℕ) → kind_want ≤ (listed_through settings state validator links triggers fee_ids w first last out).reply.answer.kind
unfolding listed_through
kinds settings state validator links triggers fee_ids w first last out =
    let set = settings_of settings in
    let v = validator_of validator in
    let s = state_of state links triggers in
    known_kind (listed_into out set v s fee_ids w first last).stop (listed_known set w first last out v s fee_ids)
