-- What a listing through C's structs leaves.
use Rattle.std.specs.Prelude.{ℕ, Bool, List}
use Rattle.listing_batch.specs.Listings.{Listing, listed_into}
use Rattle.doors_scan_structs.specs.Plain.{settings_of, state_of}
use Rattle.doors_scan_structs.specs.declared.PlainSettings.{PlainSettings}
use Rattle.doors_scan_structs.specs.declared.PlainState.{PlainState}
use Rattle.doors_verdict.specs.Plain.{validator_of}
use Rattle.doors_verdict.specs.declared.plain.PlainValidator.{PlainValidator}
use Rattle.doors_list.specs.Replies.{listed_with}
use Rattle.doors_list.specs.declared.PlainListed.{PlainListed}

-- The reply, and what the lent arrays hold after a call.
pub record Left : Type 0 where
  pub reply : PlainListed
  pub links : List ℕ
  pub triggers : List ℕ
  pub fee_ids : List ℕ
  pub out : List ℕ

abbrev pub left : PlainListed → (links triggers fee_ids out : List ℕ) → Left
left reply links triggers fee_ids out = record { reply = reply; links = links; triggers = triggers; fee_ids = fee_ids; out = out }

-- What a call that made this listing leaves.
abbrev pub left_by : Listing → Left
left_by o =
    left (listed_with o.stop o.state.progress o.validator o.bytes o.unsound) o.state.links o.state.triggers o.fee_ids
    o.out

-- What a listing leaves.
unfoldable pub listed_through : PlainSettings → PlainState → PlainValidator → (links triggers fee_ids w : List ℕ) → (first : ℕ) → (last : Bool)
    → (out : List ℕ) → Left
listed_through settings state validator links triggers fee_ids w first last out =
    left_by (listed_into out (settings_of settings) (validator_of validator) (state_of state links triggers) fee_ids w first last)
