-- What a call leaves that lists into a lent buffer: its reply and the final content of what was lent.
use Rattle.std.specs.Prelude.{ℕ, Bool, List, ◌++◌, ltb, length, drop, Result, Ok, Err}
use Rattle.basis.specs.Pick.{pick}
use Rattle.text.specs.declared.TooShort.{TooShort}
use Rattle.validators.specs.declared.RdhCruSanityValidator.{RdhCruSanityValidator}
use Rattle.scan_cdp.specs.Scans.{state_of}
use Rattle.scan_cdp.specs.declared.Scan.{Scan}
use Rattle.scan_cdp.specs.declared.Settings.{Settings}
use Rattle.scan_cdp.specs.declared.State.{State}
use Rattle.listing_lines.specs.Lines.{room}
use Rattle.listing_batch.specs.Batches.{Batched, Stopped, batched, stop_of, buffer_too_short}
use Rattle.listing_batch.specs.declared.Batch.{Batch}

-- The reply, and what the lists and the buffer then hold. The bytes are those written, or those needed.
pub record Listing : Type 0 where
  pub stop : Stopped
  pub state : State
  pub validator : RdhCruSanityValidator
  pub bytes : ℕ
  pub unsound : ℕ
  pub fee_ids : List ℕ
  pub out : List ℕ

abbrev pub listing_of : Result Batch TooShort → Scan → RdhCruSanityValidator → (out : List ℕ) → Listing
listing_of (Ok b) scan after out =
    record {
      stop = stop_of b.stop;
      state = state_of scan;
      validator = after;
      bytes = b.length;
      unsound = b.unsound;
      fee_ids = scan.fee_ids.now;
      out = out;
    }
listing_of (Err e) scan after out =
    record {
      stop = buffer_too_short e.needed;
      state = state_of scan;
      validator = after;
      bytes = e.needed;
      unsound = 0;
      fee_ids = scan.fee_ids.now;
      out = out;
    }

-- The text stands at the buffer's start, and what lies behind it is what was there.
abbrev pub left_by : Batched → List ℕ → Listing
left_by b out =
    record {
      stop = b.stop;
      state = b.state;
      validator = b.validator;
      bytes = length b.text;
      unsound = b.unsound;
      fee_ids = b.fee_ids;
      out = b.text ++ drop (length b.text) out;
    }

-- Refusal 7 leaves everything as it was.
abbrev pub refused : RdhCruSanityValidator → State → (fee_ids out : List ℕ) → Listing
refused v s fee_ids out =
    record { stop = buffer_too_short room; state = s; validator = v; bytes = room; unsound = 0; fee_ids = fee_ids; out = out }

-- A listing into the buffer `out`: refused where the buffer has not the room of one load, and else as far as the loads go.
unfoldable pub listed_into : (out : List ℕ) → Settings → RdhCruSanityValidator → State → (fee_ids w : List ℕ) → (first : ℕ) → (last : Bool)
    → Listing
listed_into out set v s fee_ids w first last =
    pick (ltb (length out) room) (refused v s fee_ids out) (left_by (batched set v s fee_ids w first last (length out)) out)
