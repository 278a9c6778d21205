-- The lines of successive loads on a window, as many as a buffer surely holds.
use Rattle.std.specs.Prelude.{ℕ, zero, suc, ◌+◌, ◌≤◌, Bool, true, false, ◌≡◌, List, [], ◌++◌, ltb, length}
use Rattle.std.proofs.lemmas.List.Edits.{sets}
use Rattle.basis.specs.Pick.{pick}
use Rattle.basis.specs.Refusals.{Answer, gives, refuses}
use Rattle.validators.specs.declared.RdhCruSanityValidator.{RdhCruSanityValidator}
use Rattle.scan_cdp.specs.Answers.{Found, handed, load_answer, passed, wants}
use Rattle.scan_cdp.specs.Loads.{loaded}
use Rattle.scan_cdp.specs.Scans.{state_of}
use Rattle.scan_cdp.specs.declared.Part.{Part}
use Rattle.scan_cdp.specs.declared.Scan.{Scan}
use Rattle.scan_cdp.specs.declared.Settings.{Settings}
use Rattle.scan_cdp.specs.declared.State.{State}
use Rattle.listing_lines.specs.Lines.{room}
use Rattle.listing_load.specs.LoadLines.{lines_of, unsound_in, validator_of}
use Rattle.listing_batch.specs.declared.Batch.{Batch}
use Rattle.listing_batch.specs.declared.Stop.{Stop}
use Rattle.listing_batch.specs.declared.Stop.TheVariants as Why

-- Why no further load is made: the buffer may lack the room for its lines; the buffer is refused with 7 and the length needed; or a load gave
-- this answer, which is no packet.
pub data Stopped : Type 0 where
  full : Stopped
  buffer_too_short : (needed : ℕ) → Stopped
  answered : Answer (Found Part) → Stopped

-- Why the loads ended, what they leave, their lines, and how many of their packets are not sound.
pub record Batched : Type 0 where
  pub stop : Stopped
  pub state : State
  pub fee_ids : List ℕ
  pub validator : RdhCruSanityValidator
  pub text : List ℕ
  pub unsound : ℕ

-- Whether a packet is handed out, so that the listing goes on.
abbrev pub is_packet : Answer (Found Part) → Bool
is_packet (gives passed) = false
is_packet (gives (handed p)) = true
is_packet (gives (wants place size)) = false
is_packet (refuses number values) = false

abbrev pub stopped : Stopped → RdhCruSanityValidator → State → (fee_ids text : List ℕ) → ℕ → Batched
stopped why v s fee_ids text unsound =
    record { stop = why; state = s; fee_ids = fee_ids; validator = v; text = text; unsound = unsound }

-- How many packets are not sound, with one answer more.
abbrev pub unsound_with : ℕ → Bool → ℕ
unsound_with n unsound = n + pick unsound 1 0

-- The loads from a state on, after some that had the lines `text` and so many packets that are not sound; at most n of them. There is a further
-- one while a buffer of `size` bytes has room for the lines of any load behind that text.
unfoldable pub batched_from : ℕ → Settings → RdhCruSanityValidator → State → (fee_ids text : List ℕ) → (unsound : ℕ) → (w : List ℕ)
    → (first : ℕ) → (last : Bool) → (size : ℕ) → Batched
batched_from zero set v s fee_ids text unsound w first last size = stopped full v s fee_ids text unsound
batched_from (suc n) set v s fee_ids text unsound w first last size =
    let l = loaded set s fee_ids w first last in
    let after = validator_of v l.answer in
    let more = text ++ lines_of v l.answer l in
    let bad = unsound_with unsound (unsound_in v l.answer) in
    pick (ltb size (length text + room)) (stopped full v s fee_ids text unsound)
    (pick (is_packet l.answer)
    (batched_from n set after l.state l.fee_ids more bad w first last size)
    (stopped (answered l.answer) after l.state l.fee_ids more bad))

-- All of them. Each packet has a line, so that there are fewer than `size` + 1.
unfoldable pub batched : Settings → RdhCruSanityValidator → State → (fee_ids w : List ℕ) → (first : ℕ) → (last : Bool) → (size : ℕ) → Batched
batched set v s fee_ids w first last size = batched_from (suc size) set v s fee_ids [] 0 w first last size

-- Why the code stopped.
abbrev pub stop_of : Stop → Stopped
stop_of Why.Full = full
stop_of (Why.Answered a) = answered (load_answer a)

-- What the loop promises: it makes these loads and puts their lines into the buffer `out` from its start on. `r` is its reply, and `scan`,
-- `after` and `left` are what it leaves of the scan, in the validator and in the buffer. The text fits.
pub record Batches (b : Batched) (out : List ℕ) (r : Batch) (scan : Scan) (after : RdhCruSanityValidator) (left : List ℕ) : Type 0 where
  pub stop : stop_of r.stop ≡ b.stop
  pub state : state_of scan ≡ b.state
  pub fee-ids : scan.fee_ids.now ≡ b.fee_ids
  pub validator : after ≡ b.validator
  pub unsound : r.unsound ≡ b.unsound
  pub bytes : r.length ≡ length b.text
  pub stored : left ≡ sets out 0 b.text
  pub fits : length b.text ≤ length out
