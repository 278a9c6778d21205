-- The reply of a listing says why it stopped.
use Rattle.std.specs.Prelude.{ℕ, ◌≤◌, false, [], ◌≡◌, refl, eqb, Result, Ok, Err}
use Rattle.std.proofs.lemmas.Bool.{false≢true}
use Rattle.std.proofs.Common.{sym, arith}
use Rattle.basis.specs.Pick.{pick}
use Rattle.basis.specs.Refusals.{gives, refuses}
use Rattle.scan_cdp.specs.Answers.{handed, load_answer, passed, wants}
use Rattle.scan_cdp.specs.declared.LoadCdp.{LoadCdp}
use Rattle.scan_cdp.specs.declared.LoadCdp.TheVariants as Loads
use Rattle.scan_cdp.specs.declared.Refusal.{Refusal}
use Rattle.scan_cdp.specs.declared.Refusal.TheVariants.{End, FeeIdsFull, MemorySize, OffsetToNext, Unusable}
use Rattle.text.specs.declared.TooShort.{TooShort}
use Rattle.listing_batch.specs.Batches.{Stopped, answered, full, is_packet, stop_of, buffer_too_short}
use Rattle.listing_batch.specs.JoinLaws.{Known}
use Rattle.listing_batch.specs.declared.Batch.{Batch}
use Rattle.listing_batch.specs.declared.Stop.{Stop}
use Rattle.listing_batch.specs.declared.Stop.TheVariants as Why
use Rattle.doors_scan_reply.specs.ReplyLaws.{read_answer}
use Rattle.doors_scan_reply.specs.Replies.{kind_want}
use Rattle.doors_scan_reply.specs.declared.PlainAnswer.{PlainAnswer}
use Rattle.doors_list.specs.Replies.{kind_full, plain_stop}

-- Why a listing stopped, as C's struct and the length beside it say.
abbrev pub read_stop : PlainAnswer → ℕ → Stopped
read_stop n length =
    pick (eqb n.kind kind_full) full (pick (eqb n.refusal 7) (buffer_too_short length) (answered (read_answer n [])))

-- Why the code's listing stopped, and the length that it tells.
abbrev pub stopped_as : Result Batch TooShort → Stopped
stopped_as (Ok b) = stop_of b.stop
stopped_as (Err e) = buffer_too_short e.needed

abbrev pub length_told : Result Batch TooShort → ℕ
length_told (Ok b) = b.length
length_told (Err e) = e.needed

-- No packet stops a listing.
abbrev pub NoPacket : Stop → Type 0
NoPacket Why.Full = Unit
NoPacket (Why.Answered a) = is_packet (load_answer a) ≡ false

load_again : (a : Result LoadCdp Refusal) (length : ℕ) → is_packet (load_answer a) ≡ false
    → read_stop (plain_stop (answered (load_answer a))) length ≡ answered (load_answer a)
load_again (Ok (Loads.Packet packet)) length none = absurd (false≢true (sym none))
load_again (Ok (Loads.Want place size)) length none = refl
load_again (Err End) length none = refl
load_again (Err (OffsetToNext distance position)) length none = refl
load_again (Err MemorySize) length none = refl
load_again (Err FeeIdsFull) length none = refl
load_again (Err Unusable) length none = refl

batch_again : (why : Stop) (length : ℕ) → NoPacket why → read_stop (plain_stop (stop_of why)) length ≡ stop_of why
batch_again Why.Full length none = refl
batch_again (Why.Answered a) length none = load_again a length none

-- Whatever stops a listing can be read back, by the length that stands beside it.
pub stop_again : (r : Result Batch TooShort) → ((b : Batch) → r ≡ Ok b → NoPacket b.stop)
    → read_stop (plain_stop (stopped_as r)) (length_told r) ≡ stopped_as r
stop_again (Ok b) none = batch_again b.stop b.length (none b refl)
stop_again (Err e) none = refl

-- A listing stops with a want, with a refusal, or for room.
pub known_kind : (why : Stopped) → Known why → kind_want ≤ (plain_stop why).kind
known_kind full known = omega arith
known_kind (buffer_too_short needed) known = omega arith
known_kind (answered (gives passed)) known = absurd (false≢true (sym known.1))
known_kind (answered (gives (handed p))) known = absurd (false≢true (sym known.0))
known_kind (answered (gives (wants place size))) known = omega arith
known_kind (answered (refuses number values)) known = omega arith
