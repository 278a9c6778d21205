-- What an examination and a load through C's structs leave.
use Rattle.std.specs.Prelude.{ℕ, Bool, List, ◌≡◌, Option, Result}
use Rattle.scan_cdp.specs.Answers.{examined_answer}
use Rattle.scan_cdp.specs.Loads.{Loaded, loaded, no_load_marks, replied}
use Rattle.scan_cdp.specs.Scans as Scans
use Rattle.scan_cdp.specs.Windows.{examined}
use Rattle.scan_cdp.specs.declared.LoadCdp.{LoadCdp}
use Rattle.scan_cdp.specs.declared.LoadMarks.{LoadMarks}
use Rattle.scan_cdp.specs.declared.Part.{Part}
use Rattle.scan_cdp.specs.declared.Refusal.{Refusal}
use Rattle.scan_cdp.specs.declared.Scan.{Scan}
use Rattle.doors_scan_structs.specs.Plain.{settings_of, state_of}
use Rattle.doors_scan_reply.specs.Replies.{header_left, reply_of}
use Rattle.doors_scan_structs.specs.declared.PlainSettings.{PlainSettings}
use Rattle.doors_scan_structs.specs.declared.PlainState.{PlainState}
use Rattle.doors_scan_reply.specs.declared.PlainReply.{PlainReply}

-- The reply, and what the lent arrays hold after a call.
pub record Left : Type 0 where
  pub reply : PlainReply
  pub links : List ℕ
  pub triggers : List ℕ
  pub fee_ids : List ℕ
  pub header : List ℕ

abbrev pub left : PlainReply → (links triggers fee_ids header : List ℕ) → Left
left reply links triggers fee_ids header = record { reply = reply; links = links; triggers = triggers; fee_ids = fee_ids; header = header }

-- What a call with this reply leaves, where the header's bytes were these.
abbrev pub left_by : Loaded Part → List ℕ → Left
left_by l header =
    left (reply_of l.answer l.marks l.state.progress) l.state.links l.state.triggers l.fee_ids (header_left l.answer header)

-- What an examination leaves: its marks are those of a load that makes no other.
unfoldable pub examined_through : PlainSettings → PlainState → (links triggers fee_ids w : List ℕ) → (first : ℕ) → (last : Bool) → (header : List ℕ)
    → Left
examined_through settings state links triggers fee_ids w first last header =
    left_by (replied no_load_marks (examined (settings_of settings) (state_of state links triggers) fee_ids w first last)) header

-- What a load leaves.
unfoldable pub loaded_through : PlainSettings → PlainState → (links triggers fee_ids w : List ℕ) → (first : ℕ) → (last : Bool) → (header : List ℕ)
    → Left
loaded_through settings state links triggers fee_ids w first last header =
    left_by (loaded (settings_of settings) (state_of state links triggers) fee_ids w first last) header

-- That a reply and the header's bytes, which were `before`, are those of an answer with its marks, and of what it left in the scan.
abbrev pub HandedBack : Result (Option LoadCdp) Refusal → LoadMarks → Scan → (before : List ℕ) → PlainReply → (header : List ℕ) → Type 0
HandedBack answer marks scan before r header =
    left r scan.links.now scan.triggers.now scan.fee_ids.now header
    ≡ left_by (record { answer = examined_answer answer; marks = marks; state = Scans.state_of scan; fee_ids = scan.fee_ids.now }) before
