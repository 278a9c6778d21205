-- One call on a window of a recording, as it is asked for: the window (C6), where the call then stands, and what the code says of it.
use Rattle.std.specs.Prelude.{ℕ, ◌+◌, Bool, ◌&&◌, List, [], ◌∷◌, leb, length, take, drop}
use Rattle.scan_cdp.specs.Answers.{examined_answer, load_answer}
use Rattle.scan_cdp.specs.Scans.{state_of}
use Rattle.scan_cdp.specs.Windows.{bytes_at}
use Rattle.scan_cdp.specs.declared.Scan.{Scan}
use Rattle.chain.specs.Calls.{Call, Reply, Window, ends_by, ends_chain, read_entry, examination, examines, kept_by, load, load_read, loads}
use Rattle.chain.specs.Chain.{Kept}
use Rattle.chain_replay_calls.specs.declared.Asked.{Asked}
use Rattle.chain_replay_calls.specs.declared.CallKind.{CallKind}
use Rattle.chain_replay_calls.specs.declared.Called.{Called}
use Rattle.chain_replay_calls.specs.declared.Told.{Told}

-- ---- the call

abbrev pub lent_as : List ℕ → (first : ℕ) → (last : Bool) → Window
lent_as bytes first last = record { bytes = bytes; first = first; last = last }

-- The window that is asked for (C6): so many bytes of the recording from a first place on, or as many as there are. It is the last if that
-- is asked for and it reaches the end.
unfoldable pub window_at : List ℕ → Asked → Window
window_at recording a =
    let bytes = take a.size (drop a.first recording) in
    lent_as bytes a.first (a.last && leb (length recording) (a.first + length bytes))

abbrev pub call_on : CallKind → Window → Call
call_on CallKind.Examination w = examines w
call_on CallKind.Load w = loads w

abbrev pub call_at : List ℕ → Asked → Call
call_at recording a = call_on a.kind (window_at recording a)

-- ---- where it stands

-- The last reply, if there is one, what it leaves, and whether it ends the chain.
pub record Stand : Type 0 where
  pub reply : List Reply
  pub kept : Kept
  pub ends : Bool

abbrev pub stand_by : Reply → Stand
stand_by r = record { reply = r ∷ []; kept = kept_by r; ends = ends_chain r }

-- ---- what the code says of it

abbrev pub keeps : Scan → Kept
keeps scan = record { state = state_of scan; fee_ids = scan.fee_ids.now }

-- What was told on a window that has these bytes, with the payload's bytes as `payload` reads them.
abbrev pub told_on : List ℕ → Kept → Told → Reply
told_on w k (Told.Examination a marks) =
    examination (read_entry w (record { answer = examined_answer a; marks = marks; state = k.state; fee_ids = k.fee_ids }))
told_on w k (Told.Load a marks) =
    load (load_read w (record { answer = load_answer a; marks = marks; state = k.state; fee_ids = k.fee_ids }))

abbrev pub stand_of : List ℕ → Called → Scan → Stand
stand_of recording c scan =
    let k = keeps scan in
    record { reply = told_on (bytes_at recording c.window) k c.told ∷ []; kept = k; ends = c.ends }

-- Whether what was told ends the chain, where state and list alone meet refusal 6 or do not.
abbrev pub ends_told : Told → (six : Bool) → Bool
ends_told (Told.Examination a marks) six = ends_by (examined_answer a) six
ends_told (Told.Load a marks) six = ends_by (load_answer a) six
