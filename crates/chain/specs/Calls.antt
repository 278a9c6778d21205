-- A list of calls on windows of one recording: what they reply, and what the chain says that they reply (C5, C6).
use Rattle.std.specs.Prelude.{ℕ, ◌+◌, ◌≤◌, Bool, true, false, ◌||◌, ◌&&◌, ◌≡◌, List, [], ◌∷◌, eqb, ltb, length, take, drop}
use Rattle.basis.specs.Each.{Each}
use Rattle.basis.specs.Pick.{pick}
use Rattle.basis.specs.Refusals.{Answer, gives, refuses}
use Rattle.scan_cdp.specs.Answers.{Found, answer_as, handed, passed, wants}
use Rattle.scan_cdp.specs.Loads.{Loaded, is_passed, loaded, no_load_marks, replied, together}
use Rattle.scan_cdp.specs.Steps.{Entry, entry_as, unchanged, unusable}
use Rattle.scan_cdp.specs.Outcomes.{payload_size}
use Rattle.scan_cdp.specs.Windows.{bytes_at, examined, outside, shown}
use Rattle.scan_cdp.specs.declared.LoadMarks.{LoadMarks}
use Rattle.scan_cdp.specs.declared.Part.{Part}
use Rattle.scan_cdp.specs.declared.Settings.{Settings}
use Rattle.scan_laws.specs.Runs.{one_to_four}
use Rattle.chain.specs.Chain.{Kept, left}
use Rattle.chain.specs.Following as Following
use Rattle.chain.specs.Following.{cut_into, kept_after, left_over, one_ends, replies_of}

-- ---- calls

-- A window that is lent, its first byte place, and the mark that the recording ends with it (W5).
pub record Window : Type 0 where
  pub bytes : List ℕ
  pub first : ℕ
  pub last : Bool

-- A window of a recording (C6): its bytes are the recording's from its first place on, and where it is marked last it reaches the end.
-- Windows may overlap, go back, be empty and come in any order.
pub record WindowOf (recording : List ℕ) (w : Window) : Type 0 where
  pub bytes : w.bytes ≡ take (length w.bytes) (drop w.first recording)
  pub last : w.last ≡ true → length recording ≤ w.first + length w.bytes

pub data Call : Type 0 where
  examines : Window → Call
  loads : Window → Call

abbrev pub window_of : Call → Window
window_of (examines w) = w
window_of (loads w) = w

-- All calls lend windows of the recording.
abbrev pub Windows : List ℕ → List Call → Type 0
Windows recording calls = Each (λ (c : Call). WindowOf recording (window_of c)) calls

-- ---- what the calls reply

-- A reply, with the payload's bytes as `payload` reads them from the part of the window.
pub data Reply : Type 0 where
  examination : Entry (List ℕ) → Reply
  load : Loaded (List ℕ) → Reply

abbrev pub read_from : List ℕ → Answer (Found Part) → Answer (Found (List ℕ))
read_from w = answer_as (bytes_at w)

abbrev pub read_entry : List ℕ → Entry Part → Entry (List ℕ)
read_entry w = entry_as (bytes_at w)

abbrev pub load_read : List ℕ → Loaded Part → Loaded (List ℕ)
load_read w r = record { answer = read_from w r.answer; marks = r.marks; state = r.state; fee_ids = r.fee_ids }

-- What one call replies: the definitions that the contracts of `examine` and `load_cdp` cite.
unfoldable pub reply_to : Settings → Kept → Call → Reply
reply_to set k (examines w) = examination (read_entry w.bytes (examined set k.state k.fee_ids w.bytes w.first w.last))
reply_to set k (loads w) = load (load_read w.bytes (loaded set k.state k.fee_ids w.bytes w.first w.last))

abbrev pub reply_answer : Reply → Answer (Found (List ℕ))
reply_answer (examination e) = e.answer
reply_answer (load r) = r.answer

-- What a call leaves for the next one.
abbrev pub kept_by : Reply → Kept
kept_by (examination e) = left e
kept_by (load r) = record { state = r.state; fee_ids = r.fee_ids }

-- Whether an answer ends the chain (C3): refusals 1 to 4, and 6 where state and list meet it by themselves.
abbrev pub ends_by : {P : Type 0} → Answer (Found P) → (six : Bool) → Bool
ends_by (gives found) six = false
ends_by (refuses number values) six = one_to_four number || (eqb number 6 && six)

abbrev pub ends_chain : Reply → Bool
ends_chain r = ends_by (reply_answer r) (unusable (kept_by r).state (kept_by r).fee_ids)

-- The replies to a list of calls, each given the state and FEE list that the one before left, up to and with the one that ends the chain.
abbrev pub replies : Settings → Kept → List Call → List Reply
replies set = replies_of (reply_to set) kept_by ends_chain

-- Whether one of the replies ended the chain, and what they leave for the next call.
abbrev pub chain_ended : List Reply → Bool
chain_ended = one_ends ends_chain

abbrev pub kept_by_all : Kept → List Reply → Kept
kept_by_all = kept_after kept_by

-- ---- what the chain says that they reply

-- Whether a window lets the next entry be answered, or ends the call before it with this answer.
pub data Hold : Type 0 where
  free : Hold
  held : Answer (Found (List ℕ)) → Hold

-- The bytes that an entry needs from the byte place on (W7): 64, and the payload's where a header is handed out with its payload read.
abbrev pub needed : Bool → Answer (Found (List ℕ)) → ℕ
needed skip (gives passed) = 64
needed skip (gives (handed p)) = pick skip 64 (64 + payload_size p.header)
needed skip (gives (wants place size)) = 64
needed skip (refuses number values) = 64

-- What a window lets a call do with the next entry: a want, or a 6 by the window, comes before it (C5). Where state and window both meet 6,
-- it is the state's, which is the chain's own entry (C4).
unfoldable pub held_back : Settings → Kept → Window → Entry (List ℕ) → Hold
held_back set k w e =
    let place = k.state.progress.place in
    let size = length (shown place.0 w.first w.bytes) in
    let need = needed set.skip_payload e.answer in
    pick (unusable k.state k.fee_ids) free
    (pick (outside place.0 w.first (length w.bytes)) (held (refuses 6 []))
    (pick w.last free
    (pick (ltb size 64) (held (gives (wants place 64)))
    (pick (ltb size need) (held (gives (wants place need)))
    free))))

-- A reply, and the entries that are still to come.
abbrev pub Served : Type 0
Served = Following.Served (Entry (List ℕ)) Reply

-- An examination takes the next entry, or, held back, leaves it the next (C5).
abbrev pub examined_by : Kept → Entry (List ℕ) → List (Entry (List ℕ)) → Hold → Served
examined_by k e es free = record { reply = examination e; rest = es }
examined_by k e es (held a) = record { reply = examination (unchanged k.state k.fee_ids a); rest = e ∷ es }

-- A load that is held back: with the marks so far, where it stands.
abbrev pub held_load : LoadMarks → Kept → Answer (Found (List ℕ)) → Loaded (List ℕ)
held_load ms k a = record { answer = a; marks = ms; state = k.state; fee_ids = k.fee_ids }

-- One entry of a load: it goes on where the entry is passed.
abbrev pub loaded_by : LoadMarks → Kept → Entry (List ℕ) → List (Entry (List ℕ)) → Served → Hold → Served
loaded_by ms k e es onward free = pick (is_passed e.answer) onward (record { reply = load (replied ms e); rest = es })
loaded_by ms k e es onward (held a) = record { reply = load (held_load ms k a); rest = e ∷ es }

-- A load takes entries up to the first that is not passed, and puts their marks together (C5). The chain never ends with an entry that is
-- passed, so that the first clause is not met (`CallsFollow`).
unfoldable pub load_along : Settings → Window → LoadMarks → Kept → List (Entry (List ℕ)) → Served
load_along set w ms k [] = record { reply = load (held_load ms k (gives passed)); rest = [] }
load_along set w ms k (e ∷ es) = loaded_by ms k e es (load_along set w (together ms e.marks) (left e) es) (held_back set k w e)

-- What a call replies where the chain goes on with these entries.
unfoldable pub served_by : Settings → Kept → Call → Entry (List ℕ) → List (Entry (List ℕ)) → Served
served_by set k (examines w) e es = examined_by k e es (held_back set k w e)
served_by set k (loads w) e es = load_along set w no_load_marks k (e ∷ es)

-- The replies that the chain's entries are cut into, one run of them for each call.
abbrev pub along : Settings → Kept → List Call → List (Entry (List ℕ)) → List Reply
along set = cut_into (served_by set) kept_by

-- The chain's entries that are still to come after the calls.
abbrev pub to_come : Settings → Kept → List Call → List (Entry (List ℕ)) → List (Entry (List ℕ))
to_come set = left_over (served_by set) kept_by
