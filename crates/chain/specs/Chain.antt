-- The chain of a recording: the steps of an examination one after the other, as if the whole recording could be seen (C1 to C3).
use Rattle.std.specs.Prelude.{ℕ, ◌+◌, ◌/◌, Bool, true, false, List, length}
use Rattle.basis.specs.Refusals.{Answer, gives, refuses}
use Rattle.scan_cdp.specs.Answers.{Found}
use Rattle.scan_cdp.specs.Steps.{Entry, step_in}
use Rattle.scan_cdp.specs.declared.Settings.{Settings}
use Rattle.scan_cdp.specs.declared.State.{State}
use Rattle.chain.specs.Following.{behind_of, entries_of}

-- What a reader keeps from call to call: the state, and the FEE ids in the list that it lends.
pub record Kept : Type 0 where
  pub state : State
  pub fee_ids : List ℕ

abbrev pub place_of : Kept → ℕ
place_of k = k.state.progress.place.0

-- What an entry leaves of both.
abbrev pub left : {P : Type 0} → Entry P → Kept
left e = record { state = e.state; fee_ids = e.fee_ids }

-- The entry that is next where a reader stands.
abbrev pub next : List ℕ → Settings → Kept → Entry (List ℕ)
next recording set k = step_in recording set k.state k.fee_ids

abbrev pub is_refused : {P : Type 0} → Answer (Found P) → Bool
is_refused (gives found) = false
is_refused (refuses number values) = true

-- A refused entry is the last (C3).
abbrev pub is_last : Entry (List ℕ) → Bool
is_last e = is_refused e.answer

-- What is behind an entry, of a chain that goes on from what it left.
abbrev pub behind : (Kept → List (Entry (List ℕ))) → Entry (List ℕ) → List (Entry (List ℕ))
behind = behind_of left is_last

-- At most n entries, one after the other. A step, which has no window, has no refusal 6 but the one by state and list.
unfoldable pub chain_of : ℕ → List ℕ → Settings → Kept → List (Entry (List ℕ))
chain_of n recording set = entries_of left is_last (next recording set) n

-- The chain (C1). Each entry but the last moves the byte place on by 64 or more, so that length / 64 + 1 entries are all (`ChainLaws`).
unfoldable pub chain : List ℕ → Settings → Kept → List (Entry (List ℕ))
chain recording set k = chain_of (length recording / 64 + 1) recording set k
