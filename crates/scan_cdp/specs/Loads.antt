-- A load on a window: examinations up to the first that does not pass its header, with the marks of all of them (L1 to L3).
use Rattle.std.specs.Prelude.{ℕ, zero, suc, ◌+◌, ◌/◌, Bool, true, false, ◌||◌, List, length, Option, None, Some}
use Rattle.basis.specs.Pick.{pick}
use Rattle.basis.specs.Refusals.{Answer, gives, refuses}
use Rattle.scan_cdp.specs.Answers.{Found, handed, passed, wants}
use Rattle.scan_cdp.specs.Steps.{Entry}
use Rattle.scan_cdp.specs.Windows.{examined}
use Rattle.scan_cdp.specs.declared.Initial.{Initial}
use Rattle.scan_cdp.specs.declared.LoadMarks.{LoadMarks}
use Rattle.scan_cdp.specs.declared.Marks.{Marks}
use Rattle.scan_cdp.specs.declared.Part.{Part}
use Rattle.scan_cdp.specs.declared.Settings.{Settings}
use Rattle.scan_cdp.specs.declared.State.{State}

-- What a load replies, and what state and list then hold.
pub record Loaded (P : Type 0) : Type 0 where
  pub answer : Answer (Found P)
  pub marks : LoadMarks
  pub state : State
  pub fee_ids : List ℕ

abbrev pub no_load_marks : LoadMarks
no_load_marks =
    record { initial = None; seen_carries = 0; filtered_carry = false; payload_carry = false; payload_cut = false }

-- One initial mark is enough for a load: its first header alone can have one (S2, L2).
abbrev pub either_initial : Option Initial → Option Initial → Option Initial
either_initial None later = later
either_initial (Some initial) later = Some initial

-- The marks of some examinations with those of the next one: carries of seen are counted (L2).
unfoldable pub together : LoadMarks → Marks → LoadMarks
together ms m =
    record {
      initial = either_initial ms.initial m.initial;
      seen_carries = pick m.seen_carry (ms.seen_carries + 1) ms.seen_carries;
      filtered_carry = ms.filtered_carry || m.filtered_carry;
      payload_carry = ms.payload_carry || m.payload_carry;
      payload_cut = ms.payload_cut || m.payload_cut;
    }

-- Whether a header was passed, so that the load goes on.
abbrev pub is_passed : {P : Type 0} → Answer (Found P) → Bool
is_passed (gives passed) = true
is_passed (gives (handed p)) = false
is_passed (gives (wants place size)) = false
is_passed (refuses number values) = false

abbrev pub replied : {P : Type 0} → LoadMarks → Entry P → Loaded P
replied ms e = record { answer = e.answer; marks = together ms e.marks; state = e.state; fee_ids = e.fee_ids }

-- The load with so many examinations to come, after some with these marks. Where none is left, it stands at a passed header.
unfoldable pub loaded_from : ℕ → Settings → LoadMarks → State → List ℕ → (w : List ℕ) → (first : ℕ) → (last : Bool) → Loaded Part
loaded_from zero set ms s fee_ids w first last = record { answer = gives passed; marks = ms; state = s; fee_ids = fee_ids }
loaded_from (suc n) set ms s fee_ids w first last =
    let e = examined set s fee_ids w first last in
    pick (is_passed e.answer)
    (loaded_from n set (together ms e.marks) e.state e.fee_ids w first last)
    (replied ms e)

-- A load (L1). Each header that is passed moves the byte place on by 64 or more, so that length / 64 + 1 examinations are enough.
unfoldable pub loaded : Settings → State → List ℕ → (w : List ℕ) → (first : ℕ) → (last : Bool) → Loaded Part
loaded set s fee_ids w first last = loaded_from (length w / 64 + 1) set no_load_marks s fee_ids w first last
