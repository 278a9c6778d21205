-- The examinations of a load call, and the marks of all of them (L1, L2).
use Rattle.std.specs.Prelude.{ℕ, zero, suc, ◌+◌, ◌/◌, Bool, true, false, ◌||◌, List, [], ◌∷◌, length, Option, None, Some}
use Rattle.basis.specs.Pick.{pick}
use Rattle.scan_cdp.specs.Loads.{is_passed}
use Rattle.scan_cdp.specs.Steps.{Entry}
use Rattle.scan_cdp.specs.Windows.{examined}
use Rattle.scan_cdp.specs.declared.Initial.{Initial}
use Rattle.scan_cdp.specs.declared.LoadMarks.{LoadMarks}
use Rattle.scan_cdp.specs.declared.Marks.{Marks}
use Rattle.scan_cdp.specs.declared.Part.{Part}
use Rattle.scan_cdp.specs.declared.Settings.{Settings}
use Rattle.scan_cdp.specs.declared.State.{State}

-- At most so many examinations, each on what the one before left, up to and with the first that does not pass its header.
unfoldable pub examinations_of : ℕ → Settings → State → List ℕ → (w : List ℕ) → (first : ℕ) → (last : Bool) → List (Entry Part)
examinations_of zero set s fee_ids w first last = []
examinations_of (suc n) set s fee_ids w first last =
    let e = examined set s fee_ids w first last in
    e ∷ pick (is_passed e.answer) (examinations_of n set e.state e.fee_ids w first last) []

-- The examinations of a load call (L1): length / 64 + 1 are enough (`RunLaws`).
unfoldable pub examinations : Settings → State → List ℕ → (w : List ℕ) → (first : ℕ) → (last : Bool) → List (Entry Part)
examinations set s fee_ids w first last = examinations_of (length w / 64 + 1) set s fee_ids w first last

-- How many of them have a mark, and whether any has it.
unfoldable pub how_many : (Marks → Bool) → List (Entry Part) → ℕ
how_many has [] = 0
how_many has (e ∷ es) = pick (has e.marks) 1 0 + how_many has es

unfoldable pub any : (Marks → Bool) → List (Entry Part) → Bool
any has [] = false
any has (e ∷ es) = has e.marks || any has es

abbrev pub is_initial : Option Initial → Bool
is_initial None = false
is_initial (Some initial) = true

-- The initial mark of the first of them.
abbrev pub first_initial : List (Entry Part) → Option Initial
first_initial [] = None
first_initial (e ∷ es) = e.marks.initial

-- The marks of all of them (L2): the initial one of the first, how many carries of seen, and whether there was a carry of filtered, of payload,
-- and E100.
abbrev pub all_marks : List (Entry Part) → LoadMarks
all_marks es =
    record {
      initial = first_initial es;
      seen_carries = how_many (λ (m : Marks). m.seen_carry) es;
      filtered_carry = any (λ (m : Marks). m.filtered_carry) es;
      payload_carry = any (λ (m : Marks). m.payload_carry) es;
      payload_cut = any (λ (m : Marks). m.payload_cut) es;
    }

-- The last of them, from where a load starts.
unfoldable pub last_of : Entry Part → List (Entry Part) → Entry Part
last_of e [] = e
last_of e (x ∷ xs) = last_of x xs
