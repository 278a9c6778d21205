-- A run of examinations over a last window, up to the one that closes it (S11).
use Rattle.std.specs.Prelude.{ℕ, zero, suc, Bool, true, false, ◌||◌, ◌&&◌, List, eqb, leb}
use Rattle.basis.specs.Pick.{pick}
use Rattle.basis.specs.Refusals.{Answer, gives, refuses}
use Rattle.scan_cdp.specs.Answers.{Found, handed, passed, wants}
use Rattle.scan_cdp.specs.Steps.{Entry, unchanged}
use Rattle.scan_cdp.specs.Windows.{examined}
use Rattle.scan_cdp.specs.declared.Part.{Part}
use Rattle.scan_cdp.specs.declared.Settings.{Settings}
use Rattle.scan_cdp.specs.declared.State.{State}

-- Whether an answer is the refusal of that number.
abbrev pub is_refusal : {P : Type 0} → ℕ → Answer (Found P) → Bool
is_refusal n (gives found) = false
is_refusal n (refuses number values) = eqb number n

-- Whether a number is 1 to 4: these refusals close the load (S7), and are a chain's last entry (C3).
abbrev pub one_to_four : ℕ → Bool
one_to_four n = leb 1 n && leb n 4

-- Whether an answer closes a run: refusal 1 or 6 (S11).
abbrev pub closes : {P : Type 0} → Answer (Found P) → Bool
closes answer = is_refusal 1 answer || is_refusal 6 answer

-- Whether an answer is a want.
abbrev pub is_want : {P : Type 0} → Answer (Found P) → Bool
is_want (gives passed) = false
is_want (gives (handed p)) = false
is_want (gives (wants place size)) = true
is_want (refuses number values) = false

-- The last entry of a run of so many examinations, each on the state and the list that the one before left, up to the first that ends it.
-- Where no examination is left, the run stands where it is.
unfoldable pub run_end : ℕ → Settings → State → List ℕ → (w : List ℕ) → (first : ℕ) → Entry Part
run_end zero set s fee_ids w first = unchanged s fee_ids (gives passed)
run_end (suc n) set s fee_ids w first =
    let e = examined set s fee_ids w first true in
    pick (closes e.answer) e (run_end n set e.state e.fee_ids w first)
