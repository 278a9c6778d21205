-- Laws of runs and loads: both end, since each examination that goes on moves the byte place on by 64 or more.
use Rattle.std.specs.Prelude.{ℕ, zero, suc, ◌+◌, ◌-◌, ◌*◌, ◌/◌, ◌<◌, ◌≤◌, Bool, true, false, List, ◌≡◌, length}
use Rattle.std.proofs.lemmas.Bool.{false≢true}
use Rattle.std.proofs.Common.{arith, length-drop}
use Rattle.basis.specs.PickLaws.{by_test}
use Rattle.scan_cdp.specs.Loads.{Loaded, is_passed, loaded, loaded_from, no_load_marks}
use Rattle.scan_laws.specs.Runs.{closes, is_want, run_end}
use Rattle.scan_laws.proofs.StepLaws.{examined_moves, examined_passed, examined_wants, shown_to}
use Rattle.scan_cdp.specs.Steps.{Entry}
use Rattle.scan_cdp.specs.Windows.{examined}
use Rattle.scan_cdp.specs.declared.LoadMarks.{LoadMarks}
use Rattle.scan_cdp.specs.declared.Part.{Part}
use Rattle.scan_cdp.specs.declared.Settings.{Settings}
use Rattle.scan_cdp.specs.declared.State.{State}

-- the bytes that a window shows are fewer by 64 or more after each examination that moves on
pub fewer : (s s' : State) (w : List ℕ) (first n : ℕ) → first ≤ s.progress.place.0 → s.progress.place.0 + 64 ≤ first + length w
    → s.progress.place.0 + 64 ≤ s'.progress.place.0
    → length (shown_to s w first) < 64 * suc n → length (shown_to s' w first) < 64 * n
fewer s s' w first n starts ends least h =
    omega (arith, length-drop (s.progress.place.0 - first) w, length-drop (s'.progress.place.0 - first) w)

-- a window shows at most its length
pub enough : (s : State) (w : List ℕ) (first : ℕ) → length (shown_to s w first) < 64 * (length w / 64 + 1)
enough s w first = omega (arith, length-drop (s.progress.place.0 - first) w)

run_closes : (n : ℕ) (set : Settings) (s : State) (fee_ids w : List ℕ) (first : ℕ) → length (shown_to s w first) < 64 * n
    → closes (run_end n set s fee_ids w first).answer ≡ true
unfolding run_end
run_closes zero set s fee_ids w first h = absurd (omega arith)
run_closes (suc n) set s fee_ids w first h =
    let e = examined set s fee_ids w first true in
    by_test (λ (x : Entry Part). closes x.answer ≡ true) (closes e.answer) _ _ (λ c. c) (λ goes.
    let m = examined_moves set s fee_ids w first goes in
    run_closes n set e.state e.fee_ids w first (fewer s e.state w first n m.starts m.ends m.least h))

-- A run over a last window ends within length / 64 + 1 examinations (S11).
pub run_ends : (set : Settings) (s : State) (fee_ids w : List ℕ) (first : ℕ)
    → closes (run_end (length w / 64 + 1) set s fee_ids w first).answer ≡ true
run_ends set s fee_ids w first = run_closes (length w / 64 + 1) set s fee_ids w first (enough s w first)

pub load_answers : (n : ℕ) (set : Settings) (ms : LoadMarks) (s : State) (fee_ids w : List ℕ) (first : ℕ) (last : Bool)
    → length (shown_to s w first) < 64 * n → is_passed (loaded_from n set ms s fee_ids w first last).answer ≡ false
unfolding loaded_from
load_answers zero set ms s fee_ids w first last h = absurd (omega arith)
load_answers (suc n) set ms s fee_ids w first last h =
    let e = examined set s fee_ids w first last in
    by_test (λ (r : Loaded Part). is_passed r.answer ≡ false) (is_passed e.answer) _ _
    (λ passes.
    let p = examined_passed set s fee_ids w first last passes in
    load_answers n set _ e.state e.fee_ids w first last (fewer s e.state w first n p.starts p.ends p.least h))
    (λ stops. stops)

-- A load leaves its loop with an answer: it never stands at a passed header.
pub loaded-answers : (set : Settings) (s : State) (fee_ids w : List ℕ) (first : ℕ) (last : Bool)
    → is_passed (loaded set s fee_ids w first last).answer ≡ false
unfolding loaded
loaded-answers set s fee_ids w first last = load_answers (length w / 64 + 1) set no_load_marks s fee_ids w first last (enough s w first)

load_wants : (n : ℕ) (set : Settings) (ms : LoadMarks) (s : State) (fee_ids w : List ℕ) (first : ℕ) (last : Bool)
    → is_want (loaded_from n set ms s fee_ids w first last).answer ≡ true → last ≡ false
unfolding loaded_from
load_wants zero set ms s fee_ids w first last = λ e. absurd (false≢true e)
load_wants (suc n) set ms s fee_ids w first last =
    let e = examined set s fee_ids w first last in
    by_test (λ (r : Loaded Part). is_want r.answer ≡ true → last ≡ false) (is_passed e.answer) _ _
    (λ passes. load_wants n set _ e.state e.fee_ids w first last)
    (λ stops wants. (examined_wants set s fee_ids w first last wants).more)

-- A load wants bytes only on a window that is not the last.
pub loaded_wants : (set : Settings) (s : State) (fee_ids w : List ℕ) (first : ℕ) (last : Bool)
    → is_want (loaded set s fee_ids w first last).answer ≡ true → last ≡ false
unfolding loaded
loaded_wants set s fee_ids w first last = load_wants (length w / 64 + 1) set no_load_marks s fee_ids w first last
