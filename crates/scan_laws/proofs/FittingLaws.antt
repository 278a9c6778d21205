-- A window that is not refused by itself is not refused later in a load either, since the byte place only moves on: so a load through it has
-- refusal 6 by state and list alone.
use Prim.Native.Nat.{ℕ, zero, suc, ◌+◌, ◌/◌, ◌≤◌}
use Rattle.std.specs.Prelude.{Bool, false, ◌||◌, List, ◌≡◌, refl, ltb, length}
use Rattle.std.proofs.Math.Bool.{true}
use Rattle.std.proofs.lemmas.Bool.{false≢true}
use Rattle.std.proofs.Common.{ap, sym, ◌∙◌, arith, le-ltb, ltb-false}
use Rattle.basis.specs.PickLaws.{by_test, neither}
use Rattle.scan_cdp.specs.Loads.{Loaded, is_passed, loaded, loaded_from, no_load_marks}
use Rattle.scan_cdp.specs.Steps.{limit, unusable}
use Rattle.scan_cdp.specs.Windows.{examined, outside}
use Rattle.scan_cdp.specs.declared.LoadMarks.{LoadMarks}
use Rattle.scan_cdp.specs.declared.Part.{Part}
use Rattle.scan_cdp.specs.declared.Settings.{Settings}
use Rattle.scan_cdp.specs.declared.State.{State}
use Rattle.scan_laws.specs.RefusalRowsClaims.{Left}
use Rattle.scan_laws.proofs.RefusalRowsLaws.{row_6}
use Rattle.scan_laws.specs.Runs.{is_refusal}
use Rattle.scan_laws.proofs.StepLaws.{examined_passed}

fits_later : (place later first size : ℕ) → place ≤ later → outside place first size ≡ false → outside later first size ≡ false
unfolding outside
fits_later place later first size onward fits =
    let (starts, ends) = neither (ltb place first) (ltb limit (first + size)) fits in
    let before = ltb-false place first starts in
    ap (λ (b : Bool). b || ltb limit (first + size)) (le-ltb later first (omega (arith, before, onward))) ∙ ends

the_first : (a b : Bool) → a || b ≡ true → b ≡ false → a ≡ true
the_first true b either not-b = refl
the_first false b either not-b = absurd (false≢true (sym not-b ∙ either))

module _ (set : Settings) (w : List ℕ) (first : ℕ) (last : Bool) where
  -- an examination: by R6, which leaves state and list as they were
  six_by_state : (s : State) (fee_ids : List ℕ) → outside s.progress.place.0 first (length w) ≡ false
      → is_refusal 6 (examined set s fee_ids w first last).answer ≡ true
      → unusable (examined set s fee_ids w first last).state (examined set s fee_ids w first last).fee_ids ≡ true
  six_by_state s fee_ids fits six =
      let row = row_6 set s fee_ids w first last in
      let due = sym row.when ∙ six in
      ap (λ (after : Left). unusable after.state after.fee_ids) (row.left due) ∙ the_first _ _ due fits

  six_from : (n : ℕ) (ms : LoadMarks) (s : State) (fee_ids : List ℕ) → outside s.progress.place.0 first (length w) ≡ false
      → is_refusal 6 (loaded_from n set ms s fee_ids w first last).answer ≡ true
      → unusable (loaded_from n set ms s fee_ids w first last).state (loaded_from n set ms s fee_ids w first last).fee_ids ≡ true
  unfolding loaded_from
  six_from zero ms s fee_ids fits = λ six. absurd (false≢true six)
  six_from (suc n) ms s fee_ids fits =
      let e = examined set s fee_ids w first last in
      by_test (λ (r : Loaded Part). is_refusal 6 r.answer ≡ true → unusable r.state r.fee_ids ≡ true) (is_passed e.answer) _ _
      (λ passes.
      let p = examined_passed set s fee_ids w first last passes in
      six_from n _ e.state e.fee_ids (fits_later s.progress.place.0 e.state.progress.place.0 first (length w) (omega (arith, p.least)) fits))
      (λ stops. six_by_state s fee_ids fits)

  -- A load through a window that starts at the byte place or before it and ends within 2^60.
  pub loaded_six : (s : State) (fee_ids : List ℕ) → outside s.progress.place.0 first (length w) ≡ false
      → is_refusal 6 (loaded set s fee_ids w first last).answer ≡ true
      → unusable (loaded set s fee_ids w first last).state (loaded set s fee_ids w first last).fee_ids ≡ true
  unfolding loaded
  loaded_six = six_from (length w / 64 + 1) no_load_marks
