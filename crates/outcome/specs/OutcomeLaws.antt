-- Laws of the outcome.
use Rattle.std.specs.Prelude.{Bool, true, false, ◌&&◌, ◌≡◌, refl}
use Rattle.std.proofs.Common.{ap, ◌∙◌}
use Rattle.basis.specs.Pick.{pick}
use Rattle.basis.specs.PickLaws.{on, off}
use Rattle.filter.specs.Filter.{matches, target_of}
use Rattle.filter.specs.declared.FilterTarget.{FilterTarget}
use Rattle.rdh.specs.declared.rdh_cru.RdhCru.{RdhCru}
use Rattle.scan_cdp.specs.Outcomes.{bad_memory_size, bad_offset, header_fee_id, filtered, is_match, header_memory_size, offset, outcome_of}
use Rattle.scan_cdp.specs.declared.Settings.{Settings}
use Rattle.scan_cdp.specs.declared.Outcome.TheVariants.{FeeIdsFull, BadOffset, HandedOut, MemorySize, Passed}

in_a_row : {A : Type 0} (first full bad : Bool) (four two other : A)
    → pick first (pick full four (pick bad two other)) (pick bad two (pick full four other))
    ≡ pick (first && full) four (pick bad two (pick full four other))
in_a_row true true bad four two other = refl
in_a_row true false true four two other = refl
in_a_row true false false four two other = refl
in_a_row false full bad four two other = refl

-- The two orders of refusals 2 and 4 as three tests in a row: 4 where it is due on a first header; then 2; then 4, which a first header no
-- longer has.
pub tests_in_a_row : (set : Settings) (first full : Bool) (h : RdhCru)
    → outcome_of set first full h
    ≡ pick (first && full) FeeIdsFull (pick (bad_offset (offset h)) BadOffset (pick full FeeIdsFull (filtered set h)))
unfolding outcome_of
tests_in_a_row set first full h = in_a_row first full (bad_offset (offset h)) FeeIdsFull BadOffset (filtered set h)

-- ---- what the filter and the memory size make of a header

module _ (set : Settings) (h : RdhCru) where
  -- What the filter says, by the target that the settings name, is whether the header matches.
  pub says_match : (target : FilterTarget) (b : Bool) → target ≡ target_of set.filter → b ≡ matches target h.link_id (header_fee_id h) → b ≡ is_match set h
  says_match target b named says = says ∙ ap (λ (t : FilterTarget). matches t h.link_id (header_fee_id h)) named

  pub mismatch : is_match set h ≡ false → filtered set h ≡ Passed
  unfolding filtered
  mismatch e = off _ _ e

  pub no_payload : is_match set h ≡ true → bad_memory_size (header_memory_size h) ≡ true → filtered set h ≡ MemorySize
  unfolding filtered
  no_payload e small = on _ _ e ∙ on _ _ small

  pub with_payload : is_match set h ≡ true → bad_memory_size (header_memory_size h) ≡ false → filtered set h ≡ HandedOut
  unfolding filtered
  with_payload e large = on _ _ e ∙ off _ _ large
