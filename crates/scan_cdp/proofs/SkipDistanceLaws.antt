-- Laws of the distance to skip: where it lies, what it says of the offset, and where it leads.
use Rattle.std.specs.Prelude.{ℕ, suc, ◌+◌, ◌-◌, ◌≤◌, ◌<◌, Bool, true, false, cond, not, ◌||◌, ◌≡◌, refl, ltb, ℤ, pos, negsuc, ◌+ℤ◌}
use Rattle.std.proofs.Common.{ap, sym, ◌∙◌, arith, le-leb, le-ltb, lt-ltb, ltb-false, ltb-true}
use Rattle.std.proofs.lemmas.Bool.{lt-leb}
use Rattle.basis.specs.PickLaws.{neither}
use Rattle.scan_cdp.specs.Outcomes.{bad_offset, skip_distance}
use Rattle.scan_cdp.specs.SkipDistanceClaims.{PassesInReach, in_reach}

-- ---- where the distance lies, by the offset

-- The distance, by the test whether it leads back.
abbrev distance_by : Bool → ℕ → ℤ
distance_by back n = cond back (negsuc (64 - suc n)) (pos (n - 64))

leads_back : (n : ℕ) → n < 64 → in_reach (skip_distance n) ≡ false
leads_back n below = ap (λ (back : Bool). in_reach (distance_by back n)) (lt-ltb n 64 below)

leads_ahead : (n : ℕ) → 64 ≤ n → skip_distance n ≡ pos (n - 64)
leads_ahead n least = ap (λ (back : Bool). distance_by back n) (le-ltb n 64 least)

leads_near : (n : ℕ) → 64 ≤ n → n ≤ 10064 → in_reach (skip_distance n) ≡ true
leads_near n least most = ap in_reach (leads_ahead n least) ∙ le-leb (n - 64) 10000 (omega (arith, most))

leads_too_far : (n : ℕ) → 10064 < n → in_reach (skip_distance n) ≡ false
leads_too_far n above = ap in_reach (leads_ahead n (omega (arith, above))) ∙ lt-leb (n - 64) 10000 (omega (arith, above))

-- ---- what refusal 2 lets through, and what it stops

-- Two tests in a row, whatever their numbers are: both fail, or one holds.
between : (low high n : ℕ) → (ltb n low || ltb high n) ≡ false → (low ≤ n) × (n ≤ high)
between low high n passes =
    let (not_low, not-high) = neither (ltb n low) (ltb high n) passes in
    (ltb-false n low not_low, ltb-false high n not-high)

beyond : (P : Type 0) (low high n : ℕ) → (ltb n low || ltb high n) ≡ true → (n < low → P) → (high < n → P) → P
beyond P low high n bad below above = by_low (ltb n low) refl bad
  where
    by_low : (b : Bool) → ltb n low ≡ b → (b || ltb high n) ≡ true → P
    by_low true e either = below (ltb-true n low e)
    by_low false e either = above (ltb-true high n either)

-- An offset that passes: its bounds, and that its distance is in reach.
pub record GoodOffset (n : ℕ) : Type 0 where
  pub least : 64 ≤ n
  pub most : n ≤ 10064
  pub reach : in_reach (skip_distance n) ≡ true

pub good_offset : (n : ℕ) → bad_offset n ≡ false → GoodOffset n
good_offset n passes =
    let bounds = between _ _ n passes in
    let least : 64 ≤ n = omega (arith, bounds.0) in
    let most : n ≤ 10064 = omega (arith, bounds.1) in
    record { least = least; most = most; reach = leads_near n least most }

pub passes_in_reach : PassesInReach
passes_in_reach n = by_bad (bad_offset n) refl
  where
    by_bad : (b : Bool) → bad_offset n ≡ b → b ≡ not (in_reach (skip_distance n))
    by_bad true bad =
        sym (ap not
        (beyond _ _ _ n bad (λ below. leads_back n (omega (arith, below))) (λ above. leads_too_far n (omega (arith, above)))))
    by_bad false passes = sym (ap not (good_offset n passes).reach)

-- From behind the header the distance leads where the offset leads from its start.
pub skips_to : (start n : ℕ) → 64 ≤ n → pos (start + n) ≡ pos (start + 64) +ℤ skip_distance n
skips_to start n least = ap pos (omega (arith, least)) ∙ ap (λ (z : ℤ). pos (start + 64) +ℤ z) (sym (leads_ahead n least))
