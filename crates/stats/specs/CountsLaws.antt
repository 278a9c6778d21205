-- Laws of a count: it grows, it is full and starts again with a mark, or it steps over that number and wraps with no mark.
use Rattle.std.specs.Prelude.{◌≡◌, ℕ, ◌+◌, ◌-◌, ◌%◌, ◌^◌, ◌<◌, ◌≤◌, Bool, true, false, List, [], ◌∷◌, ◌==◌, refl}
use Rattle.std.proofs.Common.{ap, ◌∙◌, arith, eq-eqb, eqb-true, ne_eqb}
use Rattle.basis.specs.Pick.{pick}
use Rattle.basis.specs.PickLaws.{on, off}
use Rattle.stats.specs.Counts.{added, added_all, full_count, marks_of, total}
use Rattle.stats.specs.declared.Count.{Count}

pub grows : (count n : ℕ) → count + n < full_count → added count n ≡ record { value = count + n; carry = false }
unfolding added
grows count n below =
    let small : (count + n) % 2 ^ 32 ≡ count + n = omega (arith, below) in
    off _ _ (ne_eqb ((count + n) % 2 ^ 32) full_count (λ e. omega (arith, e, small, below)))
    ∙ ap (λ (v : ℕ). record { value = v; carry = false }) small

pub carries : (count n : ℕ) → count + n ≡ full_count → added count n ≡ record { value = 0; carry = true }
unfolding added
carries count n full =
    let small : (count + n) % 2 ^ 32 ≡ full_count = omega (arith, full) in
    on _ _ (eq-eqb ((count + n) % 2 ^ 32) full_count small)

pub steps_over : (count n : ℕ) → 2 ^ 32 ≤ count + n → count + n < 2 ^ 32 + full_count
    → added count n ≡ record { value = count + n - 2 ^ 32; carry = false }
unfolding added
steps_over count n above below =
    let small : (count + n) % 2 ^ 32 ≡ count + n - 2 ^ 32 = omega (arith, above, below) in
    off _ _ (ne_eqb ((count + n) % 2 ^ 32) full_count (λ e. omega (arith, e, small, above, below)))
    ∙ ap (λ (v : ℕ). record { value = v; carry = false }) small

-- an addition is one modulo 2^32, and 1 more where it is marked, since the count then goes from 2^32 - 1 to 0
added_modulo : (count n : ℕ) → (added count n).value ≡ (count + n + pick (added count n).carry 1 0) % 2 ^ 32
unfolding added
added_modulo count n = by_test ((count + n) % 2 ^ 32 == full_count) refl
  where
    replied : Bool → Count
    replied b = pick b (record { value = 0; carry = true }) (record { value = (count + n) % 2 ^ 32; carry = false })

    by_test : (b : Bool) → ((count + n) % 2 ^ 32 == full_count) ≡ b → (replied b).value ≡ (count + n + pick (replied b).carry 1 0) % 2 ^ 32
    by_test true e = omega (arith, eqb-true ((count + n) % 2 ^ 32) full_count e)
    by_test false e = omega arith

-- the payload sum is the sum of the sizes, and 1 more for each mark, modulo 2^32 (K2, F2)
pub sums_modulo : (count : ℕ) (ns : List ℕ) → count < 2 ^ 32 → added_all count ns ≡ (count + total ns + marks_of count ns) % 2 ^ 32
unfolding added_all marks_of total
sums_modulo count [] small = omega arith
sums_modulo count (n ∷ ns) small =
    let first = added_modulo count n in
    omega (arith, first, sums_modulo (added count n).value ns (omega (arith, first)))
