-- Each turn counts the bit of one place.
use Rattle.std.proofs.Common.{◌≡◌, ℕ, ◌+◌, ◌-◌, ◌/◌, ◌%◌, ◌^◌, ◌<◌, List, [], ◌∷◌, ap, sym, ◌∙◌, arith, get_or, ext_get_or, length-set}
use Rattle.std.specs.Int.Bits.{bit_and}
use Rattle.std.proofs.lemmas.Grind.{common_steps}
use Rattle.std.proofs.lemmas.Simd.{Each1-get_or}
use Rattle.std.proofs.lemmas.Nat.{and_mask}
use Rattle.basis.specs.Bits.{bits}
use Rattle.trigger_stats.specs.Counters.{bit_of, counted, counter_at}
use Rattle.trigger_stats.proofs.CountersLaws.{counted-at, length-counted, number_at}
use Rattle.scan_step.proofs.triggers.collect_stats.Goals as goal

-- the table of the bits
abbrev table : List ℕ
table = 0 ∷ 1 ∷ 2 ∷ 3 ∷ 4 ∷ 5 ∷ 6 ∷ 7 ∷ 8 ∷ 9 ∷ 10 ∷ 11 ∷ 12 ∷ 13 ∷ 14 ∷ 27 ∷ 28 ∷ 29 ∷ 30 ∷ 31 ∷ []

bit_in_table : (place : ℕ) → place < 20 → get_or table place 0 ≡ bit_of (counter_at place)
unfolding bit_of
bit_in_table place below = number_at bit_of place below

small : (place : ℕ) → place < 20 → get_or table place 0 < 32
small place below = Each1-get_or (λ (n : ℕ). n < 32) table place 0 below (omega arith)

-- the sum at a place is the count after the word
grown : (counts : List ℕ) (word place n : ℕ) → place < 20 → n ≡ get_or counts place 0
    → (n + bit_and (word / 2 ^ get_or table place 0) 1) % 2 ^ 32 ≡ get_or (counted counts word) place 0
grown counts word place n below is =
    (λ i. (is i + masked i) % 2 ^ 32) ∙ sym (counted-at counts word place below)
  where
    masked : bit_and (word / 2 ^ get_or table place 0) 1
        ≡ bits (bit_of (counter_at place)) (bit_of (counter_at place)) word
    masked =
        and_mask (word / 2 ^ get_or table place 0) 1 ∙ ap (λ (b : ℕ). word / 2 ^ b % 2) (bit_in_table place below)
        ∙ ap (λ (n : ℕ). word / 2 ^ bit_of (counter_at place) % 2 ^ n) one
      where
        one : 1 ≡ bit_of (counter_at place) + 1 - bit_of (counter_at place)
        one = omega arith

pub overflow_shr-counts : goal.overflow_shr-counts
overflow_shr-counts c = small c.loop-place.place c.loop-place-test.true

pub loop-place-preserved : goal.loop-place-preserved
loop-place-preserved c =
    let place = c.loop-place.place in
    let counts = c.loop-place.counts in
    let (long, each) = c.loop-place.invariant in
    let here = grown c.args.counts.now c.args.trigger place (get_or counts place 0) c.loop-place-test.true ((each place).1 (omega arith)) in
    (simp length-set long, λ k. grind (arith, common_steps, each k, here))

pub returns : goal.returns
returns c =
    ext_get_or 0 _ _ (omega (arith, length-counted c.args.counts.now c.args.trigger)) (λ k below.
    (c.loop-place.invariant.1 k).0 (omega arith))
