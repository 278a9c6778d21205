-- Laws of the comparison: its text counter by counter, as the code puts it; its length; and that it is empty where all counts are equal,
-- and only there.
use Prim.Native.Nat.{ℕ, ◌+◌, ◌≤◌, ◌<◌}
use Rattle.std.specs.Prelude.{Bool, ◌≡◌}
use Rattle.std.proofs.Math.Bool.{true, false}
use Rattle.std.proofs.Math.Path.{refl, ap}
use Rattle.std.proofs.Common.{◌∙◌}
use mathlib.Core.List.{List, [], ◌∷◌, ◌++◌}
use native.Mathlib.Omega.{arith}
use borrow.Author.Tests.{eq-eqb, eqb-true}
use Rattle.std.proofs.Math.Dec.{eqb}
use Rattle.std.proofs.Math.ListN.{length, length-append}
use Rattle.basis.specs.Pick.{pick}
use Rattle.basis.specs.PickLaws.{on}
use Rattle.text.specs.Ascii.{ascii}
use Rattle.text_numbers.specs.NumeralLaws.{length-decimal}
use Rattle.trigger_stats.specs.Counters.{Counter, InRange, count, counters}
use Rattle.trigger_stats.proofs.CountersLaws.{same_counts}
use Rattle.trigger_texts.specs.CounterOrder.{texts_in_order}
use Rattle.trigger_texts.proofs.CounterOrderLaws.{in_order_unless, total, total_below, one_of_total, length_in_order}
use Rattle.trigger_texts.specs.FieldMismatches.{counter_mismatch, mismatch_if_any}
use Rattle.trigger_texts.specs.Mismatches.{differing, mismatch, mismatch_of, mismatch_text, name}

module _ (self other : List ℕ) where
  abbrev each : Counter → List ℕ
  each = counter_mismatch self other

  lines_differing : (ks : List Counter) → texts_in_order (mismatch self other) (differing self other ks) ≡ texts_in_order each ks
  unfolding differing texts_in_order mismatch mismatch_if_any
  lines_differing [] = refl
  lines_differing (k ∷ ks) =
      in_order_unless (mismatch self other) (eqb (count k self) (count k other)) k (differing self other ks)
      ∙ ap (λ (t : List ℕ). each k ++ t) (lines_differing ks)

  -- the lines of the counters that differ are what is put for each counter in turn
  pub by_counter : mismatch_text self other ≡ texts_in_order (counter_mismatch self other) counters
  unfolding mismatch_text
  by_counter = lines_differing counters

  length_mismatches : length (mismatch_text self other) ≡ total (λ k. length (each k)) counters
  length_mismatches = ap length by_counter ∙ length_in_order each counters

  -- ---- the longest

  length_of_counter : InRange self → InRange other → (k : Counter) → length (each k) ≤ length (ascii (name k)) + 49
  unfolding mismatch_if_any mismatch_of
  length_of_counter fits fits-other k = go (eqb (count k self) (count k other))
    where
      go : (b : Bool) → length (pick b [] (mismatch_of (ascii (name k)) (count k other) (count k self))) ≤ length (ascii (name k)) + 49
      go true = omega arith
      go false =
          let got = length-decimal 9 (count k self) (omega (arith, fits k)) in
          let expected = length-decimal 9 (count k other) (omega (arith, fits-other k)) in
          simp length-append (omega arith)

  -- the longest comparison: 20 names of 78 bytes together, each with 49 bytes behind it
  pub longest_comparison : InRange self → InRange other → length (mismatch_text self other) ≤ 1058
  unfolding total name
  longest_comparison fits fits-other =
      let bound : Counter → ℕ = λ k. length (ascii (name k)) + 49 in
      omega (arith, length_mismatches, total_below _ bound (length_of_counter fits fits-other) counters)

  -- ---- no text

  -- a counter without a line has equal counts
  no_line : (k : Counter) → length (each k) ≡ 0 → count k self ≡ count k other
  unfolding mismatch_if_any mismatch_of
  no_line k none = go (eqb (count k self) (count k other)) refl none
    where
      go : (b : Bool) → eqb (count k self) (count k other) ≡ b
          → length (pick b [] (mismatch_of (ascii (name k)) (count k other) (count k self))) ≡ 0
          → count k self ≡ count k other
      go true same none = eqb-true _ _ same
      go false same none =
          let line : 0 < length (mismatch_of (ascii (name k)) (count k other) (count k self)) = simp length-append (omega arith) in
          absurd (omega arith)

  -- so a comparison that writes nothing tells that the counts are equal
  pub silent_equal : length self ≡ 20 → length other ≡ 20 → mismatch_text self other ≡ [] → self ≡ other
  silent_equal all also-all silent =
      same_counts self other all also-all (λ k.
      no_line k (omega (arith, one_of_total (λ j. length (each j)) k, length_mismatches, ap length silent)))

-- equal statistics write nothing
pub equal_silent : (s : List ℕ) → mismatch_text s s ≡ []
unfolding differing texts_in_order mismatch_text
equal_silent s = ap (texts_in_order (mismatch s s)) (none counters)
  where
    none : (ks : List Counter) → differing s s ks ≡ []
    none [] = refl
    none (k ∷ ks) = on _ _ (eq-eqb (count k s) (count k s) refl) ∙ none ks
