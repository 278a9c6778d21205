-- A text and the blanks that it lacks to a width, behind it or before it.
use Prim.Native.Nat.{ℕ, ◌-◌}
use mathlib.Core.Path.{◌≡◌, ap}
use mathlib.Core.List.{List}
use native.Mathlib.Omega.{arith}
use lib.ListN.{length, replicate}
use Rattle.text.specs.Put.{Put}
use Rattle.text.specs.PutLaws.{and_then, and_then_if, respelled}
use Rattle.text_numbers.specs.Numerals.{left, right}

-- a text, then the blanks that it lacks to a width
pub padded_behind : {l t m n : List ℕ} {i j k lacks : ℕ} (width : ℕ) → Put l i t m j → lacks ≡ width - (j - i)
    → Put m j (replicate lacks 32) n k → Put l i (left width t) n k
unfolding left
padded_behind {t = t} {i = i} {lacks = lacks} width p e q =
    and_then_if (replicate (width - length t) 32) p
    (λ within. let same : lacks ≡ width - length t = omega (arith, e, p.next) in ap (λ (x : ℕ). replicate x 32) same) q

-- the blanks that a text lacks to a width, then the text
pub padded_before : {l t m n : List ℕ} {i j k lacks : ℕ} (width : ℕ) → lacks ≡ width - length t → Put l i (replicate lacks 32) m j
    → Put m j t n k → Put l i (right width t) n k
unfolding right
padded_before {t = t} width e p q = and_then (respelled (ap (λ (x : ℕ). replicate x 32) e) p) q
