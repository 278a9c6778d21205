-- Laws of numerals: the step that a writer takes from a number to its quotient, and their lengths.
use Rattle.std.specs.Prelude.{ℕ, zero, suc, ◌+◌, ◌-◌, ◌*◌, ◌/◌, ◌%◌, ◌^◌, ◌≤◌, ◌<◌, max, Bool, true, false, ◌≡◌, List, [], ◌∷◌, ◌++◌, ltb, length, replicate}
use Rattle.std.proofs.Common.{ap, sym, ◌∙◌, subst, pow-suc, div-lt_iff_lt-mul, le-div_iff_mul-le, mod-eq_of_lt, arith, le-ltb, lt-ltb, length-append}
use Rattle.std.proofs.Math.Nat.{pow-zero}
use Rattle.std.proofs.lemmas.List.{length-replicate}
use Rattle.basis.specs.Pick.{pick}
use Rattle.basis.specs.PickLaws.{on, off}
use Rattle.text.specs.Ascii.{ascii}
use Rattle.text_numbers.specs.Numerals.{numeral, glyph, decimal, hex, left, right}

-- the quotient of a number of one digit more
pub quotient_below : (base k n : ℕ) → 0 < base → n < base ^ suc k → n / base < base ^ k
quotient_below base k n pos h = (div-lt_iff_lt-mul pos).1 (subst (λ (x : ℕ). n < x) (pow-suc base k) h)

one_digit : (base n : ℕ) → n < base ^ 1 → n < base
one_digit base n h =
    subst (λ (x : ℕ). n < x) (pow-suc base 0 ∙ omega (arith, ap (λ (x : ℕ). x * base) (pow-zero base))) h

-- a number below the base is its digit
numeral_only : (base k n : ℕ) → n < base → numeral base (suc k) n ≡ glyph n ∷ []
unfolding numeral
numeral_only base k n h = on _ _ (lt-ltb n base h)

-- a number that has no quotient is its last digit
pub numeral_last : (base k n : ℕ) → 0 < base → n / base ≡ 0 → numeral base (suc k) n ≡ glyph (n % base) ∷ []
numeral_last base k n pos none =
    let below : n < base = omega (arith, (div-lt_iff_lt-mul {k = base} {x = n} {y = 1} pos).0 (omega (arith, none))) in
    numeral_only base k n below ∙ ap (λ (d : ℕ). glyph d ∷ []) (sym (mod-eq_of_lt below))

-- another is its quotient's numeral and its last digit
pub numeral-step : (base k n : ℕ) → 0 < base → 0 < n / base
    → numeral base (suc k) n ≡ numeral base k (n / base) ++ (glyph (n % base) ∷ [])
unfolding numeral
numeral-step base k n pos some =
    off _ _ (le-ltb n base (omega (arith, (le-div_iff_mul-le {k = base} {x = 1} {y = n} pos).0 some)))

-- a number below a power of the base has at most as many digits
pub length-numeral : (base most k n : ℕ) → 0 < base → n < base ^ suc k → length (numeral base most n) ≤ suc k
unfolding numeral
length-numeral base zero k n pos h = omega arith
length-numeral base (suc most) zero n pos h =
    omega (arith, ap length (numeral_only base most n (one_digit base n h)))
length-numeral base (suc most) (suc k) n pos h =
    let ih = length-numeral base most k (n / base) pos (quotient_below base (suc k) n pos h) in
    go (ltb n base) ih
  where
    go : (b : Bool) → length (numeral base most (n / base)) ≤ suc k
        → length (pick b (glyph n ∷ []) (numeral base most (n / base) ++ (glyph (n % base) ∷ []))) ≤ suc (suc k)
    go true ih = omega arith
    go false ih = omega (arith, length-append (numeral base most (n / base)) (glyph (n % base) ∷ []))

-- at most as many digits as there is room for
pub numeral_room : (base most n : ℕ) → length (numeral base most n) ≤ most
unfolding numeral
numeral_room base zero n = omega arith
numeral_room base (suc most) n = go (ltb n base) (numeral_room base most (n / base))
  where
    go : (b : Bool) → length (numeral base most (n / base)) ≤ most
        → length (pick b (glyph n ∷ []) (numeral base most (n / base) ++ (glyph (n % base) ∷ []))) ≤ suc most
    go true ih = omega arith
    go false ih = omega (arith, length-append (numeral base most (n / base)) (glyph (n % base) ∷ []))

pub length_left : (width : ℕ) (t : List ℕ) → length (left width t) ≡ max width (length t)
unfolding left
length_left width t = omega (arith, length-append t (replicate (width - length t) 32), length-replicate {A = ℕ} (width - length t) 32)

pub length-right : (width : ℕ) (t : List ℕ) → length (right width t) ≡ max width (length t)
unfolding right
length-right width t = omega (arith, length-append (replicate (width - length t) 32) t, length-replicate {A = ℕ} (width - length t) 32)

pub length-decimal : (k n : ℕ) → n < 10 ^ suc k → length (decimal n) ≤ suc k
unfolding decimal
length-decimal k n small = length-numeral 10 20 k n (omega arith) small

pub length-hex : (k n : ℕ) → n < 16 ^ suc k → length (hex n) ≤ 3 + k
unfolding hex
length-hex k n small =
    omega (arith, length-append (ascii "0x") (numeral 16 16 n), length-numeral 16 16 k n (omega arith) small)

-- a column that is wide enough for its number has just its width
pub decimal_column : (width k n : ℕ) → n < 10 ^ suc k → suc k ≤ width → length (left width (decimal n)) ≡ width
decimal_column width k n small wide = omega (arith, length_left width (decimal n), length-decimal k n small)

pub hex_column : (width k n : ℕ) → n < 16 ^ suc k → 3 + k ≤ width → length (left width (hex n)) ≡ width
hex_column width k n small wide = omega (arith, length_left width (hex n), length-hex k n small)
