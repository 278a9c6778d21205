-- Laws of stave names: each stave that there is has one, with its layer and its stave in decimal digits.
use Rattle.std.specs.Prelude.{◌≡◌, refl, List, [], ◌∷◌, ◌++◌, ℕ, zero, suc, ◌+◌, ◌/◌, ◌%◌, ◌^◌, ◌<◌, ◌≤◌, ltb}
use Rattle.std.proofs.Common.{◌∙◌, arith, lt-ltb, ltb-true, ltb-false, length-append}
use Rattle.basis.specs.PickLaws.{on, by_test}
use Rattle.basis.specs.Refusals.{gives}
use Rattle.its.specs.FeeIds.{highest_layer, highest_stave, stave_fee_id}
use Rattle.its_names_numbers.specs.Numbers.{value_of}
use Rattle.its_names_numbers.specs.NumberGrammar.{AllDigits, Digit, Digits, Number, plain}
use Rattle.its_names_numbers.specs.NumberLaws.{one_more_digit}
use Rattle.its_names.specs.StaveNames.{named_fee}
use Rattle.its_names.specs.StaveNameGrammar.{NamesStave}
use Rattle.its_names.specs.StaveNameLaws.{stave_given}
use Rattle.text.specs.Ascii.{ascii}
use Rattle.text_numbers.specs.Numerals.{decimal, glyph, numeral}
use Rattle.text_numbers.specs.NumeralLaws.{quotient_below}

glyph_of : (n : ℕ) → n < 10 → glyph n ≡ 48 + n
glyph_of n small = on _ _ (lt-ltb n 10 small)

one_digit : (n : ℕ) → n < 10 → Digits (glyph n ∷ []) n
unfolding value_of
one_digit n small = record { one_or_more = omega arith; each = each; spell = omega (arith, glyph_of n small); at_most = omega arith }
  where
    each : AllDigits (glyph n ∷ [])
    each zero below = (omega (arith, glyph_of n small), omega (arith, glyph_of n small))
    each (suc k) below = absurd (omega arith)

-- digits with one more behind them
all_digits_more : (text : List ℕ) (digit : ℕ) → AllDigits text → Digit digit → AllDigits (text ++ (digit ∷ []))
all_digits_more [] digit each last zero below = last
all_digits_more [] digit each last (suc k) below = absurd (omega arith)
all_digits_more (byte ∷ text) digit each last zero below = each 0 (omega arith)
all_digits_more (byte ∷ text) digit each last (suc k) below =
    all_digits_more text digit (λ i within. each (suc i) (omega arith)) last k (omega arith)

digit_more : (text : List ℕ) (n : ℕ) → n ≤ 255 → Digits text (n / 10) → Digits (text ++ (glyph (n % 10) ∷ [])) n
digit_more text n at_most front =
    let small : n % 10 < 10 = omega arith in
    let byte = glyph_of (n % 10) small in
    record {
      one_or_more = omega (arith, length-append text (glyph (n % 10) ∷ []));
      each = all_digits_more text _ front.each (omega (arith, byte), omega (arith, byte));
      spell = one_more_digit text (glyph (n % 10)) ∙ omega (arith, byte, front.spell);
      at_most = at_most;
    }

-- a decimal number spells itself, and so is a number of a name up to 255
numeral_digits : (most n : ℕ) → n < 10 ^ suc most → n ≤ 255 → Digits (numeral 10 (suc most) n) n
unfolding numeral
numeral_digits zero n below at_most = by_test (λ (t : List ℕ). Digits t n) (ltb n 10) _ _
    (λ small. one_digit n (ltb-true n 10 small))
    (λ large. absurd (omega (arith, ltb-false n 10 large)))
numeral_digits (suc most) n below at_most = by_test (λ (t : List ℕ). Digits t n) (ltb n 10) _ _
    (λ small. one_digit n (ltb-true n 10 small))
    (λ large.
    let rest_below = quotient_below 10 (suc most) n (omega arith) below in
    digit_more (numeral 10 (suc most) (n / 10)) n at_most (numeral_digits most (n / 10) rest_below (omega arith)))

pub decimal-number : (n : ℕ) → n ≤ 255 → Number (decimal n) n
unfolding decimal
decimal-number n at_most = plain (numeral_digits 19 n (omega arith) at_most)

-- The name of a stave, as `L5_42`.
abbrev pub name_of : ℕ → ℕ → List ℕ
name_of layer stave = ascii "L" ++ (decimal layer ++ (ascii "_" ++ decimal stave))

pub names_stave : (layer stave : ℕ) → layer ≤ highest_layer → stave ≤ highest_stave → NamesStave (name_of layer stave) layer stave
names_stave layer stave l s =
    record {
      form = record {
        first = 76;
        layer_text = decimal layer;
        stave_text = decimal stave;
        parts = refl;
        below_0x80 = omega arith;
        but_underscore = λ e. omega arith;
        a_layer = decimal-number layer (omega arith);
        a_stave = decimal-number stave (omega arith);
      };
      layer_there = l;
      stave_there = s;
    }

-- each stave that there is has a name
pub each_named : (layer stave : ℕ) → layer ≤ highest_layer → stave ≤ highest_stave → named_fee (name_of layer stave) ≡ gives (stave_fee_id layer stave)
each_named layer stave l s = stave_given _ layer stave (names_stave layer stave l s)
