-- Numbers of a stave name: one digit more, and a `+` in front.
use Rattle.std.specs.Prelude.{◌≡◌, List, [], ◌∷◌, ◌++◌, ℕ, ◌+◌, ◌*◌, ◌-◌, ◌<◌, ◌≤◌, length, get_or, take, drop, Option}
use Rattle.std.proofs.Common.{ap, sym, refl, ◌∙◌, arith, add-one, append_assoc, append-nil, take-append-drop, drop-cons, subst}
use Rattle.std.proofs.Math.Seq.{take-suc, take_all}
use Rattle.its_names_numbers.specs.NumberGrammar.{Digit, Digits}
use Rattle.its_names_numbers.specs.NumberLaws.{one_more_digit, parsed_number, plain_parsed, signed_parsed}
use Rattle.its_names_numbers.specs.Numbers.{digit0, number_of, plus_sign, value_of}
use Rattle.its_names_numbers.specs.Parsing.{DigitsParsed}
use Rattle.its_names_numbers.proofs.Slices.{to_end}

-- The digits before i spell a value.
pub record Passed (text : List ℕ) (i value : ℕ) : Type 0 where
  pub spelt : value ≡ value_of (take i text)
  pub digits : (k : ℕ) → k < i → Digit (get_or text k 0)
  pub at_most : value ≤ 255

pub none_passed : value_of [] ≡ 0
unfolding value_of
none_passed = refl

pub all_passed : (text : List ℕ) (i value : ℕ) → 0 < length text → i ≡ length text → value ≤ 255
    → value ≡ value_of (take i text) → ((k : ℕ) → k < i → Digit (get_or text k 0)) → Digits text value
all_passed text i value some all byte spelt digits = record {
  one_or_more = some;
  each = λ k below. digits k (omega (arith, below, all));
  spell = sym (spelt ∙ ap value_of (take_all i text (omega (arith, all))));
  at_most = byte;
}

pub digit_passed : (text : List ℕ) (i : ℕ) → i < length text
    → value_of (take (i + 1) text) ≡ value_of (take i text) * 10 + (get_or text i 0 - digit0)
digit_passed text i below =
    ap (λ (n : ℕ). value_of (take n text)) (add-one i)
    ∙ ap value_of (take-suc text i 0 below)
    ∙ one_more_digit (take i text) (get_or text i 0)

-- digits behind others make no number smaller
grows : (text behind : List ℕ) → value_of text ≤ value_of (text ++ behind)
grows text [] = omega (arith, ap value_of (append-nil text))
grows text (digit ∷ behind) =
    omega (arith, grows (text ++ (digit ∷ [])) behind, one_more_digit text digit, ap value_of (append_assoc text (digit ∷ []) behind))

-- so where the digits passed spell more than 255, the text is no number
pub too_large : (text : List ℕ) (i n : ℕ) → i < length text → 255 < value_of (take i text) * 10 + (get_or text i 0 - digit0) → Digits text n → ⊥
too_large text i n below large d =
    omega (arith, digit_passed text i below, grows (take (i + 1) text) (drop (i + 1) text), ap value_of (take-append-drop (i + 1) text), d.spell, d.at_most)

-- what is found of the digits is the number of the text, with a `+` in front and without one
pub signed_number : (text : List ℕ) (r : Option ℕ) → 0 < length text → get_or text 0 0 ≡ plus_sign
    → DigitsParsed (take (length text - 1) (drop 1 text)) r → r ≡ number_of text
signed_number text r some plus digits =
    parsed_number text r
    (signed_parsed text (drop 1 text) (drop-cons text 0 0 some ∙ ap (λ (b : ℕ). b ∷ drop 1 text) plus) r
    (subst (λ (t : List ℕ). DigitsParsed t r) (to_end 1 text) digits))

pub plain_number : (text : List ℕ) (r : Option ℕ) → (0 < length text → get_or text 0 0 ≡ plus_sign → ⊥) → DigitsParsed text r → r ≡ number_of text
plain_number text r none digits =
    parsed_number text r
    (plain_parsed text (λ rest e. none (omega (arith, ap length e)) (ap (λ (t : List ℕ). get_or t 0 0) e)) r digits)
