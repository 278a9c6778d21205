-- Laws of the numbers of a stave name: `number_of` finds exactly the numbers of the grammar, and a text is one number at most.
use Rattle.std.specs.Prelude.{◌≡◌, refl, Bool, true, false, ◌&&◌, List, [], ◌∷◌, ◌++◌, ℕ, zero, suc, ◌+◌, ◌-◌, ◌*◌, ◌^◌, ◌<◌, ◌≤◌, eqb, leb, length, get_or, Option, Some, None}
use Rattle.std.proofs.Common.{ap, sym, ◌∙◌, subst, true≢false, arith, length-append, leb-true, le-leb, eqb-true}
use Rattle.std.proofs.Math.Nat.{pow-succ'}
use Rattle.std.proofs.lemmas.Bool.{eqb-false}
use Rattle.basis.specs.PickLaws.{both, by_test}
use Rattle.its_names_numbers.specs.Numbers.{plus_sign, digit0, digit9, is_digit, are_all_digits, value_of, digits_number, number_of}
use Rattle.its_names_numbers.specs.NumberGrammar.{Digit, AllDigits, Digits, Number, plain, signed}
use Rattle.its_names_numbers.specs.Parsing.{NumberParsed, DigitsParsed}

-- one more digit makes the number ten times as large and adds itself
pub one_more_digit : (text : List ℕ) (digit : ℕ) → value_of (text ++ (digit ∷ [])) ≡ value_of text * 10 + (digit - digit0)
unfolding value_of
one_more_digit [] digit = omega arith
one_more_digit (first ∷ text) digit =
    let longer : length (text ++ (digit ∷ [])) ≡ suc (length text) = length-append text (digit ∷ []) ∙ omega arith in
    let power = ap (λ (n : ℕ). (first - digit0) * 10 ^ n) longer ∙ ap (λ (n : ℕ). (first - digit0) * n) (pow-succ' 10 (length text)) in
    omega (arith, one_more_digit text digit)

-- digits begin with no `+`
pub unsigned : (text digits : List ℕ) (n : ℕ) → Digits text n → text ≡ plus_sign ∷ digits → ⊥
unsigned text digits n d e =
    let plus : get_or text 0 0 ≡ plus_sign = ap (λ (t : List ℕ). get_or t 0 0) e in
    omega (arith, d.each 0 d.one_or_more)

pub one_number : (text : List ℕ) (n m : ℕ) → Number text n → Number text m → n ≡ m
one_number text n m (plain d) (plain e) = sym d.spell ∙ e.spell
one_number text n m (plain d) (signed digits p e) = absurd (unsigned text digits n d p)
one_number text n m (signed digits p d) (plain e) = absurd (unsigned text digits m e p)
one_number text n m (signed digits p d) (signed digits' p' e) =
    let same : digits ≡ digits' = cc in
    sym d.spell ∙ ap value_of same ∙ e.spell

pub some_bytes : (text : List ℕ) (n : ℕ) → Number text n → 0 < length text
some_bytes text n (plain d) = d.one_or_more
some_bytes text n (signed digits p d) = omega (arith, ap length p)

-- what is found of the digits is what is found of the text, with no `+` in front and behind one
pub plain_parsed : (text : List ℕ) → ((digits : List ℕ) → text ≡ plus_sign ∷ digits → ⊥)
    → (r : Option ℕ) → DigitsParsed text r → NumberParsed text r
plain_parsed text no_plus (Some n) d = plain d
plain_parsed text no_plus None none = λ n number. refuted n number
  where
    refuted : (n : ℕ) → Number text n → ⊥
    refuted n (plain d) = none n d
    refuted n (signed digits p d) = no_plus digits p

pub signed_parsed : (text digits : List ℕ) → text ≡ plus_sign ∷ digits
    → (r : Option ℕ) → DigitsParsed digits r → NumberParsed text r
signed_parsed text digits p (Some n) d = signed digits p d
signed_parsed text digits p None none = λ n number. refuted n number
  where
    refuted : (n : ℕ) → Number text n → ⊥
    refuted n (plain d) = unsigned text digits n d p
    refuted n (signed digits' p' d) =
        let same : digits' ≡ digits = cc in
        none n (subst (λ (t : List ℕ). Digits t n) same d)

and_both : (a b : Bool) → a ≡ true → b ≡ true → (a && b) ≡ true
and_both true b p q = q
and_both false b p q = p

all_digits : (text : List ℕ) → are_all_digits text ≡ true → AllDigits text
unfolding are_all_digits
all_digits [] e k below = absurd (omega arith)
all_digits (byte ∷ behind) e zero below =
    let tests = both (leb digit0 byte) (leb byte digit9) (both (is_digit byte) (are_all_digits behind) e).0 in
    (leb-true _ _ tests.0, leb-true _ _ tests.1)
all_digits (byte ∷ behind) e (suc k) below = all_digits behind (both (is_digit byte) (are_all_digits behind) e).1 k (omega arith)

digits_all : (text : List ℕ) → AllDigits text → are_all_digits text ≡ true
unfolding are_all_digits
digits_all [] each = refl
digits_all (byte ∷ behind) each =
    let first : Digit byte = each 0 (omega arith) in
    and_both _ _ (and_both _ _ (le-leb _ _ first.0) (le-leb _ _ first.1)) (digits_all behind (λ k below. each (suc k) (omega arith)))

digits_parsed : (text : List ℕ) → DigitsParsed text (digits_number text)
unfolding digits_number
digits_parsed [] = λ n d. omega (arith, d.one_or_more)
digits_parsed (byte ∷ behind) =
    by_test (DigitsParsed (byte ∷ behind)) (are_all_digits (byte ∷ behind) && leb (value_of (byte ∷ behind)) 255) _ _
    (λ holds.
    let tests = both (are_all_digits (byte ∷ behind)) _ holds in
    record { one_or_more = omega arith; each = all_digits (byte ∷ behind) tests.0; spell = refl; at_most = leb-true _ _ tests.1 })
    (λ fails n d.
    let small : value_of (byte ∷ behind) ≤ 255 = omega (arith, d.spell, d.at_most) in
    true≢false (sym (and_both _ _ (digits_all (byte ∷ behind) d.each) (le-leb _ _ small)) ∙ fails))

number_parsed : (text : List ℕ) → NumberParsed text (number_of text)
unfolding number_of
number_parsed [] = λ n number. omega (arith, some_bytes [] n number)
number_parsed (byte ∷ behind) =
    by_test (NumberParsed (byte ∷ behind)) (eqb byte plus_sign) _ _
    (λ holds.
    signed_parsed (byte ∷ behind) behind (ap (λ (b : ℕ). b ∷ behind) (eqb-true _ _ holds))
    (digits_number behind) (digits_parsed behind))
    (λ fails.
    plain_parsed (byte ∷ behind) (λ digits e. eqb-false _ _ fails (ap (λ (t : List ℕ). get_or t 0 0) e))
    (digits_number (byte ∷ behind)) (digits_parsed (byte ∷ behind)))

-- what a parser finds is what `number_of` says
pub parsed_number : (text : List ℕ) (r : Option ℕ) → NumberParsed text r → r ≡ number_of text
parsed_number text r found = same r (number_of text) found (number_parsed text)
  where
    same : (r s : Option ℕ) → NumberParsed text r → NumberParsed text s → r ≡ s
    same (Some n) (Some m) p q = ap Some (one_number text n m p q)
    same (Some n) None p q = absurd (q n p)
    same None (Some m) p q = absurd (p m q)
    same None None p q = refl

-- and what `number_of` says is found
pub found_parsed : (text : List ℕ) (r : Option ℕ) → r ≡ number_of text → NumberParsed text r
found_parsed text r e = subst (NumberParsed text) (sym e) (number_parsed text)

-- so it answers with the grammar's numbers
pub number_found : (text : List ℕ) (n : ℕ) → Number text n → number_of text ≡ Some n
number_found text n number = sym (parsed_number text (Some n) number)

-- and with no others
pub found_number : (text : List ℕ) (n : ℕ) → number_of text ≡ Some n → Number text n
found_number text n e = found_parsed text (Some n) (sym e)
