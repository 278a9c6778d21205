-- The first `_` behind the first byte cuts a stave name into its layer and its stave: the grammar has no other cut.
use Rattle.std.specs.Prelude.{◌≡◌, List, ◌∷◌, ◌++◌, ℕ, ◌+◌, ◌-◌, ◌<◌, length, get_or, take, drop, Option, Some, None, is_some}
use Rattle.std.proofs.Common.{ap, sym, ◌∙◌, arith, length-append, length-take, add-one, true≢false}
use Rattle.std.proofs.Math.Seq.{split_at, get_or-take, get_or-append_seam}
use Rattle.its_names_numbers.specs.NumberLaws.{found_number, number_found}
use Rattle.its_names_numbers.specs.Numbers.{number_of}
use Rattle.its_names_numbers.proofs.Slices.{to_end}
use Rattle.its_names.specs.Parsing.{FirstUnderscore, NameParsed}
use Rattle.its_names.specs.StaveNames.{underscore}
use Rattle.its_names.specs.StaveNameGrammar.{Named}
use Rattle.its_names.specs.StaveNameLaws.{Without, numbers_of_cut}

some_none : (n : ℕ) → Some n ≡ None → ⊥
some_none n e = true≢false (ap (λ (o : Option ℕ). is_some o) e)

-- without a `_` behind the first byte it is no name
pub some_underscore : {name numbers : List ℕ} {first : ℕ} → name ≡ first ∷ numbers → Without underscore numbers → NameParsed name None
some_underscore {numbers = numbers} e none layer stave r =
    let tail : numbers ≡ r.layer_text ++ (underscore ∷ r.stave_text) = ap (λ (t : List ℕ). drop 1 t) (sym e ∙ r.parts) in
    none (length r.layer_text) (omega (arith, ap length tail, length-append r.layer_text (underscore ∷ r.stave_text)))
    (ap (λ (t : List ℕ). get_or t (length r.layer_text) 0) tail ∙ get_or-append_seam r.layer_text underscore r.stave_text 0)

-- The name is cut behind its first byte, and what stands there at its first `_`.
module _ {name numbers : List ℕ} {first k : ℕ} (parts : name ≡ first ∷ numbers) (u : FirstUnderscore numbers k) where
  abbrev before_it : List ℕ
  before_it = take k numbers

  abbrev behind_it : List ℕ
  behind_it = take (length numbers - (k + 1)) (drop (k + 1) numbers)

  cut : name ≡ first ∷ (before_it ++ (underscore ∷ behind_it))
  cut =
      parts
      ∙ ap (λ (t : List ℕ). first ∷ t)
      (split_at numbers k 0 u.within
      ∙ (λ i. before_it ++ (u.stands i ∷ drop (sym (add-one k) i) numbers))
      ∙ ap (λ (t : List ℕ). before_it ++ (underscore ∷ t)) (sym (to_end (k + 1) numbers)))

  clean : Without underscore before_it
  clean i below e =
      let before : i < k = omega (arith, below, length-take k numbers) in
      u.none_before i before (sym (get_or-take k numbers i 0 before) ∙ e)

  -- without a layer before it, or a stave behind it, that is no name ..
  pub no_layer : None ≡ number_of before_it → NameParsed name None
  no_layer none layer stave r =
      some_none _ (sym (number_found _ layer (numbers_of_cut name first layer stave _ _ r cut clean).0) ∙ sym none)

  pub no_stave : None ≡ number_of behind_it → NameParsed name None
  no_stave none layer stave r =
      some_none _ (sym (number_found _ stave (numbers_of_cut name first layer stave _ _ r cut clean).1) ∙ sym none)

  -- .. and with both it is one
  pub is_named : {layer stave : ℕ} → first < 0x80 → (first ≡ underscore → ⊥) → Some layer ≡ number_of before_it
      → Some stave ≡ number_of behind_it → Named name layer stave
  is_named low other l s = record {
    first = first;
    layer_text = before_it;
    stave_text = behind_it;
    parts = cut;
    below_0x80 = low;
    but_underscore = other;
    a_layer = found_number _ _ (sym l);
    a_stave = found_number _ _ (sym s);
  }
