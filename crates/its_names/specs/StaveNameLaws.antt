-- Laws of stave names: `named_fee` gives the name of each stave that there is its FEE id, which has its layer and its stave, and refuses
-- anything else; the grammar is unambiguous; and names at the edges with their answers.
use Rattle.std.specs.Prelude.{◌≡◌, refl, Bool, true, false, ◌&&◌, not, List, [], ◌∷◌, ◌++◌, ℕ, zero, suc, ◌+◌, ◌≤◌, ◌<◌, eqb, leb, ltb, length, get_or, drop, Option, Some, None}
use Rattle.std.proofs.Common.{ap, ap₂, sym, ◌∙◌, subst, arith, eq-eqb, ne_eqb, eqb-true, le-leb, leb-true, lt-ltb, ltb-true, length-append}
use Rattle.std.proofs.Math.Bool.{and-false}
use Rattle.std.proofs.lemmas.Bool.{eqb-false, lt-leb, not-true}
use Rattle.basis.specs.PickLaws.{on, off, both, by_test}
use Rattle.basis.specs.Refusals.{Answer, gives, refuses}
use Rattle.its.specs.FeeIds.{highest_layer, highest_stave, stave_fee_id}
use Rattle.its.specs.FeeIdLaws.{layer_kept, stave_kept, uplink_kept}
use Rattle.rdh.specs.Subfields.{layer_of, stave_of, uplink_of}
use Rattle.its_names_numbers.specs.Numbers.{plus_sign, are_all_digits, value_of, digits_number, number_of}
use Rattle.its_names_numbers.specs.NumberGrammar.{Digits, Number, plain, signed}
use Rattle.its_names_numbers.specs.NumberLaws.{one_number, some_bytes, number_found, found_number}
use Rattle.its_names.specs.StaveNames.{underscore, before, behind, starts_name, fee_of_stave, fee_of_numbers, named_fee}
use Rattle.its_names.specs.StaveNameGrammar.{Named, NamesStave}

-- No element of the list is x.
abbrev pub Without : ℕ → List ℕ → Type 0
Without x text = (k : ℕ) → k < length text → get_or text k 0 ≡ x → ⊥

pub no_underscore : (text : List ℕ) (n : ℕ) → Number text n → Without underscore text
no_underscore text n (plain d) = λ k below e. omega (arith, d.each k below)
no_underscore text n (signed digits p d) = subst (Without underscore) (sym p) (behind_plus digits n d)
  where
    behind_plus : (digits : List ℕ) (n : ℕ) → Digits digits n → Without underscore (plus_sign ∷ digits)
    behind_plus digits n d zero below e = omega arith
    behind_plus digits n d (suc k) below e = omega (arith, d.each k (omega arith))

-- a list is cut at its first x in one way
pub one_cut : (x : ℕ) (s s' t t' : List ℕ) → Without x s → Without x s' → s ++ (x ∷ t) ≡ s' ++ (x ∷ t') → (s ≡ s') × (t ≡ t')
one_cut x [] [] t t' w w' e = (refl, cc)
one_cut x [] (y ∷ s') t t' w w' e = absurd (w' 0 (omega arith) (cc))
one_cut x (y ∷ s) [] t t' w w' e = absurd (w 0 (omega arith) (cc))
one_cut x (y ∷ s) (y' ∷ s') t t' w w' e =
    let rest = one_cut x s s' t t' (λ k below. w (suc k) (omega arith)) (λ k below. w' (suc k) (omega arith)) (cc) in
    ((cc), rest.1)

-- a stave name that is cut at its first underscore is cut into its layer and its stave
pub numbers_of_cut : (name : List ℕ) (first layer stave : ℕ) (s t : List ℕ) → Named name layer stave
    → name ≡ first ∷ (s ++ (underscore ∷ t)) → Without underscore s → Number s layer × Number t stave
numbers_of_cut name first layer stave s t r e w =
    let tails = ap (λ (u : List ℕ). drop 1 u) (sym r.parts ∙ e) in
    let same = one_cut underscore r.layer_text s r.stave_text t (no_underscore _ layer r.a_layer) w tails in
    (subst (λ (u : List ℕ). Number u layer) same.0 r.a_layer, subst (λ (u : List ℕ). Number u stave) same.1 r.a_stave)

-- the grammar is unambiguous
pub unambiguous : (name : List ℕ) (layer stave layer' stave' : ℕ) → Named name layer stave → Named name layer' stave'
    → (layer ≡ layer') × (stave ≡ stave')
unambiguous name layer stave layer' stave' r r' =
    let cut = numbers_of_cut name r'.first layer stave _ _ r r'.parts (no_underscore _ layer' r'.a_layer) in
    (one_number _ layer layer' cut.0 r'.a_layer, one_number _ stave stave' cut.1 r'.a_stave)

pub length_named : (name : List ℕ) (layer stave : ℕ) (r : Named name layer stave)
    → length name ≡ suc (length r.layer_text + suc (length r.stave_text))
length_named name layer stave r = ap length r.parts ∙ ap suc (length-append r.layer_text (underscore ∷ r.stave_text))

pub four_bytes : (name : List ℕ) (layer stave : ℕ) → Named name layer stave → 4 ≤ length name
four_bytes name layer stave r =
    omega (arith, length_named name layer stave r, some_bytes _ layer r.a_layer, some_bytes _ stave r.a_stave)

-- a list that is cut at its first x, and put together again
pub before_cut : (x : ℕ) (s t : List ℕ) → Without x s → before x (s ++ (x ∷ t)) ≡ s
unfolding before
before_cut x [] t w = on _ _ (eq-eqb x x refl)
before_cut x (y ∷ s) t w =
    off _ _ (ne_eqb y x (w 0 (omega arith)))
    ∙ ap (λ (u : List ℕ). y ∷ u) (before_cut x s t (λ k below. w (suc k) (omega arith)))

pub behind_cut : (x : ℕ) (s t : List ℕ) → Without x s → behind x (s ++ (x ∷ t)) ≡ t
unfolding behind
behind_cut x [] t w = on _ _ (eq-eqb x x refl)
behind_cut x (y ∷ s) t w = off _ _ (ne_eqb y x (w 0 (omega arith))) ∙ behind_cut x s t (λ k below. w (suc k) (omega arith))

-- The list is put together of what stands before x, x, and what stands behind it.
abbrev Joined : ℕ → List ℕ → Type 0
Joined x s = s ≡ before x s ++ (x ∷ behind x s)

pub cut_joined : (x : ℕ) (s : List ℕ) → 0 < length (behind x s) → Joined x s
unfolding before behind
cut_joined x [] some = absurd (omega arith)
cut_joined x (y ∷ s) some = by_cases (cut_joined x s) (eqb y x) refl
  where
    by_cases : (0 < length (behind x s) → Joined x s) → (b : Bool) → eqb y x ≡ b → Joined x (y ∷ s)
    by_cases rest true e = rw e (ap (λ (z : ℕ). z ∷ s) (eqb-true y x e))
    by_cases rest false e = rw e (ap (λ (u : List ℕ). y ∷ u) (rest (rw e at some)))

-- a name by the grammar has the answer of its two numbers
pub named_fee_lem : (name : List ℕ) (layer stave : ℕ) → Named name layer stave → named_fee name ≡ fee_of_stave layer stave
unfolding named_fee
named_fee_lem name layer stave r =
    let clean = no_underscore r.layer_text layer r.a_layer in
    let layer-found = ap number_of (before_cut underscore r.layer_text r.stave_text clean) ∙ number_found _ layer r.a_layer in
    let stave-found = ap number_of (behind_cut underscore r.layer_text r.stave_text clean) ∙ number_found _ stave r.a_stave in
    let starts : starts_name r.first ≡ true =
    ap₂ (λ (low other : Bool). low && not other) (lt-ltb _ 0x80 r.below_0x80) (ne_eqb _ underscore r.but_underscore) in
    ap named_fee r.parts ∙ on _ _ starts ∙ ap₂ fee_of_numbers layer-found stave-found

-- two numbers that are a layer and a stave have their FEE id, and with either above the highest there is refusal 8
pub there_given : (layer stave : ℕ) → layer ≤ highest_layer → stave ≤ highest_stave → fee_of_stave layer stave ≡ gives (stave_fee_id layer stave)
unfolding fee_of_stave
there_given layer stave l s = on _ _ (ap₂ ◌&&◌ (le-leb layer highest_layer l) (le-leb stave highest_stave s))

pub layer_refused : (layer stave : ℕ) → highest_layer < layer → fee_of_stave layer stave ≡ refuses 8 []
unfolding fee_of_stave
layer_refused layer stave above = off _ _ (ap (λ (b : Bool). b && leb stave highest_stave) (lt-leb layer highest_layer above))

pub stave_refused : (layer stave : ℕ) → highest_stave < stave → fee_of_stave layer stave ≡ refuses 8 []
unfolding fee_of_stave
stave_refused layer stave above =
    off _ _ (ap (λ (b : Bool). leb layer highest_layer && b) (lt-leb stave highest_stave above) ∙ and-false (leb layer highest_layer))

-- so the name of a stave that there is has its FEE id
pub stave_given : (name : List ℕ) (layer stave : ℕ) → NamesStave name layer stave → named_fee name ≡ gives (stave_fee_id layer stave)
stave_given name layer stave r = named_fee_lem name layer stave r.form ∙ there_given layer stave r.layer_there r.stave_there

-- a first byte and two numbers on the sides of the first `_` are a name
name_of_parts : (first : ℕ) (rest : List ℕ) (layer stave : ℕ) → starts_name first ≡ true
    → Number (before underscore rest) layer → Number (behind underscore rest) stave → Named (first ∷ rest) layer stave
name_of_parts first rest layer stave starts a_layer a_stave =
    let tests = both (ltb first 0x80) (not (eqb first underscore)) starts in
    record {
      first = first;
      layer_text = before underscore rest;
      stave_text = behind underscore rest;
      parts = ap (λ (u : List ℕ). first ∷ u) (cut_joined underscore rest (some_bytes _ stave a_stave));
      below_0x80 = ltb-true _ _ tests.0;
      but_underscore = eqb-false _ _ (not-true _ tests.1);
      a_layer = a_layer;
      a_stave = a_stave;
    }

-- what holds of the FEE id of a stave's name, and of refusal 8, holds of every answer
pub by_answer : (P : Answer ℕ → Type 0) (name : List ℕ)
    → ((layer stave : ℕ) → NamesStave name layer stave → P (gives (stave_fee_id layer stave))) → P (refuses 8 []) → P (named_fee name)
unfolding named_fee fee_of_stave
by_answer P [] given refused = refused
by_answer P (first ∷ rest) given refused =
    by_test P (starts_name first) _ _
    (λ starts. by_numbers starts (number_of (before underscore rest)) (number_of (behind underscore rest)) refl refl)
    (λ starts-ill. refused)
  where
    by_limits : (layer stave : ℕ) → Named (first ∷ rest) layer stave → P (fee_of_stave layer stave)
    by_limits layer stave form =
        by_test P (leb layer highest_layer && leb stave highest_stave) _ _
        (λ there.
        let tests = both (leb layer highest_layer) (leb stave highest_stave) there in
        given layer stave (record { form = form; layer_there = leb-true _ _ tests.0; stave_there = leb-true _ _ tests.1 }))
        (λ above. refused)

    by_numbers : starts_name first ≡ true → (layer stave : Option ℕ) → number_of (before underscore rest) ≡ layer
        → number_of (behind underscore rest) ≡ stave → P (fee_of_numbers layer stave)
    by_numbers starts (Some layer) (Some stave) l s =
        by_limits layer stave (name_of_parts first rest layer stave starts (found_number _ layer l) (found_number _ stave s))
    by_numbers starts (Some layer) None l s = refused
    by_numbers starts None stave l s = refused

-- refusal 8 is no FEE id
refused_no_fee : (id : ℕ) → refuses 8 [] ≡ gives id → ⊥
refused_no_fee id e =
    let z : ◌≡◌ {A = ℕ} 0 1 = cc in
    omega arith

-- what has a FEE id for an answer is the name of a stave that there is, and the FEE id is that stave's
pub fee_named : (name : List ℕ) (id : ℕ) → named_fee name ≡ gives id
    → (layer : ℕ) × (stave : ℕ) × NamesStave name layer stave × (id ≡ stave_fee_id layer stave)
fee_named name id =
    by_answer (λ a. a ≡ gives id → (layer : ℕ) × (stave : ℕ) × NamesStave name layer stave × (id ≡ stave_fee_id layer stave)) name
    (λ layer stave r e. (layer, stave, r, (cc)))
    (λ e. absurd (refused_no_fee id e))

-- a name's FEE id has the name's layer and stave, at uplink 0
pub named_parts : (name : List ℕ) (id layer stave : ℕ) → Named name layer stave → named_fee name ≡ gives id
    → (layer_of id ≡ layer) × (stave_of id ≡ stave) × (uplink_of id ≡ 0)
named_parts name id layer stave form e =
    let found = fee_named name id e in
    let r = found.2 in
    let same = unambiguous name found.0 found.1 layer stave r.form form in
    let at-layer = ap layer_of found.3 ∙ layer_kept _ _ r.layer_there r.stave_there in
    let at-stave = ap stave_of found.3 ∙ stave_kept _ _ r.layer_there r.stave_there in
    let at-uplink = ap uplink_of found.3 ∙ uplink_kept _ _ r.layer_there r.stave_there in
    (at-layer ∙ same.0, at-stave ∙ same.1, at-uplink)

-- what is the name of no stave that there is is refused
pub other_refused : (name : List ℕ) → ((layer stave : ℕ) → NamesStave name layer stave → ⊥) → named_fee name ≡ refuses 8 []
other_refused name none = by_answer (λ a. a ≡ refuses 8 []) name (λ layer stave r. absurd (none layer stave r)) refl

pub unnamed_refused : (name : List ℕ) → ((layer stave : ℕ) → Named name layer stave → ⊥) → named_fee name ≡ refuses 8 []
unnamed_refused name none = other_refused name (λ layer stave r. none layer stave r.form)

-- L9_70 names no stave: there is no layer 9 (E7)
pub l9_70_refused : named_fee (76 ∷ 57 ∷ 95 ∷ 55 ∷ 48 ∷ []) ≡ refuses 8 []
unfolding named_fee fee_of_stave before behind number_of digits_number are_all_digits value_of
l9_70_refused = refl

-- L5 is no stave name (R8)
pub l5_refused : named_fee (76 ∷ 53 ∷ []) ≡ refuses 8 []
unfolding named_fee fee_of_stave before behind number_of digits_number are_all_digits value_of
l5_refused = refl
