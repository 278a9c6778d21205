-- Laws of a check by its verdict and text: something sound; a text that was written, and one that is too long for the buffer.
use Rattle.std.specs.Prelude.{ℕ, ◌≤◌, ◌<◌, Bool, true, false, ◌≡◌, refl, List, [], leb, ℤ, length, Ok, Err}
use Rattle.std.proofs.Common.{ap, sym, subst, ◌∙◌, arith, le-leb}
use Rattle.basis.specs.Pick.{pick}
use Rattle.basis.specs.PickLaws.{on, off}
use Rattle.basis.specs.Refusals.{gives, refuses}
use Rattle.sanity.specs.declared.Criteria.{Criteria}
use Rattle.text.specs.declared.TooShort.{TooShort}
use Rattle.text.specs.Put.{Put}
use Rattle.text.specs.Written.{Writes, overwritten, written}
use Rattle.text.specs.WrittenLaws.{fitting, too_short}
use Rattle.validators.specs.declared.RdhCruSanityValidator.{RdhCruSanityValidator}
use Rattle.validators.specs.declared.Verdict.TheVariants.{Sound, NotSound}
use Rattle.validators.specs.Verdict.{ChecksBy, Judges, held_to, holding, judged_in, settled_id}

-- what a writing answers says whether the text fits
fits : (b : Bool) {n k : ℕ} (values : List ℤ) → gives n ≡ pick b (gives k) (refuses 7 values) → (b ≡ true) × (n ≡ k)
fits true values e = (refl, cc)
fits false values e = cc

too_long : (b : Bool) {values others : List ℤ} (k : ℕ) → refuses 7 values ≡ pick b (gives k) (refuses 7 others)
    → (b ≡ false) × (values ≡ others)
too_long true k e = cc
too_long false k e = (refl, cc)

-- a text that fits gives the verdict
judged_fitting : (text l : List ℕ) {is_sound b : Bool} {n : ℕ} → is_sound ≡ b → n ≡ length text → length text ≤ length l
    → judged_in is_sound text (length l) ≡ gives (record { is_sound = b; text_length = n })
judged_fitting text l e is fits = on _ _ (le-leb _ _ fits) ∙ (λ i. gives (record { is_sound = e i; text_length = sym is i }))

module _ {A : Type 0} {is_sound : Bool} {text l : List ℕ} {settled unsettled : A} where
  -- what is sound settles, too, and its text stands at the buffer's start
  pub judges_sound : {kept : A} → is_sound ≡ true → text ≡ [] → kept ≡ settled → Judges A is_sound text settled unsettled l (Ok Sound) kept l
  unfolding overwritten
  judges_sound e none settles =
      let empty : ◌≡◌ {A = ℕ} 0 (length text) = sym (ap length none) in
      let room : leb (length text) (length l) ≡ true = le-leb _ _ (omega (arith, empty)) in
      record {
        verdict = (λ i. gives (record { is_sound = sym e i; text_length = empty i })) ∙ sym (on _ _ room);
        validator = settles ∙ sym (on _ _ room);
        leaves = sym (ap (λ (t : List ℕ). overwritten t l) none ∙ on _ _ (le-leb 0 (length l) (omega arith)));
      }

  pub judges_unsound : {kept : A} {m : List ℕ} {n : ℕ} → is_sound ≡ false → Writes text l (Ok n) m → kept ≡ settled
      → Judges A is_sound text settled unsettled l (Ok (NotSound n)) kept m
  unfolding written
  judges_unsound e w settles =
      let f = fits (leb (length text) (length l)) _ w.reply in
      record {
        verdict = (λ i. gives (record { is_sound = sym e i; text_length = f.1 i })) ∙ sym (on _ _ f.0);
        validator = settles ∙ sym (on _ _ f.0);
        leaves = w.leaves;
      }

  -- a text that does not fit: refusal 7 with its length, and nothing settled
  pub judges_too_short : {m : List ℕ} {e : TooShort} → Writes text l (Err e) m
      → Judges A is_sound text settled unsettled l (Err e) unsettled m
  unfolding written
  judges_too_short w =
      let f = too_long (leb (length text) (length l)) _ w.reply in
      record {
        verdict = ap (λ (values : List ℤ). refuses 7 values) f.1 ∙ sym (off _ _ f.0);
        validator = sym (off _ _ f.0);
        leaves = w.leaves;
      }

  -- the two last by what is known of the text and the buffer: the text fits and is put, or it is longer than the buffer
  pub judges_put : {kept : A} {m : List ℕ} {n : ℕ} → is_sound ≡ false → length text ≤ length l → Put l 0 text m n → kept ≡ settled
      → Judges A is_sound text settled unsettled l (Ok (NotSound n)) kept m
  judges_put e fits p settles = judges_unsound e (fitting fits p) settles

  pub judges_longer : {need : ℕ} → need ≡ length text → length l < need
      → Judges A is_sound text settled unsettled l (Err (record { needed = need })) unsettled l
  judges_longer is short = judges_too_short (too_short l (record { fits = λ enough. omega (arith, is); exact = λ below. is }) short)

-- The three cases of what a check answers and leaves, by what the code finds out: the header ID, the criteria, and whether any test fails.
module _ (v : RdhCruSanityValidator) {n id : ℕ} (has : n ≡ id) (is_sound : Criteria → Bool) (failures : Criteria → List ℕ)
    {criteria : Criteria} (own : criteria ≡ held_to v n) {b : Bool} (is : b ≡ is_sound criteria) where
  held : criteria ≡ held_to v id
  held = own ∙ ap (held_to v) has

  judged : {s : Bool} → b ≡ s → is_sound (held_to v id) ≡ s
  judged e = sym (ap is_sound held) ∙ sym is ∙ e

  text_is : b ≡ false → failures criteria ≡ pick (is_sound (held_to v id)) [] (failures (held_to v id))
  text_is e = ap failures held ∙ sym (off _ _ (judged e))

  settled : {w : RdhCruSanityValidator} → w ≡ holding v (settled_id v.header_id n) → w ≡ holding v (settled_id v.header_id id)
  settled e = e ∙ ap (λ (k : ℕ). holding v (settled_id v.header_id k)) has

  pub by_sound : {w : RdhCruSanityValidator} {l : List ℕ} → b ≡ true → w ≡ holding v (settled_id v.header_id n)
      → ChecksBy v id is_sound failures l (record { verdict = Ok Sound; validator = w }) l
  by_sound e settles = judges_sound (judged e) (on _ _ (judged e)) (settled settles)

  pub by_unsound : {w : RdhCruSanityValidator} {l m : List ℕ} {k : ℕ} → b ≡ false → Writes (failures criteria) l (Ok k) m
      → w ≡ holding v (settled_id v.header_id n)
      → ChecksBy v id is_sound failures l (record { verdict = Ok (NotSound k); validator = w }) m
  by_unsound {l = l} {m = m} {k = k} e p settles =
      judges_unsound (judged e) (subst (λ (t : List ℕ). Writes t l (Ok k) m) (text_is e) p) (settled settles)

  pub by_too_short : {l m : List ℕ} {e : TooShort} → b ≡ false → Writes (failures criteria) l (Err e) m
      → ChecksBy v id is_sound failures l (record { verdict = Err e; validator = v }) m
  by_too_short {l} {m} {e} unsound p = judges_too_short (subst (λ (t : List ℕ). Writes t l (Err e) m) (text_is unsound) p)
