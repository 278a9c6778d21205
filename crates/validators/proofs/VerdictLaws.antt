-- Laws of a verdict: the text is empty for sound headers and no others, and 512 bytes hold it; and what a check is for sound headers, and for
-- headers whose text fits or does not fit the buffer.
use Rattle.std.specs.Prelude.{ℕ, ◌≤◌, ◌<◌, Bool, true, false, not, ◌≡◌, refl, List, [], length, ◌↔◌, Ok, Err}
use Rattle.std.proofs.Math.Path.{ap, sym}
use Rattle.std.proofs.Common.{◌∙◌, arith, length-append}
use Rattle.basis.specs.PickLaws.{on, off}
use Rattle.rdh.specs.declared.rdh_cru.RdhCru.{RdhCru}
use Rattle.serde_rdh.specs.Layout.{InRange}
use Rattle.sanity.specs.declared.Criteria.{Criteria}
use Rattle.sanity.specs.Tests.{all_tests, any_fails, failure_text, sound, text_of_verdict}
use Rattle.text.specs.Put.{Put}
use Rattle.validators.specs.declared.RdhCruSanityValidator.{RdhCruSanityValidator}
use Rattle.validators.specs.declared.SanityCheck.{SanityCheck}
use Rattle.validators.specs.declared.Verdict.TheVariants.{Sound, NotSound}
use Rattle.validators.specs.Verdict.{Checks, Judges, answered, criteria_of, settled_by, sound_to, text_of, validator_after}
use Rattle.validators.proofs.JudgesLaws.{judges_longer, judges_put, judges_sound}
use Rattle.validators.proofs.TextLengthsLaws.{longest_text}

-- the text of a sound header is empty, and of another the one that names its failures
pub sound_text : (criteria : Criteria) (h : RdhCru) → sound criteria h ≡ true → text_of_verdict criteria h ≡ []
unfolding text_of_verdict
sound_text criteria h e = on _ _ e

pub unsound_text : (criteria : Criteria) (h : RdhCru) → sound criteria h ≡ false
    → text_of_verdict criteria h ≡ failure_text criteria h
unfolding text_of_verdict
unsound_text criteria h e = off _ _ e

-- a text that names failures is not empty
some_text : (criteria : Criteria) (h : RdhCru) → 0 < length (failure_text criteria h)
unfolding failure_text
some_text criteria h = simp length-append (omega arith)

-- a header is sound exactly when its text is empty
pub sound_empty : (criteria : Criteria) (h : RdhCru) → (sound criteria h ≡ true) ↔ (text_of_verdict criteria h ≡ [])
sound_empty criteria h = (sound_text criteria h, λ e. go (sound criteria h) refl e)
  where
    go : (b : Bool) → sound criteria h ≡ b → text_of_verdict criteria h ≡ [] → sound criteria h ≡ true
    go true is e = is
    go false is e =
        absurd (omega (arith, some_text criteria h, ap length (sym (unsound_text criteria h is) ∙ e)))

-- 512 bytes are always enough (V6)
pub suffice : (criteria : Criteria) (h : RdhCru) → criteria.header_id < 256 → InRange h → length (text_of_verdict criteria h) ≤ 512
suffice criteria h small fits = go (sound criteria h) refl
  where
    go : (b : Bool) → sound criteria h ≡ b → length (text_of_verdict criteria h) ≤ 512
    go true is = omega (arith, ap length (sound_text criteria h is))
    go false is = omega (arith, ap length (unsound_text criteria h is), longest_text h fits criteria small)

module _ (v : RdhCruSanityValidator) (h : RdhCru) (l : List ℕ) where
  -- a check that judges by the header's verdict and text
  checks : (r : SanityCheck) (m : List ℕ) → Judges _ (sound_to v h) (text_of v h) (settled_by v h) v l r.verdict r.validator m → Checks v h l r m
  unfolding answered validator_after
  checks r m j = record { verdict = j.verdict; validator = j.validator; leaves = j.leaves }

  pub checks_sound : (w : RdhCruSanityValidator) → w ≡ settled_by v h → sound_to v h ≡ true
      → Checks v h l (record { verdict = Ok Sound; validator = w }) l
  unfolding sound_to text_of
  checks_sound w settles e = checks _ l (judges_sound e (sound_text _ _ e) settles)

  pub checks_unsound : {m : List ℕ} {n : ℕ} (w : RdhCruSanityValidator) → w ≡ settled_by v h → sound_to v h ≡ false
      → length (text_of v h) ≤ length l → Put l 0 (text_of v h) m n → Checks v h l (record { verdict = Ok (NotSound n); validator = w }) m
  checks_unsound w settles e fits p = checks _ _ (judges_put e fits p settles)

  pub checks_too_short : {need : ℕ} → need ≡ length (text_of v h) → length l < need
      → Checks v h l (record { verdict = Err (record { needed = need }); validator = v }) l
  checks_too_short is short = checks _ l (judges_longer is short)

module _ (v : RdhCruSanityValidator) (h : RdhCru) (criteria : Criteria) (its_own : criteria ≡ criteria_of v h) where
  -- a header is sound where no test fails
  pub judged : {fails b : Bool} → fails ≡ any_fails (all_tests criteria h) → not fails ≡ b → sound_to v h ≡ b
  unfolding sound_to sound
  judged is e = sym (ap not is ∙ ap (λ (k : Criteria). not (any_fails (all_tests k h))) its_own) ∙ e

  -- and otherwise its text names the failures
  pub named : sound_to v h ≡ false → failure_text criteria h ≡ text_of v h
  unfolding sound_to text_of
  named e = ap (λ (k : Criteria). failure_text k h) its_own ∙ sym (unsound_text _ _ e)
