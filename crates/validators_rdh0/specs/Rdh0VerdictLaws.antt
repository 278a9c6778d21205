-- Laws of a verdict on RDH0: what is sound has no text; RDH0 is sound in every header that is, and settles what the header does.
use Rattle.std.specs.Prelude.{Bool, true, false, not, ◌≡◌, refl, ℕ, List, [], ◌++◌}
use Rattle.std.proofs.Common.{ap, sym, subst, ◌∙◌}
use Rattle.std.proofs.lemmas.Bool.{not-true}
use Rattle.basis.specs.Pick.{pick}
use Rattle.basis.specs.PickLaws.{neither, off}
use Rattle.text.specs.Ascii.{ascii}
use Rattle.rdh.specs.declared.rdh0.Rdh0.{Rdh0}
use Rattle.rdh.specs.declared.rdh_cru.RdhCru.{RdhCru}
use Rattle.sanity.specs.Tests.{Test, all_tests, any_fails, cru_tests, pieces, rdh0_tests, rdh1_tests, rdh2_tests, rdh3_tests, section, sound}
use Rattle.sanity_words.specs.TestsLaws.{any_of_both}
use Rattle.sanity.specs.declared.Criteria.{Criteria}
use Rattle.validators.specs.Verdict as whole
use Rattle.validators.specs.declared.RdhCruSanityValidator.{RdhCruSanityValidator}
use Rattle.validators.specs.declared.SanityCheck.{SanityCheck}
use Rattle.validators_rdh0.specs.Rdh0Verdict.{Checks, criteria_of, settled_by, sound_to, text_of}

-- what the code finds out, as the definition says it
pub judged : (v : RdhCruSanityValidator) (w : Rdh0) (criteria : Criteria) {fails b : Bool} → criteria ≡ criteria_of v w
    → fails ≡ any_fails (rdh0_tests criteria w) → not fails ≡ b → sound_to v w ≡ b
unfolding sound_to
judged v w criteria its_own is e = sym (ap not is ∙ ap (λ (k : Criteria). not (any_fails (rdh0_tests k w))) its_own) ∙ e

pub named : (v : RdhCruSanityValidator) (w : Rdh0) (criteria : Criteria) → criteria ≡ criteria_of v w
    → section "RDH0: " (rdh0_tests criteria w) ≡ text_of v w
unfolding text_of
named v w criteria its_own = ap (λ (k : Criteria). section "RDH0: " (rdh0_tests k w)) its_own

pub sound_text : (v : RdhCruSanityValidator) (w : Rdh0) → sound_to v w ≡ true → text_of v w ≡ []
unfolding sound_to text_of
sound_text v w e = off _ _ (not-true (any_fails (rdh0_tests (criteria_of v w) w)) e)

-- where no test fails the section is empty, so that leaving it out is the same
left_out : (b : Bool) (t : List ℕ) → pick (not b) [] (pick b t []) ≡ pick b t []
left_out true t = refl
left_out false t = refl

-- what a check of anything promises, said of RDH0
pub checks_word : (v : RdhCruSanityValidator) (w : Rdh0) {l m : List ℕ} {r : SanityCheck}
    → whole.ChecksBy v w.header_id (λ criteria. not (any_fails (rdh0_tests criteria w))) (λ criteria. section "RDH0: " (rdh0_tests criteria w)) l r m
    → Checks v w l r m
unfolding settled_by sound_to text_of
checks_word v w {l} {m} {r} j =
    let ts = rdh0_tests (criteria_of v w) w in
    subst (λ (t : List ℕ). whole.Judges RdhCruSanityValidator (not (any_fails ts)) t (settled_by v w) v l r.verdict r.validator m)
    (left_out (any_fails ts) (ascii "RDH0: " ++ pieces ts)) j

-- A header that is sound has an RDH0 that is: the whole check makes these tests and more.
pub sound_in_whole : (v : RdhCruSanityValidator) (h : RdhCru) → whole.sound_to v h ≡ true → sound_to v h.rdh0 ≡ true
unfolding sound_to sound all_tests whole.sound_to
sound_in_whole v h e =
    let first = rdh0_tests (whole.criteria_of v h) h.rdh0 in
    let more = first ++ rdh1_tests h.rdh1 in
    let most = more ++ rdh2_tests h.rdh2 in
    let All-words = most ++ rdh3_tests h.rdh3 in
    ap not (passed first _ (passed more _ (passed most _ (passed All-words (cru_tests h) (not-true _ e)))))
  where
    -- where none of a list fails, none of its first part does
    passed : (ts us : List Test) → any_fails (ts ++ us) ≡ false → any_fails ts ≡ false
    passed ts us none = (neither (any_fails ts) (any_fails us) (sym (any_of_both ts us) ∙ none)).0

-- And what the one settles the other does.
pub settles_alike : (v : RdhCruSanityValidator) (h : RdhCru) → whole.settled_by v h ≡ settled_by v h.rdh0
unfolding settled_by whole.settled_by
settles_alike v h = refl
