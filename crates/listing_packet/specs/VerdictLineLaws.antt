-- What a check tells that has room for any text, and why.
use Rattle.std.specs.Prelude.{ℕ, ◌≤◌, ◌<◌, Bool, true, false, length, drop, Result, Ok, Err}
use Rattle.std.proofs.Math.Path.{◌≡◌, ap, sym}
use Rattle.std.proofs.Common.{◌∙◌, le-leb}
use mathlib.Core.List.{List}
use native.Mathlib.Omega.{arith}
use Rattle.std.proofs.Math.ListN.{take}
use Rattle.std.proofs.Math.Seq.{take-append_seam}
use Rattle.basis.specs.PickLaws.{on}
use Rattle.basis.specs.Refusals.{Answer, gives, refuses}
use Rattle.rdh.specs.declared.rdh_cru.RdhCru.{RdhCru}
use Rattle.serde_rdh.specs.Layout.{InRange}
use Rattle.text.specs.Written.{overwritten}
use Rattle.text.specs.declared.TooShort.{TooShort}
use Rattle.validators.specs.Verdict.{Judged, verdict_answer, answered, expected_id, settled_by, sound_to, text_of, validator_after}
use Rattle.validators.proofs.VerdictLaws.{suffice}
use Rattle.validators.specs.declared.RdhCruSanityValidator.{RdhCruSanityValidator}
use Rattle.validators.specs.declared.Verdict.{Verdict}
use Rattle.validators.specs.declared.Verdict.TheVariants.{Sound, NotSound}

-- the verdict that an answer has, and the length of its text
abbrev sound_in : Answer Judged → Bool
sound_in (gives j) = j.is_sound
sound_in (refuses number values) = false

abbrev length_in : Answer Judged → ℕ
length_in (gives j) = j.text_length
length_in (refuses number values) = 0

abbrev refusal_in : Answer Judged → ℕ
refusal_in (gives j) = 0
refusal_in (refuses number values) = number

-- What a check with a buffer of 512 bytes tells, by its verdict: `r` is its reply, `after` the validator then, and `m` what is left in the
-- buffer. Such a buffer is never too short.
pub record Told (v : RdhCruSanityValidator) (h : RdhCru) (r : Result Verdict TooShort) (after : RdhCruSanityValidator) (m : List ℕ) : Type 0 where
  pub validator : after ≡ settled_by v h
  pub sound : r ≡ Ok Sound → sound_to v h ≡ true
  pub flawed : (n : ℕ) → r ≡ Ok (NotSound n) → (sound_to v h ≡ false) × (take n m ≡ text_of v h) × (n ≤ 512)
  pub never_short : (e : TooShort) → r ≡ Err e → ⊥
  pub fits : length (text_of v h) ≤ 512

module _ (v : RdhCruSanityValidator) (h : RdhCru) (small : expected_id v.header_id h.rdh0.header_id < 256) (fits : InRange h) where
  -- 512 bytes are always enough for a verdict's text (V6)
  pub text_fits : length (text_of v h) ≤ 512
  unfolding text_of
  text_fits = suffice _ h small fits

  module _ (l : List ℕ) (room : length l ≡ 512) (r : Result Verdict TooShort) (after : RdhCruSanityValidator) (m : List ℕ)
      (verdict : verdict_answer r ≡ answered v h (length l)) (kept : after ≡ validator_after v h (length l))
      (leaves : m ≡ overwritten (text_of v h) l) where
    enough : length (text_of v h) ≤ length l
    enough = omega (arith, text_fits, room)

    judged : verdict_answer r ≡ gives (record { is_sound = sound_to v h; text_length = length (text_of v h) })
    unfolding answered
    judged = verdict ∙ on _ _ (le-leb _ _ enough)

    -- the header is checked, and its ID may be settled
    checked : after ≡ settled_by v h
    unfolding validator_after
    checked = kept ∙ on _ _ (le-leb _ _ enough)

    -- a sound header is told to be one
    sound_told : r ≡ Ok Sound → sound_to v h ≡ true
    sound_told is = sym (ap sound_in judged) ∙ ap (λ (x : Result Verdict TooShort). sound_in (verdict_answer x)) is

    -- one that is not sound is told to be none, and its text stands at the buffer's start
    flawed_told : (n : ℕ) → r ≡ Ok (NotSound n) → sound_to v h ≡ false
    flawed_told n is = sym (ap sound_in judged) ∙ ap (λ (x : Result Verdict TooShort). sound_in (verdict_answer x)) is

    flawed_length : (n : ℕ) → r ≡ Ok (NotSound n) → n ≡ length (text_of v h)
    flawed_length n is = sym (ap (λ (x : Result Verdict TooShort). length_in (verdict_answer x)) is) ∙ ap length_in judged

    text_there : (n : ℕ) → n ≡ length (text_of v h) → take n m ≡ text_of v h
    unfolding overwritten
    text_there n is =
        ap (λ (k : ℕ). take k m) is
        ∙ ap (λ (t : List ℕ). take (length (text_of v h)) t) (leaves ∙ on _ _ (le-leb _ _ enough))
        ∙ take-append_seam (text_of v h) (drop (length (text_of v h)) l)

    -- a buffer of 512 bytes is never too short
    never_short : (e : TooShort) → r ≡ Err e → ⊥
    never_short e is =
        let seven : ◌≡◌ {A = ℕ} 7 0 = sym (ap (λ (x : Result Verdict TooShort). refusal_in (verdict_answer x)) is) ∙ ap refusal_in judged in
        omega arith

    pub told : Told v h r after m
    told =
        record {
          validator = checked;
          sound = sound_told;
          flawed = λ n is. (flawed_told n is, text_there n (flawed_length n is), omega (arith, flawed_length n is, text_fits));
          never_short = never_short;
          fits = text_fits;
        }
