-- Laws of the reply to a check: it tells the answer, and the validator for the next header.
use Rattle.std.specs.Prelude.{ℕ, [], ◌∷◌, ◌≡◌, refl, leb, pos}
use Rattle.std.proofs.Common.{ap, ◌∙◌}
use Rattle.std.proofs.Math.ListN.{length}
use Rattle.basis.specs.PickLaws.{by_test}
use Rattle.basis.specs.Refusals.{Answer, gives, refuses}
use Rattle.rdh.specs.declared.rdh_cru.RdhCru.{RdhCru}
use Rattle.validators.specs.Verdict.{Judged, answered, sound_to, text_of, validator_after}
use Rattle.validators.specs.declared.RdhCruSanityValidator.{RdhCruSanityValidator}
use Rattle.doors_verdict.specs.Plain.{plain_validator, validator_of}
use Rattle.doors_verdict.specs.PlainLaws.{validator_again}
use Rattle.doors_verdict.specs.Replies.{checked, checked_of, plain_checked}

module _ (v : RdhCruSanityValidator) (h : RdhCru) (room : ℕ) where
  pub answer_again : checked_of (checked v h room) ≡ answered v h room
  unfolding answered
  answer_again =
      by_test (λ (a : Answer Judged). checked_of (plain_checked a (validator_after v h room)) ≡ a) (leb (length (text_of v h)) room)
      (gives (record { is_sound = sound_to v h; text_length = length (text_of v h) })) (refuses 7 (pos (length (text_of v h)) ∷ []))
      (λ _. refl) (λ _. refl)

  pub validator_left : validator_of (checked v h room).validator ≡ validator_after v h room
  validator_left = ap validator_of (kept (answered v h room)) ∙ validator_again (validator_after v h room)
    where
      kept : (a : Answer Judged) → (plain_checked a (validator_after v h room)).validator ≡ plain_validator (validator_after v h room)
      kept (gives j) = refl
      kept (refuses number values) = refl
