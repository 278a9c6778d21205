-- The statement that the definitions agree with the list of starred cases (D3.8).
use Rattle.std.specs.Prelude.{ℕ, false, ◌≡◌, List, [], ◌∷◌}
use Rattle.filter.specs.Filter.{matches}
use Rattle.filter.specs.declared.FilterTarget.TheVariants.{ItsLayerStave}
use Rattle.its_names.specs.StaveNames.{named_fee}
use Rattle.rdh.specs.Subfields.{layer_of, stave_of}
use Rattle.serde_rdh.specs.Layout.{decoded}
use Rattle.scan_cdp.specs.Steps.{new_state, step_in}
use Rattle.validators.specs.Verdict.{sound_to}
use Rattle.validators.specs.declared.HeaderId.TheVariants.{NotSettled}
use Rattle.demand3.specs.MarkedCases.{Case, fee-id, name, offset, plain, sample, soundness, stave_filter}

-- The definitions answer an input with that reply.
abbrev pub Agrees : Case → Type 0
Agrees (offset n reply) = (step_in (sample 0x502A n 0 0x4813) plain new_state (0 ∷ [])).answer ≡ reply
Agrees (soundness fee_id bc trigger reply) =
    sound_to (record { header_id = NotSettled; its = false }) (decoded (sample fee_id 64 bc trigger)) ≡ reply
Agrees (fee-id n layer stave) = (layer_of n ≡ layer) × (stave_of n ≡ stave)
Agrees (stave_filter setting fee_id reply) = (link : ℕ) → matches (ItsLayerStave setting) link fee_id ≡ reply
Agrees (name text reply) = named_fee text ≡ reply

abbrev pub AllAgree : List Case → Type 0
AllAgree [] = Unit {0}
AllAgree (c ∷ cs) = Agrees c × AllAgree cs

-- the proofs of the cases, one after the other
infixr 20 ◌then◌
abbrev pub ◌then◌ : {A B : Type 0} → A → B → A × B
a then b = (a, b)
