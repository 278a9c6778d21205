-- Laws of stave names and the verdict: the FEE id of a name passes the verdict's tests of a FEE id, and a FEE id that passes them is of a
-- stave that has a name.
use Rattle.std.specs.Prelude.{◌≡◌, refl, false, List, ℕ, ◌+◌, ◌*◌, ◌^◌, ◌≤◌}
use Rattle.std.proofs.Common.{ap, ap₂, ◌∙◌, arith, eq-eqb, le-ltb, ltb-false}
use Rattle.std.specs.Int.Bits.{bit_and, and_shifted}
use Rattle.std.proofs.lemmas.Nat.{and_block, and_comm}
use Rattle.basis.specs.PickLaws.{neither}
use Rattle.basis.specs.Refusals.{gives}
use Rattle.rdh.specs.Subfields.{layer_of, stave_of}
use Rattle.its.specs.FeeIds.{highest_layer, highest_stave, stave_fee_id}
use Rattle.its.specs.FeeIdLaws.{layer_kept, stave_kept}
use Rattle.its_names.specs.StaveNames.{named_fee}
use Rattle.its_names.specs.StaveNameLaws.{fee_named}
use Rattle.sanity.specs.Tests.{any_fails, fee_id_tests, layer_test, reserved_bits_test, stave_test}
use Rattle.filter_names.specs.EachNamedLaws.{each_named, name_of}

-- the FEE id of a stave has no reserved bit
no_reserved : (layer stave : ℕ) → layer ≤ highest_layer → stave ≤ highest_stave → bit_and (stave_fee_id layer stave) 0x8CC0 ≡ 0
no_reserved layer stave l s =
    and_block 12 layer 8 stave 0xCC0 (omega arith) (omega arith)
    ∙ ap₂ (λ (x y : ℕ). x * 2 ^ 12 + y)
    (and_comm layer 8 ∙ and_shifted 1 3 layer (omega arith))
    (and_comm stave 0xCC0 ∙ and_shifted 51 6 stave (omega arith))

pub stave_sound : (layer stave : ℕ) → layer ≤ highest_layer → stave ≤ highest_stave → any_fails (fee_id_tests (stave_fee_id layer stave)) ≡ false
unfolding any_fails fee_id_tests
stave_sound layer stave l s =
    rw (
      eq-eqb _ 0 (no_reserved layer stave l s),
      le-ltb highest_stave (stave_of (stave_fee_id layer stave)) (omega (arith, stave_kept layer stave l s)),
      le-ltb highest_layer (layer_of (stave_fee_id layer stave)) (omega (arith, layer_kept layer stave l s)),
    )
    refl

-- what a name stands for passes the tests
pub named_sound : (name : List ℕ) (id : ℕ) → named_fee name ≡ gives id → any_fails (fee_id_tests id) ≡ false
named_sound name id e =
    let found = fee_named name id e in
    let r = found.2 in
    ap (λ (fee : ℕ). any_fails (fee_id_tests fee)) found.3 ∙ stave_sound _ _ r.layer_there r.stave_there

-- what passes them has a layer and a stave that there are
pub sound_there : (fee : ℕ) → any_fails (fee_id_tests fee) ≡ false → (layer_of fee ≤ highest_layer) × (stave_of fee ≤ highest_stave)
unfolding any_fails fee_id_tests
sound_there fee passes =
    let from-stave = (neither (reserved_bits_test (bit_and fee 0x8CC0)).fails _ passes).1 in
    let stave-passes = neither (stave_test (stave_of fee)).fails _ from-stave in
    let layer-passes = neither (layer_test (layer_of fee)).fails false stave-passes.1 in
    (ltb-false highest_layer _ layer-passes.0, ltb-false highest_stave _ stave-passes.0)

-- and so has a name, which stands for its stave
pub sound_named : (fee : ℕ) → any_fails (fee_id_tests fee) ≡ false
    → named_fee (name_of (layer_of fee) (stave_of fee)) ≡ gives (stave_fee_id (layer_of fee) (stave_of fee))
sound_named fee passes = each_named _ _ (sound_there fee passes).0 (sound_there fee passes).1
