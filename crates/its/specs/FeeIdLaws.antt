-- Laws of FEE ids: what is in one that was made, and that two are of one stave exactly where layer and stave are equal.
use Rattle.std.specs.Prelude.{◌≡◌, true, false, ℕ, ◌+◌, ◌*◌, ◌/◌, ◌%◌, ◌^◌, ◌≤◌, eqb}
use Rattle.std.proofs.Common.{ap, ap₂, sym, ◌∙◌, arith, eq-eqb, eqb-true, ne_eqb}
use Rattle.std.specs.Int.Bits.{bit_and}
use Rattle.std.proofs.lemmas.Nat.{and_block, and_mask}
use Rattle.std.proofs.Math.Pow.{split}
use Rattle.rdh.specs.Subfields.{layer_of, stave_of, uplink_of}
use Rattle.its.specs.FeeIds.{fee_id_of, highest_layer, highest_stave, layer_stave_mask, same_stave, stave_fee_id}

pub layer_made : (layer stave : ℕ) → layer_of (fee_id_of layer stave) ≡ layer % 8
layer_made layer stave = omega arith

pub stave_made : (layer stave : ℕ) → stave_of (fee_id_of layer stave) ≡ stave % 64
stave_made layer stave = omega arith

pub uplink_made : (layer stave : ℕ) → uplink_of (fee_id_of layer stave) ≡ 0
uplink_made layer stave = omega arith

-- the same with nothing folded, for the staves that there are
pub layer_kept : (layer stave : ℕ) → layer ≤ highest_layer → stave ≤ highest_stave → layer_of (stave_fee_id layer stave) ≡ layer
layer_kept layer stave l s = omega arith

pub stave_kept : (layer stave : ℕ) → layer ≤ highest_layer → stave ≤ highest_stave → stave_of (stave_fee_id layer stave) ≡ stave
stave_kept layer stave l s = omega arith

pub uplink_kept : (layer stave : ℕ) → layer ≤ highest_layer → stave ≤ highest_stave → uplink_of (stave_fee_id layer stave) ≡ 0
uplink_kept layer stave l s = omega arith

-- Layer and stave where they stand in a FEE id, all other bits 0.
abbrev pub layer_stave : ℕ → ℕ
layer_stave fee = stave_fee_id (layer_of fee) (stave_of fee)

pub made_again : (fee : ℕ) → fee_id_of (layer_of fee) (stave_of fee) ≡ layer_stave fee
made_again fee = omega arith

pub masked : (fee : ℕ) → bit_and fee layer_stave_mask ≡ layer_stave fee
masked fee =
    ap (λ (n : ℕ). bit_and n layer_stave_mask) (sym (split fee 12))
    ∙ and_block 12 (fee / 2 ^ 12) 7 (fee % 2 ^ 12) 63 (omega arith) (omega arith)
    ∙ ap₂ (λ (x y : ℕ). x * 2 ^ 12 + y) (and_mask (fee / 2 ^ 12) 3) (and_mask (fee % 2 ^ 12) 6)
    ∙ omega arith

-- the test without masks: at known numbers it computes
pub same_stave_numbers : (a b : ℕ) → same_stave a b ≡ eqb (layer_stave a) (layer_stave b)
unfolding same_stave
same_stave_numbers a b = ap₂ eqb (masked a) (masked b)

pub same_stave_lem : (a b : ℕ) → layer_of a ≡ layer_of b → stave_of a ≡ stave_of b → same_stave a b ≡ true
same_stave_lem a b layers staves =
    let equal : layer_stave a ≡ layer_stave b = omega arith in
    same_stave_numbers a b ∙ eq-eqb _ _ equal

pub of_one_stave : (a b : ℕ) → same_stave a b ≡ true → (layer_of a ≡ layer_of b) × (stave_of a ≡ stave_of b)
of_one_stave a b same =
    let equal : layer_stave a ≡ layer_stave b = eqb-true _ _ (sym (same_stave_numbers a b) ∙ same) in
    (omega arith, omega arith)

pub other_staves : (a b : ℕ) → (layer_of a ≡ layer_of b → stave_of a ≡ stave_of b → ⊥) → same_stave a b ≡ false
other_staves a b differ =
    same_stave_numbers a b
    ∙ ne_eqb (layer_stave a) (layer_stave b) (λ (equal : layer_stave a ≡ layer_stave b). differ (omega arith) (omega arith))

-- 0x502A and 0x522A, which comes by another uplink, are of one stave (E6); another stave or layer is not
pub other_uplink_taken : same_stave 0x502A 0x522A ≡ true
other_uplink_taken = same_stave_numbers 0x502A 0x522A

pub other_stave_left : same_stave 0x502A 0x502B ≡ false
other_stave_left = same_stave_numbers 0x502A 0x502B

pub other_layer_left : same_stave 0x502A 0x402A ≡ false
other_layer_left = same_stave_numbers 0x502A 0x402A
