-- FEE ids that are made, FEE ids of one stave, and which staves there are (N2, N3, N6).
use Rattle.std.specs.Prelude.{ℕ, ◌+◌, ◌*◌, ◌%◌, ◌^◌, Bool, eqb}
use Rattle.std.specs.Int.Bits.{bit_and}

-- The highest layer that there is, and the highest stave of a layer: for names (N6) and for the verdict (V4).
abbrev pub highest_layer : ℕ
highest_layer = 6

abbrev pub highest_stave : ℕ
highest_stave = 47

-- The FEE id of a stave at uplink 0: the layer at bit 12, the stave at bit 0 (N1).
abbrev pub stave_fee_id : ℕ → ℕ → ℕ
stave_fee_id layer stave = layer * 2 ^ 12 + stave

-- The FEE id of any layer and stave, folded to 3 and 6 bits (N2).
abbrev pub fee_id_of : ℕ → ℕ → ℕ
fee_id_of layer stave = stave_fee_id (layer % 8) (stave % 64)

-- The bits of the layer and of the stave.
abbrev pub layer_stave_mask : ℕ
layer_stave_mask = 0x703F

-- Whether two FEE ids are of one stave (N3).
unfoldable pub same_stave : ℕ → ℕ → Bool
same_stave a b = eqb (bit_and a layer_stave_mask) (bit_and b layer_stave_mask)
