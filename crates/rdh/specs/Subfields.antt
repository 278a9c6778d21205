-- The parts of a header's fields that are narrower than a byte or share one (B3, N1, G1).
use Rattle.std.specs.Prelude.{ℕ, Bool, eqb}
use Rattle.basis.specs.Bits.{bits}

-- Stave, layer and uplink of a FEE id (N1).
abbrev pub stave_of : ℕ → ℕ
stave_of fee = bits 0 5 fee

abbrev pub layer_of : ℕ → ℕ
layer_of fee = bits 12 14 fee

abbrev pub uplink_of : ℕ → ℕ
uplink_of fee = bits 8 9 fee

-- CRU id and dw (B3).
abbrev pub cru_id_of : ℕ → ℕ
cru_id_of n = bits 0 11 n

abbrev pub dw_of : ℕ → ℕ
dw_of n = bits 12 15 n

-- BC and its reserved part (B3).
abbrev pub bc_of : ℕ → ℕ
bc_of n = bits 0 11 n

abbrev pub bc_reserved_of : ℕ → ℕ
bc_reserved_of n = bits 12 31 n

-- Data format, the lowest byte of the eight (B3).
abbrev pub data_format_of : ℕ → ℕ
data_format_of n = bits 0 7 n

-- Whether a trigger type has the bit of a physics trigger (G1).
abbrev pub is_pht_trigger_type : ℕ → Bool
is_pht_trigger_type n = eqb (bits 4 4 n) 1
