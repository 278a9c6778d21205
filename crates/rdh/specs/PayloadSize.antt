-- The size of a packet's payload, which is what its memory size counts behind the header (T2).
use Rattle.std.specs.Prelude.{ℕ, ◌-◌}
use Rattle.rdh.specs.declared.rdh_cru.RdhCru.{RdhCru}

-- It is 0 for a memory size below 64, which no packet has (R3).
abbrev pub payload_size : RdhCru → ℕ
payload_size h = h.memory_size - 64
