-- A field of a number, named by its lowest and its highest bit, as the rules name parts of a header (B3, N1).
use Rattle.std.specs.Prelude.{ℕ, ◌+◌, ◌-◌, ◌/◌, ◌%◌, ◌^◌}

abbrev pub bits : ℕ → ℕ → ℕ → ℕ
bits lowest highest n = n / 2 ^ lowest % 2 ^ (highest + 1 - lowest)
