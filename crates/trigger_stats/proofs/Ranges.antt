-- The counts that the code holds are numbers of 32 bits: what owning an array of them tells.
use Prim.Native.Nat.{ℕ, zero, suc, ◌^◌, ◌<◌}
use mathlib.Core.List.{List, [], ◌∷◌}
use native.Mathlib.Omega.{arith}
use lib.ListN.{get_or}
use mir.Syntax.{w32}
use mir.Val.{Val}
use borrow.Table.Referent.{f_int, rt_f}
use denote.Array.{Array, each}
use denote.Laws.{Is}
use denote.Shadow.{shadow}
use Rattle.trigger_stats.specs.Counters.{InRange, count, place_of}

-- each element is one
below : (xs : List ℕ) (us : List Val) → shadow (each ℕ (rt_f (f_int w32)).own_val xs us) → (i : ℕ) → get_or xs i 0 < 2 ^ 32
below [] us owned i = omega arith
below (x ∷ xs) [] owned i = absurd owned
below (x ∷ xs) (u ∷ us) owned zero = omega arith
below (x ∷ xs) (u ∷ us) owned (suc i) = below xs us owned.1 i

pub in_range : (counts : List ℕ) (vs : List Val) → Is (Array (rt_f (f_int w32)) 20) counts vs → InRange counts
unfolding count
in_range counts vs is k = below counts is.0 is.1.1 (place_of k)
