-- Parts of a slice as lists.
use mathlib.Core.Path.{◌≡◌}
use mathlib.Core.List.{List}
use Prim.Native.Nat.{ℕ, ◌-◌}
use native.Mathlib.Omega.{arith}
use lib.ListN.{length, take, drop, length-drop}
use lib.Seq.{take_all}

-- What `&s[a..e]` lends.
abbrev pub part : ℕ → ℕ → List ℕ → List ℕ
part a e s = take (e - a) (drop a s)

pub to_end : (a : ℕ) (s : List ℕ) → part a (length s) s ≡ drop a s
to_end a s = take_all (length s - a) (drop a s) (omega (arith, length-drop a s))
