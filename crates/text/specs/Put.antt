-- A text put into a lent buffer at a place.
use Rattle.std.specs.Prelude.{ℕ, ◌+◌, ◌-◌, ◌^◌, ◌<◌, min, ◌≡◌, List, length}
use Rattle.std.proofs.lemmas.List.Edits.{sets}

-- The largest `usize`. A place that would lie beyond it stays there: no buffer reaches so far.
abbrev pub last_place : ℕ
last_place = 2 ^ 64 - 1

-- The text `t` was put into the buffer `l` at `i`, which left `m`, and `j` is the place behind it: the bytes of `t` that fit
-- stand in `m` from `i` on, all others are those of `l`, and `j` counts the whole text, whether it fits or not.
pub record Put (l : List ℕ) (i : ℕ) (t m : List ℕ) (j : ℕ) : Type 0 where
  pub room : length l < 2 ^ 64
  pub stored : m ≡ sets l i t
  pub next : j ≡ min (i + length t) last_place
