-- How far a header moves the byte place and the position, wherever they are.
use Rattle.std.specs.Prelude.{ℕ, ◌+◌, Bool, ◌≡◌}
use Rattle.rdh.specs.declared.rdh_cru.RdhCru.{RdhCru}
use Rattle.scan_cdp.specs.Steps.{place_after, position_after}
use Rattle.scan_cdp.specs.declared.Outcome.{Outcome}

-- The byte place moves on by n, in a recording that ends `left` bytes behind it.
abbrev pub PlaceMoves : (skip : Bool) → Outcome → RdhCru → (left n : ℕ) → Type 0
PlaceMoves skip t h left n = (place : ℕ) → place + n ≡ place_after skip t h place left (place + left)

-- The position moves on by n.
abbrev pub PositionMoves : Outcome → RdhCru → ℕ → Type 0
PositionMoves t h n = (position : ℕ) → position + n ≡ position_after t h position
