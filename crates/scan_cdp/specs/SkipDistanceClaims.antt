-- The statement on the distance to skip (S10): where refusal 2 lets an offset through, it is ahead, and at most 10,000. So no E101 can arise (R5).
use Rattle.std.specs.Prelude.{ℕ, Bool, false, not, ◌≡◌, leb, ℤ, pos, negsuc}
use Rattle.scan_cdp.specs.Outcomes.{bad_offset, skip_distance}

-- Whether a signed distance lies in 0 to 10,000.
abbrev pub in_reach : ℤ → Bool
in_reach (pos n) = leb n 10000
in_reach (negsuc n) = false

-- Refusal 2 lets an offset through exactly if the distance lies there.
abbrev pub PassesInReach : Type 0
PassesInReach = (n : ℕ) → bad_offset n ≡ not (in_reach (skip_distance n))
