-- The statement on what a scan skips (S10): behind no header of a chain does it go back, or on by more than 10,000.
use Rattle.std.specs.Prelude.{ℕ, ◌+◌, true, false, ◌||◌, ◌≡◌, List, pos, ◌+ℤ◌}
use Rattle.basis.specs.Each.{Each}
use Rattle.scan_cdp.specs.Loads.{is_passed}
use Rattle.scan_cdp.specs.Outcomes.{offset, skip_distance}
use Rattle.scan_cdp.specs.SkipDistanceClaims.{in_reach}
use Rattle.scan_cdp.specs.declared.Settings.{Settings}
use Rattle.chain.specs.Chain.{Kept, is_refused, left, place_of}
use Rattle.chain.specs.Walk.{Met, walk}

-- The header's distance lies in 0 to 10,000. The position grows by 64 and it, and so does the place unless payload is read (S3, S5).
pub record SkipsAhead (set : Settings) (m : Met) : Type 0 where
  pub reach : in_reach (skip_distance (offset m.header)) ≡ true
  pub position : pos m.entry.state.progress.position.0
      ≡ pos (m.before.state.progress.position.0 + 64) +ℤ skip_distance (offset m.header)
  pub place : (is_passed m.entry.answer || set.skip_payload) ≡ true
      → pos (place_of (left m.entry)) ≡ pos (place_of m.before + 64) +ℤ skip_distance (offset m.header)

-- So it is with each entry of a chain that is passed or handed out.
abbrev pub EachSkipsAhead : Type 0
EachSkipsAhead =
    (recording : List ℕ) (set : Settings) (start : Kept)
    → Each (λ (m : Met). is_refused m.entry.answer ≡ false → SkipsAhead set m) (walk recording set start)
