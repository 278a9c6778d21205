-- The scan that calls are made on, with the links, trigger counts and FEE ids that are lent to it (W1).
use Rattle.std.specs.Prelude.{◌≡◌, length}
use Rattle.scan_cdp.specs.Steps.{with_lent}
use Rattle.scan_cdp.specs.declared.Scan.{Scan}
use Rattle.scan_cdp.specs.declared.State.{State}

-- The state that a scan is in. Its list of FEE ids is `scan.fee_ids.now`.
abbrev pub state_of : Scan → State
state_of scan = with_lent scan.progress scan.links.now scan.triggers.now

-- A scan that goes on as the same one: with its settings, and with the very links, trigger counts and FEE ids that were lent to it. The lists
-- keep their lengths; how many trigger counts there are is in their type.
pub record SameScan (before after : Scan) : Type 0 where
  pub set : after.set ≡ before.set
  pub links : after.links.ghost_name ≡ before.links.ghost_name
  pub triggers : after.triggers.ghost_name ≡ before.triggers.ghost_name
  pub fee_ids : after.fee_ids.ghost_name ≡ before.fee_ids.ghost_name
  pub links_length : length after.links.now ≡ length before.links.now
  pub fee_ids_length : length after.fee_ids.now ≡ length before.fee_ids.now
