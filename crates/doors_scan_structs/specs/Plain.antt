-- The settings and the state of a scan, from and to structs that C has too.
use Rattle.std.specs.Prelude.{ℕ, Bool, List, Option}
use Rattle.std.specs.Bool.{then_some}
use Rattle.std.specs.Option.{is_some, unwrap_or}
use Rattle.scan_cdp.specs.declared.Position.{Position}
use Rattle.scan_cdp.specs.declared.Progress.{Progress}
use Rattle.scan_cdp.specs.declared.Settings.{Settings}
use Rattle.scan_cdp.specs.declared.State.{State}
use Rattle.doors_scan_structs.specs.declared.PlainSettings.{PlainSettings}
use Rattle.doors_scan_structs.specs.declared.PlainState.{PlainState}

-- The settings that C's struct means. The number of a filter that is not set means nothing.
abbrev pub settings_of : PlainSettings → Settings
settings_of n =
    record {
      filter = record {
        filter_link = then_some n.by_link n.link;
        filter_fee = then_some n.by_fee n.fee;
        filter_its_stave = then_some n.by_stave n.stave;
      };
      skip_payload = n.skip_payload;
      stats = n.stats;
    }

-- The open load, if one is, by the position that it started from.
abbrev pub open_load : Bool → ℕ → Option Position
open_load opened start = then_some opened (record { 0 = start })

-- The state that C's struct means, all but the links and the trigger counts.
abbrev pub progress_of : PlainState → Progress
progress_of n =
    record {
      place = record { 0 = n.place };
      position = record { 0 = n.position };
      load = open_load n.load_open n.load_start;
      counts = record { seen = n.seen; filtered = n.filtered; payload = n.payload };
      links_used = n.links_used;
      fee_ids_used = n.fee_ids_used;
    }

-- The state that C's struct means with the links and the trigger counts beside it.
abbrev pub state_of : PlainState → (links triggers : List ℕ) → State
state_of n links triggers = record { progress = progress_of n; links = links; triggers = triggers }

-- The position that the load started from, or 0.
abbrev pub start_or0 : Option Position → ℕ
start_or0 load = (unwrap_or load (record { 0 = 0 })).0

-- C's struct for a state, all but the links and the trigger counts.
abbrev pub plain_state : Progress → PlainState
plain_state p =
    record {
      place = p.place.0;
      position = p.position.0;
      load_start = start_or0 p.load;
      links_used = p.links_used;
      fee_ids_used = p.fee_ids_used;
      seen = p.counts.seen;
      filtered = p.counts.filtered;
      payload = p.counts.payload;
      load_open = is_some p.load;
    }
