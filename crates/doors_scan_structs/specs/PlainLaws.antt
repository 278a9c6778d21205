-- Settings and states come back as they went, and all zeros are a beginning.
use Rattle.std.specs.Prelude.{ℕ, Bool, true, false, ◌≡◌, refl, replicate, Option, None, Some}
use Rattle.std.specs.Bool.{then_some}
use Rattle.std.specs.Option.{is_some, unwrap_or}
use Rattle.std.proofs.Common.{true≢false, sym}
use Rattle.scan_cdp.specs.Steps.{new_state}
use Rattle.scan_cdp.specs.declared.Position.{Position}
use Rattle.scan_cdp.specs.declared.Progress.{Progress}
use Rattle.scan_cdp.specs.declared.Settings.{Settings}
use Rattle.scan_cdp.specs.declared.State.{State}
use Rattle.doors_scan_structs.specs.Plain.{open_load, plain_state, progress_of, settings_of, start_or0, state_of}
use Rattle.doors_scan_structs.specs.declared.PlainSettings.{PlainSettings}
use Rattle.doors_scan_structs.specs.declared.PlainState.{PlainState}

-- What is there or not comes back, whatever stands for nothing.
pub given_again : {T : Type 0} (o : Option T) (nothing : T) → then_some (is_some o) (unwrap_or o nothing) ≡ o
given_again None nothing = refl
given_again (Some x) nothing = refl

-- ---- the state

-- The state that a call leaves is the one that the next call finds: all but the links and the trigger counts ..
pub progress_again : (p : Progress) → progress_of (plain_state p) ≡ p
progress_again p =
    λ i. record {
      place = p.place;
      position = p.position;
      load = given_again p.load (record { 0 = 0 }) i;
      counts = p.counts;
      links_used = p.links_used;
      fee_ids_used = p.fee_ids_used;
    }

-- .. and with them.
pub state_again : (s : State) → state_of (plain_state s.progress) s.links s.triggers ≡ s
state_again s = λ i. record { progress = progress_again s.progress i; links = s.links; triggers = s.triggers }

-- The start of no load is 0.
abbrev pub ClosedAt0 : PlainState → Type 0
ClosedAt0 n = n.load_open ≡ false → n.load_start ≡ 0

open_again : (opened : Bool) (start : ℕ) → is_some (open_load opened start) ≡ opened
open_again true start = refl
open_again false start = refl

start_again : (opened : Bool) (start : ℕ) → (opened ≡ false → start ≡ 0) → start_or0 (open_load opened start) ≡ start
start_again true start closed = refl
start_again false start closed = sym (closed refl)

-- So is C's struct, if the start of no load is 0 in it ..
pub plain_again : (n : PlainState) → ClosedAt0 n → plain_state (progress_of n) ≡ n
plain_again n closed =
    λ i. record {
      place = n.place;
      position = n.position;
      load_start = start_again n.load_open n.load_start closed i;
      links_used = n.links_used;
      fee_ids_used = n.fee_ids_used;
      seen = n.seen;
      filtered = n.filtered;
      payload = n.payload;
      load_open = open_again n.load_open n.load_start i;
    }

load_closed_at_0 : (l : Option Position) → is_some l ≡ false → start_or0 l ≡ 0
load_closed_at_0 None e = refl
load_closed_at_0 (Some start) e = absurd (true≢false e)

-- .. as it is whenever a call leaves it.
pub closed_at_0 : (p : Progress) → ClosedAt0 (plain_state p)
closed_at_0 p e = load_closed_at_0 p.load e

-- The struct that is all zeros.
abbrev pub zero_state : PlainState
zero_state =
    record {
      place = 0;
      position = 0;
      load_start = 0;
      links_used = 0;
      fee_ids_used = 0;
      seen = 0;
      filtered = 0;
      payload = 0;
      load_open = false;
    }

-- With 256 links of 0 and 20 trigger counts of 0 it is the state of a scan that has not begun.
pub zeros_begin : state_of zero_state (replicate 256 0) (replicate 20 0) ≡ new_state
zeros_begin = refl

-- ---- the settings

-- C's struct for settings.
abbrev pub plain_settings : Settings → PlainSettings
plain_settings s =
    let filter = s.filter in
    record {
      by_link = is_some filter.filter_link;
      by_fee = is_some filter.filter_fee;
      by_stave = is_some filter.filter_its_stave;
      link = unwrap_or filter.filter_link 0;
      fee = unwrap_or filter.filter_fee 0;
      stave = unwrap_or filter.filter_its_stave 0;
      skip_payload = s.skip_payload;
      stats = s.stats;
    }

-- Whatever a scan can be asked for, C can ask for.
pub settings_again : (s : Settings) → settings_of (plain_settings s) ≡ s
settings_again s =
    let filter = s.filter in
    λ i. record {
      filter = record {
        filter_link = given_again filter.filter_link 0 i;
        filter_fee = given_again filter.filter_fee 0 i;
        filter_its_stave = given_again filter.filter_its_stave 0 i;
      };
      skip_payload = s.skip_payload;
      stats = s.stats;
    }

-- ---- what is there or not, of each kind

load_again : (l : Option Position) → open_load (is_some l) (start_or0 l) ≡ l
load_again l = given_again l (record { 0 = 0 })

option8_again : (o : Option ℕ) → then_some (is_some o) (unwrap_or o 0) ≡ o
option8_again o = given_again o 0

option16_again : (o : Option ℕ) → then_some (is_some o) (unwrap_or o 0) ≡ o
option16_again o = given_again o 0
