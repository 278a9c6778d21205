-- Laws of the reply to a name for a filter: its settings mean the filter by the stave named, and all else as it was.
use Rattle.std.specs.Prelude.{ℕ, ◌≡◌, refl}
use Rattle.basis.specs.Refusals.{Answer, gives, refuses}
use Rattle.filter_names.specs.StaveSetting.{stave_set}
use Rattle.scan_cdp.specs.declared.Settings.{Settings}
use Rattle.doors_scan_structs.specs.Plain.{settings_of}
use Rattle.doors_scan_structs.specs.declared.PlainSettings.{PlainSettings}
use Rattle.doors_filter.specs.Replies.{plain_stave_set}

-- The settings with what the answer to a name makes of their filters.
abbrev pub filter_set : Answer ℕ → Settings → Settings
filter_set a s = record { filter = stave_set a s.filter; skip_payload = s.skip_payload; stats = s.stats }

-- what the settings mean is what they meant, with the filters that `filter_names` makes of them
pub set_means : (a : Answer ℕ) (n : PlainSettings) → settings_of (plain_stave_set a n).settings ≡ filter_set a (settings_of n)
set_means (gives id) n = refl
set_means (refuses number values) n = refl
