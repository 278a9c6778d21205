-- What C is answered to the name of a stave for a filter.
use Rattle.std.specs.Prelude.{ℕ, true}
use Rattle.basis.specs.Refusals.{Answer, gives, refuses}
use Rattle.doors_scan_structs.specs.declared.PlainSettings.{PlainSettings}
use Rattle.doors_filter.specs.declared.PlainStaveSet.{PlainStaveSet}

-- The settings with this stave for a filter.
abbrev pub with_stave : ℕ → PlainSettings → PlainSettings
with_stave id n =
    record {
      by_link = n.by_link;
      by_fee = n.by_fee;
      by_stave = true;
      link = n.link;
      fee = n.fee;
      stave = id;
      skip_payload = n.skip_payload;
      stats = n.stats;
    }

-- The settings with the stave of a name for a filter, or the refusal's number with the settings as they were.
abbrev pub plain_stave_set : Answer ℕ → PlainSettings → PlainStaveSet
plain_stave_set (gives id) n = record { settings = with_stave id n; refusal = 0 }
plain_stave_set (refuses number values) n = record { settings = n; refusal = number }
