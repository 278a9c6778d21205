-- What the listing program starts with.
use Rattle.std.specs.Prelude.{true, false, None}
use Rattle.validators.specs.declared.HeaderId.TheVariants.{NotSettled}
use Rattle.validators.specs.declared.RdhCruSanityValidator.{RdhCruSanityValidator}
use Rattle.scan_cdp.specs.declared.Settings.{Settings}

-- The listing program's settings: no filter, the payload is read, statistics are on (P1).
abbrev pub list_settings : Settings
list_settings =
    record {
      filter = record { filter_link = None; filter_fee = None; filter_its_stave = None };
      skip_payload = false;
      stats = true;
    }

-- A validator with no version and no ITS, which has settled nothing (P1).
abbrev pub new_validator : RdhCruSanityValidator
new_validator = record { header_id = NotSettled; its = false }
