-- Proof that the definitions agree with the starred cases: most of them compute.
use Rattle.std.specs.Prelude.{refl, drop}
use Rattle.basis.specs.Bytes.{bytes_of, little, number_at}
use Rattle.filter.specs.FilterLaws.{other_uplink_taken}
use Rattle.its_names.specs.StaveNameLaws.{l9_70_refused}
use Rattle.serde_rdh.specs.Layout.{decoded, header, span}
use Rattle.sanity.specs.Tests.{all_tests, any_fails, cru_tests, fee_id_tests, rdh0_tests, rdh1_tests, rdh2_tests, rdh3_tests, sound}
use Rattle.scan_cdp.specs.Steps.{cut, entry_of, payload_of, step, outcome_in, unusable}
use Rattle.scan_cdp.specs.Outcomes.{filtered, outcome_of}
use Rattle.stats.specs.Lists.{full, member, twice}
use Rattle.validators.specs.Verdict.{sound_to}
use Rattle.demand3.specs.MarkedCases.{marked, sample}
use Rattle.demand3.specs.MarkedCasesClaims.{AllAgree, ◌then◌}

-- the last two: a stave filter, and a name (E6, E7)
filter_and_name : AllAgree (drop 11 marked)
unfolding marked
filter_and_name = (other_uplink_taken, (l9_70_refused, tt))

pub marked_agree : AllAgree marked
unfolding marked sample bytes_of number_at little decoded header span step unusable entry_of outcome_in outcome_of filtered full member twice payload_of cut sound_to sound all_tests fee_id_tests rdh0_tests rdh1_tests rdh2_tests rdh3_tests cru_tests any_fails
marked_agree =
    refl then refl then refl then refl
    then refl then refl then refl then refl then refl
    then (refl, refl) then refl
    then filter_and_name
