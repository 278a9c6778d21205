-- A law of the replies that find no header.
use Rattle.std.specs.Prelude.{◌≡◌, refl, Option, Result}
use Rattle.scan_cdp.specs.Answers.{examined_answer}
use Rattle.scan_cdp.specs.Scans.{state_of}
use Rattle.scan_cdp.specs.Steps.{unchanged}
use Rattle.scan_cdp.specs.declared.LoadCdp.{LoadCdp}
use Rattle.scan_cdp.specs.declared.Refusal.{Refusal}
use Rattle.scan_cdp.specs.declared.Scan.{Scan}
use Rattle.scan_replies.specs.Examinations.{examination_of, unmarked}

-- A reply that marks nothing, with a scan that is as it was, is a call that changes nothing.
pub nothing_changed : (answer : Result (Option LoadCdp) Refusal) (scan : Scan)
    → examination_of (unmarked answer) scan ≡ unchanged (state_of scan) scan.fee_ids.now (examined_answer answer)
nothing_changed answer scan = refl
