-- A law of any reply that changes nothing, however it was made.
use Rattle.std.specs.Prelude.{◌≡◌}
use Rattle.basis.specs.Refusals.{Answer}
use Rattle.scan_cdp.specs.Answers.{Found, examined_answer}
use Rattle.scan_cdp.specs.Scans.{state_of}
use Rattle.scan_cdp.specs.Steps.{no_marks, unchanged}
use Rattle.scan_cdp.specs.declared.Part.{Part}
use Rattle.scan_cdp.specs.declared.Scan.{Scan}
use Rattle.scan_replies.specs.Examinations.{examination_of}
use Rattle.scan_replies.specs.declared.Examination.{Examination}

-- A reply that changes nothing.
pub record Unchanged (before : Scan) (a : Answer (Found Part)) (r : Examination) (after : Scan) : Type 0 where
  pub answer : examined_answer r.answer ≡ a
  pub marks : r.marks ≡ no_marks
  pub same : after ≡ before

-- With the state and the FEE ids of the scan as they were, it is a call that changes nothing.
pub nothing_changed : {before after : Scan} {a : Answer (Found Part)} {r : Examination} → Unchanged before a r after
    → examination_of r after ≡ unchanged (state_of before) before.fee_ids.now a
nothing_changed u = λ i. record { answer = u.answer i; marks = u.marks i; state = state_of (u.same i); fee_ids = (u.same i).fee_ids.now }
