-- What an examination replies, with the scan that it leaves, and the replies that find no header.
use Rattle.std.specs.Prelude.{ℕ, Bool, Option, Result}
use Rattle.basis.specs.Pick.{pick}
use Rattle.basis.specs.Refusals.{gives}
use Rattle.scan_cdp.specs.Answers.{examined_answer, wants}
use Rattle.scan_cdp.specs.Scans.{state_of}
use Rattle.scan_cdp.specs.Steps.{Entry, ended, no_marks, unchanged}
use Rattle.scan_cdp.specs.declared.LoadCdp.{LoadCdp}
use Rattle.scan_cdp.specs.declared.Part.{Part}
use Rattle.scan_cdp.specs.declared.Refusal.{Refusal}
use Rattle.scan_cdp.specs.declared.Scan.{Scan}
use Rattle.scan_replies.specs.declared.Examination.{Examination}

-- An examination's reply, with the state and the FEE ids that it leaves in the scan (W8).
abbrev pub examination_of : Examination → Scan → Entry Part
examination_of r scan =
    record { answer = examined_answer r.answer; marks = r.marks; state = state_of scan; fee_ids = scan.fee_ids.now }

-- A reply that marks nothing.
abbrev pub unmarked : Result (Option LoadCdp) Refusal → Examination
unmarked answer = record { answer = answer; marks = no_marks }

-- The entry where there are fewer than 64 bytes at the scan's byte place.
abbrev pub lacking : Scan → ℕ → Bool → Entry Part
lacking scan end last =
    pick last (ended (state_of scan) scan.fee_ids.now end)
    (unchanged (state_of scan) scan.fee_ids.now (gives (wants scan.progress.place 64)))
