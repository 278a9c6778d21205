-- A link listed twice is refusal 6; otherwise it is the step.
use Rattle.std.proofs.Common.{Bool, ◌||◌, length, ap, sym, ◌∙◌}
use Rattle.scan_cdp.specs.Scans.{state_of}
use Rattle.scan_cdp.specs.Windows.{outside}
use Rattle.scan_laws.proofs.WindowLaws.{refused_6}
use Rattle.scan_replies.specs.Examinations.{examination_of}
use Rattle.scan_replies.specs.declared.Examination.{Examination}
use Rattle.scan_window.specs.UnusableLaws.{once_examined, twice-unusable}
use Rattle.input_scanner.proofs.examine.Goals as goal

pub returns-then-lists_link_twice-clause-examined : goal.returns-then-lists_link_twice-clause-examined
returns-then-lists_link_twice-clause-examined c =
    let scan = c.args.scan.now in
    let window = c.args.window in
    let w = window.bytes.now in
    let six = twice-unusable (state_of scan) scan.fee_ids.now (sym c.lists_link_twice.ensures ∙ c.if-lists_link_twice.true) in
    ap (λ (r : Examination). examination_of r scan) c.unmarked.ensures
    ∙ sym (refused_6 scan.set (state_of scan) scan.fee_ids.now w window.first.0 window.last
    (ap (λ (b : Bool). b || outside scan.progress.place.0 window.first.0 (length w)) six))

pub returns-clause-examined : goal.returns-clause-examined
returns-clause-examined c =
    let scan = c.args.scan.now in
    let window = c.args.window in
    c.take_step.ensures.examined
    ∙ once_examined scan.set scan.progress scan.links.now scan.triggers.now scan.fee_ids.now window.bytes.now window.first.0 window.last
    (sym c.lists_link_twice.ensures ∙ c.if-lists_link_twice.false)
