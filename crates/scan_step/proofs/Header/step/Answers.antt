-- The outcome first; then a want, or the lists with what is new.
use Rattle.std.proofs.Common.{ℕ, ◌+◌, Bool, not, ◌&&◌, sym, ap, ◌∙◌, subst}
use Rattle.scan_cdp.specs.Outcomes.{is_counted}
use Rattle.scan_cdp.specs.Scans.{state_of}
use Rattle.scan_cdp.specs.Steps.{cut}
use Rattle.scan_cdp.specs.Windows.{wanting}
use Rattle.outcome.specs.declared.Judged.{Judged}
use Rattle.scan_cdp.specs.declared.Scan.{Scan}
use Rattle.scan_replies.specs.Examinations.{examination_of}
use Rattle.scan_replies.specs.declared.Examination.{Examination}
use Rattle.scan_step.specs.Headers.{Stepped, listed}
use Rattle.scan_step.proofs.HeadersLaws.{header_entered, header-wanted, same_stepped}
use Rattle.scan_step.proofs.Header.step.Goals as goal

pub returns-then-last-is_cut-clause-examined : goal.returns-then-last-is_cut-clause-examined
returns-then-last-is_cut-clause-examined c =
    let scan = c.args.scan.now in
    let h = c.args.self.now in
    let is_cut = c.is_cut.ensures ∙ ap (λ (j : Judged). cut j.set.skip_payload j.outcome j.rdh h.left) c.judge-judged.ensures in
    let wanted = sym (ap (λ (b : Bool). not c.args.last && b) is_cut) ∙ c.if-last-is_cut.true in
    λ rest size.
    ap (λ (r : Examination). examination_of r scan) c.unmarked.ensures
    ∙ ap (λ (n : ℕ). wanting (state_of scan) scan.fee_ids.now (64 + n)) c.payload_size.ensures
    ∙ header-wanted scan h c.args.last wanted rest size

pub returns-clause-examined : goal.returns-clause-examined
returns-clause-examined c =
    let scan = c.args.scan.now in
    let h = c.args.self.now in
    let judged = c.judge-judged.ensures in
    let is_cut = c.is_cut.ensures ∙ ap (λ (j : Judged). cut j.set.skip_payload j.outcome j.rdh h.left) judged in
    let not-wanted = sym (ap (λ (b : Bool). not c.args.last && b) is_cut) ∙ c.if-last-is_cut.false in
    let counted = c.is_counted.ensures ∙ ap (λ (j : Judged). is_counted j.first j.outcome) judged in
    header_entered scan h c.args.last not-wanted (λ i. (judged i).set.stats && counted i)
    (subst
    (λ (j : Judged). Stepped (listed (c.judge-judged.result.set.stats && c.is_counted.result) h.rdh scan) j h c.pass.result c.pass.new.scan)
    judged
    (subst (λ (s : Scan). Stepped s c.judge-judged.result h c.pass.result c.pass.new.scan) c.list.ensures c.pass.ensures))

pub returns-clause-same : goal.returns-clause-same
returns-clause-same c = same_stepped _ c.args.self.now.rdh c.list.ensures c.pass.ensures
