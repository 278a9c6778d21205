-- Bytes that are too few to decode, or a header.
use Rattle.std.proofs.Common.{◌≡◌, ℕ, ◌-◌, List, [], length, min, take, drop, sym, ap, refl, ◌∙◌, arith, length-drop, take_all, Result}
use Rattle.rdh.specs.declared.rdh_cru.RdhCru.{RdhCru}
use Rattle.rdh.specs.declared.rdh_cru.TooFewBytes.{TooFewBytes}
use Rattle.serde_rdh.specs.Layout.{decode}
use Rattle.serde_rdh.specs.Refusals.{decode_answer}
use Rattle.serde_rdh.proofs.LayoutLaws.{decode-given}
use Rattle.scan_window.specs.UnusableLaws.{inside}
use Rattle.scan_step.proofs.HeadersLaws.{stepped_decoded, stepped_lacking, within}
use Rattle.scan_step.proofs.take_step.Goals as goal

-- what is lent of a window from a start on is its rest
to_the_end : (w : List ℕ) (start : ℕ) → take (length w - start) (drop start w) ≡ drop start w
to_the_end w start = take_all (length w - start) (drop start w) (omega (arith, length-drop start w))

pub overflow_add-window : goal.overflow_add-window
overflow_add-window c =
    let window = c.args.window in
    let within_it = inside c.args.scan.now.progress.place.0 window.first.0 (length window.bytes.now) (sym c.outside.ensures ∙ c.if-outside.false) in
    record { fits = omega (arith, within_it.ends) }

pub returns-in_default-clause-examined : goal.returns-in_default-clause-examined
returns-in_default-clause-examined c =
    let window = c.args.window in
    let w = window.bytes.now in
    let start = c.start_in-start in
    let there = start.ensures ∙ ap (λ (n : ℕ). min n (length w)) c.saturating_sub-distance.ensures in
    let few =
    sym (ap (λ (r : Result RdhCru TooFewBytes). decode_answer r) c.in_default.is) ∙ c.from_buf.ensures
    ∙ ap decode (to_the_end w start.result) in
    c.lacking.ensures.examined
    ∙ stepped_lacking c.args.scan.now w window.first.0 window.last (sym c.numbers_unusable.ensures ∙ c.if-numbers_unusable.false)
    (sym c.outside.ensures ∙ c.if-outside.false) start.result there 9 [] few

pub step-requires : goal.step-requires
step-requires c =
    let p = c.args.scan.now.progress in
    let window = c.args.window in
    let w = window.bytes.now in
    let start = c.start_in-start in
    let within_it = inside p.place.0 window.first.0 (length w) (sym c.outside.ensures ∙ c.if-outside.false) in
    let numbers = within p _ _ (sym c.numbers_unusable.ensures ∙ c.if-numbers_unusable.false) in
    let header =
    sym (ap (λ (r : Result RdhCru TooFewBytes). decode_answer r) c.in-Ok.is) ∙ c.from_buf.ensures
    ∙ ap decode (to_the_end w start.result) in
    let whole = (decode-given (drop start.result w) _ header).0 in
    let left = ap (λ (l : List ℕ). length l) (to_the_end w start.result) in
    record {
      place = numbers.place;
      position = numbers.position;
      inside = omega (arith, left, within_it.ends, start.ensures, c.saturating_sub-distance.ensures, length-drop start.result w);
      whole = omega (arith, left, whole);
    }

pub returns-clause-examined : goal.returns-clause-examined
returns-clause-examined c =
    let window = c.args.window in
    let w = window.bytes.now in
    let start = c.start_in-start in
    let there = start.ensures ∙ ap (λ (n : ℕ). min n (length w)) c.saturating_sub-distance.ensures in
    let header =
    sym (ap (λ (r : Result RdhCru TooFewBytes). decode_answer r) c.in-Ok.is) ∙ c.from_buf.ensures
    ∙ ap decode (to_the_end w start.result) in
    stepped_decoded c.args.scan.now w window.first.0 window.last (sym c.numbers_unusable.ensures ∙ c.if-numbers_unusable.false)
    (sym c.outside.ensures ∙ c.if-outside.false) start.result there _ refl (ap (λ (l : List ℕ). length l) (to_the_end w start.result)) header
    c.step.ensures.examined
