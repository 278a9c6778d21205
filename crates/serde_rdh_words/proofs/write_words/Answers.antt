-- In front the words so far, behind them what was there: after the eighth, the 64 bytes.
use Rattle.std.proofs.Common.{rules, ◌≡◌, ◌∙◌, sym, ap, ap₂, ◌+◌, ◌*◌, ◌≤◌, ◌++◌, List, ℕ, arith, length, get_or, take, drop, take_all}
use Rattle.std.proofs.lemmas.Slice.{take-put_mid, drop-put_mid}
use Rattle.basis.specs.Bytes.{bytes_of}
use Rattle.basis.specs.BytesLaws.{length_bytes_of}
use Rattle.serde_rdh_words.specs.WordBytes.{word_bytes}
use Rattle.serde_rdh_words.proofs.WordLaws.{eight_bytes, later, one_more, written}
use Rattle.serde_rdh_words.proofs.write_words.Goals as goal

pub loop-w-init : goal.loop-w-init
unfolding word_bytes
loop-w-init c = search rules

pub loop-w-preserved : goal.loop-w-preserved
loop-w-preserved c =
    let at = c.loop-w in
    let words = c.args.words in
    let eight : length words ≡ 8 = search rules in
    let here : 8 * at.w ≤ length at.out = omega arith in
    let now : c.copy_from_slice.new.self ≡ bytes_of 8 (get_or words at.w 0) =
    c.copy_from_slice.ensures.after ∙ c.to_le_bytes.ensures ∙ eight_bytes (get_or words at.w 0) in
    let long : length c.copy_from_slice.new.self ≡ 8 = ap length now ∙ length_bytes_of 8 (get_or words at.w 0) in
    record {
      front = take-put_mid (8 * at.w) _ at.out _ (8 * (at.w + 1)) (omega arith) here
          ∙ ap₂ (λ (s t : List ℕ). s ++ t) at.invariant.front now
          ∙ sym (one_more words at.w (omega arith));
      behind = drop-put_mid (8 * at.w) _ at.out _ (8 * (at.w + 1)) (omega arith) here (omega arith)
          ∙ later at.out c.args.out.now (8 * at.w) (8 * (at.w + 1)) (omega arith) at.invariant.behind;
    }

pub returns-clause-left : goal.returns-clause-left
returns-clause-left c =
    let at = c.loop-w in
    let words = c.args.words in
    let eight : length words ≡ 8 = search rules in
    let all : at.w ≡ 8 = omega arith in
    written words c.args.out.now at.out (omega arith)
    (ap (λ (w : ℕ). take (8 * w) at.out) (sym all) ∙ at.invariant.front ∙ ap word_bytes (take_all at.w words (omega arith)))
    (ap (λ (w : ℕ). drop (8 * w) at.out) (sym all) ∙ at.invariant.behind ∙ ap (λ (w : ℕ). drop (8 * w) c.args.out.now) all)
