-- Each field is what its function ensures, at the same outcome and cut.
use Rattle.std.proofs.Common.{◌≡◌, ℕ, ◌+◌, Bool, List, length, sym, ap, ◌∙◌}
use Rattle.scan_cdp.specs.Answers.{examined_answer}
use Rattle.scan_cdp.specs.Steps.{answer_in, initial_of, marks_of, payload_of, progress_after, start_of, tallied}
use Rattle.scan_cdp.specs.Windows.{part_at}
use Rattle.scan_cdp.specs.declared.Outcome.TheVariants.{HandedOut}
use Rattle.scan_laws.proofs.WindowLaws.{placed_answer}
use Rattle.scan_step.proofs.Header.pass.Goals as goal

pub returns : goal.returns
unfolding marks_of progress_after
returns c =
    let s = c.args.scan.now in
    let set = c.args.judged.set in
    let p = s.progress in
    let t = c.args.judged.outcome in
    let start = c.args.self.now.start in
    let left = c.args.self.now.left in
    let h = c.args.judged.rdh in
    let skip = set.skip_payload in
    let first = c.requires.first in
    let payload : (rest : List ℕ) → length rest ≡ left
    → c.part-payload.result ≡ part_at (start + 64) (length (payload_of skip HandedOut h rest)) =
    λ rest size. c.part-payload.ensures ∙ ap (part_at (start + 64)) (c.read_size.ensures rest size) in
    let found : examined_answer c.answer.result ≡ answer_in t h c.part-payload.result c.start_of-start.result p.position =
    c.answer.ensures in
    let tally = c.tallied-tally.ensures ∙ ap (λ (b : Bool). tallied set b t p.counts h) first in
    record {
      answer = λ rest size.
          found
          ∙ (λ i. answer_in t h (payload rest size i) (c.start_of-start.ensures i) p.position)
          ∙ sym (placed_answer (start + 64) skip t h rest (start_of p.load p.position) p.position);
      marks = λ i. record {
        initial = (c.initial_collect_stats.ensures ∙ ap (λ (b : Bool). initial_of set.stats b p.position h) first) i;
        seen_carry = (tally i).seen.carry;
        filtered_carry = (tally i).filtered.carry;
        payload_carry = (tally i).payload.carry;
        payload_cut = c.is_cut.ensures i;
      };
      left = λ i. record {
        set = s.set;
        progress = record {
          place = record { 0 = c.place_moved-moved.ensures.0 p.place.0 i };
          position = record { 0 = c.position_moved.ensures.0 p.position.0 i };
          load = c.load_after-scan.ensures i;
          counts = record { seen = (tally i).seen.value; filtered = (tally i).filtered.value; payload = (tally i).payload.value };
          links_used = p.links_used;
          fee_ids_used = p.fee_ids_used;
        };
        links = s.links;
        triggers = s.triggers;
        fee_ids = s.fee_ids;
      };
    }
