-- Each list and its used number are what `list_if_due` ensures.
use Rattle.std.proofs.Common.{◌∙◌}
use denote.MutBor.{at_last}
use Rattle.scan_cdp.specs.Outcomes.{header_fee_id}
use Rattle.scan_lists.specs.ListedLaws.{places_of_numbers, used_of_numbers}
use Rattle.scan_step.proofs.Header.list.Goals as goal

pub returns : goal.returns
returns c =
    let s = c.args.scan.now in
    let p = s.progress in
    let h = c.args.self.now.rdh in
    let due = c.args.due in
    let link = c.list_if_due-scan.ensures in
    let fee = c.list_if_due-scan-2.ensures in
    λ i. record {
      set = s.set;
      progress = record {
        place = p.place;
        position = p.position;
        load = p.load;
        counts = p.counts;
        links_used = (link.used ∙ used_of_numbers due h.link_id p.links_used s.links.now) i;
        fee_ids_used = (fee.used ∙ used_of_numbers due (header_fee_id h) p.fee_ids_used s.fee_ids.now) i;
      };
      links = at_last s.links ((link.places ∙ places_of_numbers due h.link_id p.links_used s.links.now) i);
      triggers = at_last s.triggers (c.count_trigger.ensures i);
      fee_ids = at_last s.fee_ids ((fee.places ∙ places_of_numbers due (header_fee_id h) p.fee_ids_used s.fee_ids.now) i);
    }
