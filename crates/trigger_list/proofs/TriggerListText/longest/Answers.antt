-- No list is longer than the longest: every count fits its type.
use Rattle.trigger_stats.proofs.Ranges.{in_range}
use Rattle.trigger_texts.proofs.TriggerListLaws.{longest_list}
use Rattle.trigger_list.proofs.TriggerListText.longest.Goals as goal

pub returns : goal.returns
returns c = longest_list c.args.self.counts (in_range _ _ c.well_formed.0.1.1.0)
