-- No comparison is longer than the longest: every count fits its type.
use Rattle.trigger_stats.proofs.Ranges.{in_range}
use Rattle.trigger_texts.proofs.MismatchesLaws.{longest_comparison}
use Rattle.trigger_compare.proofs.ComparisonText.longest.Goals as goal

pub returns : goal.returns
returns c =
    longest_comparison c.args.self.counts c.args.self.expected (in_range _ _ c.well_formed.0.1.1.0) (in_range _ _ c.well_formed.0.1.1.1.0)
