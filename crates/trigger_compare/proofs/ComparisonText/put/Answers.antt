-- The names are those of the counters, in their order.
use Rattle.std.proofs.Common.{refl}
use Rattle.trigger_texts.specs.Mismatches.{name}
use Rattle.trigger_compare.proofs.ComparisonText.put.Goals as goal

pub put_mismatches-requires : goal.put_mismatches-requires
unfolding name
put_mismatches-requires c = refl
