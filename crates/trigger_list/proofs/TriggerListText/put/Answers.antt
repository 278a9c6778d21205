-- The labels are those of the counters, in their order.
use Rattle.std.proofs.Common.{refl}
use Rattle.trigger_texts.specs.TriggerList.{label}
use Rattle.trigger_list.proofs.TriggerListText.put.Goals as goal

pub put_list-requires : goal.put_list-requires
unfolding label
put_list-requires c = refl
