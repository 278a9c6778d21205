use Rattle.std.proofs.Common.{◌≡◌, take}
use Rattle.text_writer.specs.Writer.{extended}
use Rattle.trigger_stats.specs.Counters.{counters}
use Rattle.trigger_texts.specs.CounterOrder.{texts_in_order}
use Rattle.trigger_texts.specs.FieldMismatches.{counter_mismatch}
use Rattle.trigger_compare.proofs.put_mismatches.Given as goal

-- what is written for the counters before the next
abbrev pub invariant-loop-field : goal.invariant-loop-field
invariant-loop-field l = l.w ≡ extended l.fn.w (texts_in_order (counter_mismatch l.fn.counts l.fn.expected) (take l.field counters))
