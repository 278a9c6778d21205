use Rattle.std.proofs.Common.{◌≡◌, ◌++◌, take}
use Rattle.text.specs.Ascii.{ascii}
use Rattle.text_writer.specs.Writer.{extended}
use Rattle.trigger_stats.specs.Counters.{counters}
use Rattle.trigger_texts.specs.CounterOrder.{texts_in_order}
use Rattle.trigger_texts.specs.TriggerList.{line}
use Rattle.trigger_list.proofs.put_list.Given as goal

-- the title and the lines of the counters before the next
abbrev pub invariant-loop-k : goal.invariant-loop-k
invariant-loop-k l = l.w ≡ extended l.fn.w (ascii "Trigger statistics:\n" ++ texts_in_order (line l.fn.counts) (take l.k counters))
