use Rattle.chain_replay.proofs.ReplaysLaws.{Made}
use Rattle.chain_replay.proofs.replay.Given as goal

abbrev pub invariant-loop-asked : goal.invariant-loop-asked
invariant-loop-asked l = Made l.initial.scan l.recording l.calls l.scan l.last l.made l.asked-index
