use Rattle.chain_replay.proofs.FourListsLaws.{asked_lists}
use Rattle.chain_replay.proofs.ReplaysLaws.{Made}
use Rattle.chain_replay.proofs.lists.replay_lists.Given as goal

abbrev pub invariant-loop-i : goal.invariant-loop-i
invariant-loop-i l = Made l.initial.scan l.recording (asked_lists l.loads l.firsts l.sizes l.lasts) l.scan l.last l.made l.i
