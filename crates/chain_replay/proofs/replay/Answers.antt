-- Each turn is one call: the last reply so far, with those to come, stands where all replies do, which `calls_follow` makes the chain's.
use Rattle.std.proofs.Common.{arith}
use Rattle.chain_replay.proofs.ReplaysLaws.{call_goes_on, call_stops, calls_made}
use Rattle.chain_replay.proofs.replay.Goals as goal

pub returns-then-called-clause-replays : goal.returns-then-called-clause-replays
returns-then-called-clause-replays c =
    call_stops c.loop-asked.invariant (omega arith) _ _ c.call-called.ensures.stands c.call-called.ensures.same c.if-called.true

pub loop-asked-preserved : goal.loop-asked-preserved
loop-asked-preserved c =
    call_goes_on c.loop-asked.invariant (omega arith) _ _ c.call-called.ensures.stands c.call-called.ensures.same c.if-called.false

pub returns-clause-replays : goal.returns-clause-replays
returns-clause-replays c = calls_made c.loop-asked.invariant (omega arith)
