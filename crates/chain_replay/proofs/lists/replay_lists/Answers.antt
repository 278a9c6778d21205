-- Each turn is one call of the list that the four lists say, so the laws of the loop over one list hold of it.
use Rattle.std.proofs.Common.{arith}
use Rattle.chain_replay.proofs.FourListsLaws.{all_in_lists, goes_on_in_lists, stops_in_lists}
use Rattle.chain_replay.proofs.ReplaysLaws.{below_all}
use Rattle.chain_replay.proofs.lists.replay_lists.Goals as goal

pub asked_in-asked-requires : goal.asked_in-asked-requires
asked_in-asked-requires c = below_all _ _ _ _ _ _ c.fewest-count.ensures (omega arith)

pub returns-then-called-clause-replays : goal.returns-then-called-clause-replays
returns-then-called-clause-replays c =
    let args = c.args in
    stops_in_lists args.loads.now args.firsts.now args.sizes.now args.lasts.now c.loop-i.invariant c.fewest-count.ensures (omega arith)
    _ c.asked_in-asked.ensures _ c.call-called.ensures.stands c.call-called.ensures.same c.if-called.true

pub loop-i-preserved : goal.loop-i-preserved
loop-i-preserved c =
    let args = c.args in
    goes_on_in_lists args.loads.now args.firsts.now args.sizes.now args.lasts.now c.loop-i.invariant c.fewest-count.ensures (omega arith)
    _ c.asked_in-asked.ensures _ c.call-called.ensures.stands c.call-called.ensures.same c.if-called.false

pub returns-clause-replays : goal.returns-clause-replays
returns-clause-replays c =
    let args = c.args in
    all_in_lists args.loads.now args.firsts.now args.sizes.now args.lasts.now c.loop-i.invariant c.fewest-count.ensures (omega arith)
