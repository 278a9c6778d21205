-- The packets so far and those that the loads from here on find are all, where the recording is in memory.
use Rattle.std.proofs.Common.{arith, refl, rules}
use Rattle.bench.proofs.CountedLaws.{no_want, none_left, none_more, one_more}
use Rattle.bench.proofs.load_all.Goals as goal
use Rattle.bench.proofs.load_all.Goals.{in-Packet, in-Want+in-Ok-refill}

pub returns-in-Err-clause-counted : goal.returns-in-Err-clause-counted
returns-in-Err-clause-counted c =
    λ whole.
    let loads = rw c.loop.invariant.same.set at c.load_cdp.ensures.loaded in
    let all = none_more (c.loop.invariant.turn whole) (omega arith) _ _ _ _ loads c.window.ensures.bytes c.window.ensures.first c.window.ensures.last (rw c.in-Err.is refl) in
    record { packets = all.packets; state = all.state }

pub returns-in_default-clause-counted : goal.returns-in_default-clause-counted
returns-in_default-clause-counted c =
    λ whole.
    let loads = rw c.loop.invariant.same.set at c.load_cdp.ensures.loaded in
    absurd (no_want (c.loop.invariant.turn whole) (omega arith) _ _ _ _ loads c.window.ensures.bytes c.window.ensures.first c.window.ensures.last (rw c.in-Ok.is (rw c.in-Want.is refl)))

pub loop-preserved : goal.loop-preserved
loop-preserved c =
    let loads = rw c.loop.invariant.same.set at c.load_cdp.ensures.loaded in
    elim c.match-found.branch [
      | in-Packet w ↦
          rw (w.buffer-is, w.held-is, w.packets-is)
          (record {
            same = search rules;
            held = c.loop.invariant.held;
            packets = omega arith;
            turn = λ whole. one_more (c.loop.invariant.turn whole) (omega arith) _ _ _ _ loads c.window.ensures.bytes c.window.ensures.first c.window.ensures.last (rw c.in-Ok.is (rw w.in-Packet.is refl));
          })
      | in-Want+in-Ok-refill w ↦
          rw (w.buffer-is, w.held-is, w.packets-is)
          (record {
            same = search rules;
            held = w.in-Ok-refill.ensures.kept.within;
            packets = omega arith;
            turn = λ whole. absurd (no_want (c.loop.invariant.turn whole) (omega arith) _ _ _ _ loads c.window.ensures.bytes c.window.ensures.first c.window.ensures.last (rw c.in-Ok.is (rw w.in-Want.is refl)));
          })
    ]

pub returns-clause-counted : goal.returns-clause-counted
returns-clause-counted c =
    λ whole.
    let all = none_left (c.loop.invariant.turn whole) (omega arith) in
    record { packets = all.packets; state = all.state }
