-- What is held stands in its buffer, and the lines of a load end within theirs.
use Rattle.std.specs.Prelude.{◌≤◌, length}
use Rattle.std.proofs.Common.{arith}
use Rattle.listing.specs.TurnLaws.{put_within}
use Rattle.listing.proofs.list.Goals as goal
use Rattle.listing.proofs.list.Goals.{in-Ok-Packet, in-Ok-Want+in-Ok}

pub flush-requires-in-Err : goal.flush-requires-in-Err
flush-requires-in-Err g c =
    let lists = c.list_cdp.ensures.lists in
    (put_within _ _ _ lists.lines lists.short c.in_ok-make_room.ensures.room).count

pub loop-preserved : goal.loop-preserved
loop-preserved g c =
    let lists = c.list_cdp.ensures.lists in
    let within = put_within _ _ _ lists.lines lists.short c.in_ok-make_room.ensures.room in
    let held : c.match-list_cdp-2.held.length ≤ length c.match-list_cdp-2.buffer =
    elim c.match-list_cdp-2.branch [
      | in-Ok-Packet w ↦ rw (w.buffer-is, w.held-is) c.loop.invariant.held
      | in-Ok-Want+in-Ok w ↦ rw (w.buffer-is, w.held-is) w.in-Ok.ensures.kept.within
    ] in
    record { held = held; count = within.count; room = omega (arith, within.same_length, c.in_ok-make_room.ensures.room) }
