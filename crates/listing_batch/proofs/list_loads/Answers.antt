-- A buffer that is too short is refused; in any other the loop's loads are those of the definition.
use Rattle.scan_cdp.specs.Scans.{state_of}
use Rattle.listing_batch.specs.ListingLaws.{listed_refused, listed_there}
use Rattle.listing_batch.proofs.list_loads.Goals as goal

pub returns-then-out-lt-ROOM-clause-listed : goal.returns-then-out-lt-ROOM-clause-listed
returns-then-out-lt-ROOM-clause-listed c =
    let args = c.args in
    let s = args.scan.now in
    let window = args.window in
    listed_refused s.set args.validator.now (state_of s) s.fee_ids.now window.bytes.now window.first.0 window.last args.out.now
    c.if-out-lt-ROOM.true

pub returns-clause-listed : goal.returns-clause-listed
returns-clause-listed c =
    let args = c.args in
    let s = args.scan.now in
    let window = args.window in
    listed_there s.set args.validator.now (state_of s) s.fee_ids.now window.bytes.now window.first.0 window.last args.out.now
    c.put_loads.ensures.listed c.if-out-lt-ROOM.false
