-- What owning a validator and a header tells makes the buffer long enough.
use Rattle.listing_packet.proofs.Owned.{told_of}
use Rattle.listing_packet.proofs.check.Goals as goal

pub returns : goal.returns
returns c = told_of _ _ c.well_formed.0 c.well_formed.1.0 c.told-text c.sanity_check_lent-verdict.ensures
