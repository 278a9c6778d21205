-- The lines of a packet, and of a refusal.
use Rattle.std.proofs.Common.{◌∙◌, ap, refl}
use Rattle.std.specs.Prelude.{Ok}
use Rattle.listing_load.specs.LoadLinesLaws.{lists_packet, lists_refusal}
use Rattle.listing_load.proofs.list_cdp.Goals as goal

pub returns-in-Packet-clause-lists : goal.returns-in-Packet-clause-lists
returns-in-Packet-clause-lists c =
    lists_packet c.in-Packet.packet _ c.load_cdp-load.ensures.loaded (c.in-Ok.is ∙ ap Ok c.in-Packet.is) c.put_packet.ensures refl

pub returns-in-Err-clause-lists : goal.returns-in-Err-clause-lists
returns-in-Err-clause-lists c = lists_refusal c.in-Err.why c.load_cdp-load.ensures.loaded c.in-Err.is refl refl c.put_last.ensures
