-- What a packet's own position is held against (S12): the headers that are passed before it, by the walk, and their offsets.
use Rattle.std.specs.Prelude.{ℕ, ◌+◌, List, [], ◌∷◌, ◌++◌, map, Option}
use Rattle.basis.specs.Pick.{pick}
use Rattle.basis.specs.Refusals.{Answer}
use Rattle.rdh.specs.declared.rdh_cru.RdhCru.{RdhCru}
use Rattle.scan_cdp.specs.Answers.{Found}
use Rattle.scan_cdp.specs.Loads.{is_passed}
use Rattle.scan_cdp.specs.Outcomes.{offset}
use Rattle.scan_cdp.specs.Steps.{start_of}
use Rattle.scan_cdp.specs.declared.Position.{Position}
use Rattle.chain.specs.Chain.{Kept}
use Rattle.chain.specs.PacketLists.{Packet, packet_in}
use Rattle.chain.specs.Walk.{Met}

-- The offsets of headers, together.
unfoldable pub offsets : List RdhCru → ℕ
offsets [] = 0
offsets (h ∷ hs) = offset h + offsets hs

-- The headers that a walk passes before anything else.
unfoldable pub passed_first : List Met → List RdhCru
passed_first [] = []
passed_first (m ∷ ms) = pick (is_passed m.entry.answer) (m.header ∷ passed_first ms) []

-- A load from its first header to its packet, in however many calls: the headers that it passed, and the packet.
pub record WholeLoad : Type 0 where
  pub passed : List RdhCru
  pub packet : Packet

-- The headers that the open load has passed, after one more with this answer: only a passed one leaves a load open (S7).
abbrev pub passed_after : List RdhCru → RdhCru → Answer (Found (List ℕ)) → List RdhCru
passed_after hs h a = pick (is_passed a) (hs ++ (h ∷ [])) []

-- The loads along a walk that come to a packet, in their order, where the first of them has passed these headers already.
unfoldable pub whole_loads : List RdhCru → List Met → List WholeLoad
whole_loads hs [] = []
whole_loads hs (m ∷ ms) =
    map (λ (p : Packet). record { passed = hs; packet = p }) (packet_in m.entry.answer)
    ++ whole_loads (passed_after hs m.header m.entry.answer) ms

-- Where a scan stands: the open load, the position, and the start of the load that the next header belongs to (S5, S7).
abbrev pub open_at : Kept → Option Position
open_at k = k.state.progress.load

abbrev pub position_of : Kept → Position
position_of k = k.state.progress.position

abbrev pub start_of_load : Kept → Position
start_of_load k = start_of (open_at k) (position_of k)
