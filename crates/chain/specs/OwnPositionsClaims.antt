-- The statements on a packet's two positions (S12): its load's start, and its own.
use Rattle.std.specs.Prelude.{ℕ, ◌+◌, ◌≤◌, true, false, ◌≡◌, List, [], ◌++◌, map}
use Rattle.basis.specs.Each.{Each}
use Rattle.filter.specs.Filter.{enabled}
use Rattle.scan_cdp.specs.Steps.{is_first}
use Rattle.scan_cdp.specs.declared.Settings.{Settings}
use Rattle.chain.specs.Calls.{Call, WindowOf, Windows, replies, reply_answer, reply_to, to_come, window_of}
use Rattle.chain.specs.Chain.{Kept, chain}
use Rattle.chain.specs.OwnPositions.{WholeLoad, open_at, start_of_load, offsets, passed_first, position_of, whole_loads}
use Rattle.chain.specs.PacketLists.{Packet, packet_in, packets_in, packets_of}
use Rattle.chain.specs.Walk.{Met, walk}

-- ---- at its header

-- The positions of a packet whose header is examined where a scan stands: that load's start, and the position there.
pub record AtHeader (k : Kept) (p : Packet) : Type 0 where
  pub position : p.position ≡ start_of_load k
  pub own : p.own ≡ position_of k

-- So it is with each packet on a chain.
abbrev pub OwnAtHeader : Type 0
OwnAtHeader =
    (recording : List ℕ) (set : Settings) (start : Kept)
    → Each (λ (m : Met). Each (AtHeader m.before) (packet_in m.entry.answer)) (walk recording set start)

-- ---- over a whole load

-- The own position is the load's start and the offsets passed in that load.
abbrev pub OwnByOffsets : WholeLoad → Type 0
OwnByOffsets l = l.packet.own.0 ≡ l.packet.position.0 + offsets l.passed

-- From where no load is open on it is so with every load. And the packets of these loads are those that calls hand out, followed by those
-- still to come: so it does not matter how many calls a load took, nor what they were.
pub record OwnInLoads (recording : List ℕ) (set : Settings) (start : Kept) : Type 0 where
  pub sums : is_first (open_at start) ≡ true → Each OwnByOffsets (whole_loads [] (walk recording set start))
  pub packets : (calls : List Call) → Windows recording calls
      → packets_of (replies set start calls) ++ packets_in (to_come set start calls (chain recording set start))
      ≡ map (λ (l : WholeLoad). l.packet) (whole_loads [] (walk recording set start))

abbrev pub OwnOverLoads : Type 0
OwnOverLoads = (recording : List ℕ) (set : Settings) (start : Kept) → OwnInLoads recording set start

-- ---- in one call

-- The positions of a packet that a call hands out, by what was kept as the call began: an open load, with whatever start, is gone on with. The
-- own position is the one where the call began and the offsets of the headers passed in that call, which the walk from there passes first.
pub record InCall (recording : List ℕ) (set : Settings) (k : Kept) (p : Packet) : Type 0 where
  pub position : p.position ≡ start_of_load k
  pub own : p.own.0 ≡ (position_of k).0 + offsets (passed_first (walk recording set k))

abbrev pub OwnInCall : Type 0
OwnInCall =
    (recording : List ℕ) (set : Settings) (k : Kept) (c : Call) → WindowOf recording (window_of c)
    → Each (InCall recording set k) (packet_in (reply_answer (reply_to set k c)))

-- ---- what follows

-- Each packet of a chain, and so each that calls hand out.
pub record EachPacket (P : Packet → Type 0) (recording : List ℕ) (set : Settings) (start : Kept) : Type 0 where
  pub on_chain : Each P (packets_in (chain recording set start))
  pub by_calls : (calls : List Call) → Windows recording calls → Each P (packets_of (replies set start calls))

-- Without a filter, from where no load is open on, the two are one number.
abbrev pub OwnUnfiltered : Type 0
OwnUnfiltered =
    (recording : List ℕ) (set : Settings) (start : Kept) → enabled set.filter ≡ false → is_first (open_at start) ≡ true
    → EachPacket (λ p. p.own ≡ p.position) recording set start

-- The own position is never before the load's start, if at first it was not: no load was open, so that the start is the position itself, or
-- the open one's start is not above the position.
abbrev pub OwnNotBefore : Type 0
OwnNotBefore =
    (recording : List ℕ) (set : Settings) (start : Kept) → (start_of_load start).0 ≤ (position_of start).0
    → EachPacket (λ p. p.position.0 ≤ p.own.0) recording set start
