-- The statements on packets: they are the chain's matching headers that are not refused (D3.2), each once and in its turn (D3.3), and calls
-- that are not held back come to the chain's end (D3.4).
use Rattle.std.specs.Prelude.{ℕ, ◌≤◌, true, ◌≡◌, List, [], ◌++◌, length}
use Rattle.scan_cdp.specs.declared.Settings.{Settings}
use Rattle.chain.specs.Calls.{Call, Windows, chain_ended, replies, to_come}
use Rattle.chain.specs.Chain.{Kept, chain}
use Rattle.chain.specs.PacketLists.{headers_of, matching, none_held, packets_in, packets_of}

-- The headers that the chain hands out are exactly the matching ones that it does not refuse (D3.2).
abbrev pub ExactlyMatching : Type 0
ExactlyMatching =
    (recording : List ℕ) (set : Settings) (start : Kept) → headers_of (packets_in (chain recording set start)) ≡ matching recording set start

-- The packets that the calls hand out, followed by those still to come, are the chain's: none is left out, given twice or moved (D3.3).
abbrev pub EachOnce : Type 0
EachOnce =
    (recording : List ℕ) (set : Settings) (start : Kept) (calls : List Call) → Windows recording calls
    → packets_of (replies set start calls) ++ packets_in (to_come set start calls (chain recording set start)) ≡ packets_in (chain recording set start)

-- Both in one line: the headers that the calls hand out, followed by those still to come, are the matching ones that are not refused.
abbrev pub MatchingInTurn : Type 0
MatchingInTurn =
    (recording : List ℕ) (set : Settings) (start : Kept) (calls : List Call) → Windows recording calls
    → headers_of (packets_of (replies set start calls)) ++ headers_of (packets_in (to_come set start calls (chain recording set start)))
    ≡ matching recording set start

-- Before the refusal that ends the chain none is missing: once it is replied, all of them have been handed out (D3.3).
abbrev pub NoneMissing : Type 0
NoneMissing =
    (recording : List ℕ) (set : Settings) (start : Kept) (calls : List Call) → Windows recording calls
    → chain_ended (replies set start calls) ≡ true → headers_of (packets_of (replies set start calls)) ≡ matching recording set start

-- As many calls as the chain has entries reach its end, if none of them is held back (D3.4).
abbrev pub ReachesEnd : Type 0
ReachesEnd =
    (recording : List ℕ) (set : Settings) (start : Kept) (calls : List Call) → Windows recording calls
    → length (chain recording set start) ≤ length calls → none_held (replies set start calls) ≡ true
    → to_come set start calls (chain recording set start) ≡ []
