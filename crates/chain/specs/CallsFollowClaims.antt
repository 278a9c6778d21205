-- The statements that all calls follow the chain (D3.1), and what they leave of it (D3.3).
use Rattle.std.specs.Prelude.{ℕ, ◌≡◌, List, []}
use Rattle.basis.specs.Pick.{pick}
use Rattle.scan_cdp.specs.declared.Settings.{Settings}
use Rattle.chain.specs.Calls.{Call, Windows, along, chain_ended, kept_by_all, replies, to_come}
use Rattle.chain.specs.Chain.{Kept, chain}

-- For any recording, settings, starting state and FEE list, and for any list of calls that lend windows of that recording, the replies are
-- the chain's entries, cut into consecutive runs.
abbrev pub CallsFollow : Type 0
CallsFollow =
    (recording : List ℕ) (set : Settings) (start : Kept) (calls : List Call) → Windows recording calls
    → replies set start calls ≡ along set start calls (chain recording set start)

-- What is still to come after the calls: nothing once a reply ended the chain, so that nothing is left out before that refusal; and else the
-- chain from where they left off.
abbrev pub LeavesRest : Type 0
LeavesRest =
    (recording : List ℕ) (set : Settings) (start : Kept) (calls : List Call) → Windows recording calls
    → to_come set start calls (chain recording set start)
    ≡ pick (chain_ended (replies set start calls)) [] (chain recording set (kept_by_all start (replies set start calls)))
