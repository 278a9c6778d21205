-- A list of calls over one recording, as they are asked for: where the calls then stand.
use Rattle.std.specs.Prelude.{ℕ, Bool, false, ◌≡◌, List, [], ◌∷◌, length, get_or, Option, None, Some}
use Rattle.scan_cdp.specs.Windows.{bytes_at}
use Rattle.scan_cdp.specs.declared.Scan.{Scan}
use Rattle.scan_cdp.specs.declared.Settings.{Settings}
use Rattle.chain.specs.Calls.{Call, Reply, along}
use Rattle.chain.specs.Chain.{Kept, chain}
use Rattle.chain_replay_calls.specs.OneCall.{Stand, call_at, keeps, stand_by, told_on}
use Rattle.chain_replay_calls.specs.declared.Asked.{Asked}
use Rattle.chain_replay_calls.specs.declared.CallKind.TheVariants.{Examination}
use Rattle.chain_replay_calls.specs.declared.Called.{Called}

-- ---- calls

-- As many calls as are asked for.
unfoldable pub calls_of : List ℕ → List Asked → List Call
calls_of recording [] = []
calls_of recording (a ∷ rest) = call_at recording a ∷ calls_of recording rest

abbrev pub asked_at : List Asked → ℕ → Asked
asked_at asked i = get_or asked i (record { kind = Examination; first = 0; size = 0; last = false })

-- ---- where the calls stand

-- After some replies more.
abbrev pub stand_with : Stand → List Reply → Stand
stand_with s [] = s
stand_with s (r ∷ rs) = stand_with (stand_by r) rs

-- After some replies from a start.
abbrev pub stand_after : Kept → List Reply → Stand
stand_after start = stand_with (record { reply = []; kept = start; ends = false })

-- So many calls stand where these replies do.
pub record Stands (start : Kept) (rs : List Reply) (at : Stand) (n : ℕ) : Type 0 where
  pub last : at ≡ stand_after start rs
  pub made : n ≡ length rs

-- The replies that the chain says (C5).
abbrev pub chain_replies : List ℕ → Settings → Kept → List Call → List Reply
chain_replies recording set start calls = along set start calls (chain recording set start)

-- So many calls stand where the chain says.
abbrev pub Replays : List ℕ → Settings → Kept → List Call → Stand → ℕ → Type 0
Replays recording set start calls = Stands start (chain_replies recording set start calls)

-- ---- what the code says of it

-- The last reply, if a call was made, and what the scan keeps.
abbrev pub replies_told : List ℕ → Option Called → Scan → List Reply
replies_told recording None scan = []
replies_told recording (Some called) scan = told_on (bytes_at recording called.window) (keeps scan) called.told ∷ []

abbrev pub ends_last : Option Called → Bool
ends_last None = false
ends_last (Some called) = called.ends

abbrev pub stand_at : List ℕ → Option Called → Scan → Stand
stand_at recording last scan = record { reply = replies_told recording last scan; kept = keeps scan; ends = ends_last last }
