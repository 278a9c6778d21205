-- The statements that a list of what is asked leaves nothing out, nor four lists: every list of calls on windows of the recording is one that
-- they say, and every reply to it is the last one to a shorter list. No public contract cites this file: `AllCallsLaws` has the proofs.
use Rattle.std.specs.Prelude.{ℕ, Bool, true, false, ◌≡◌, List, [], ◌∷◌, length, take}
use Rattle.scan_cdp.specs.declared.Settings.{Settings}
use Rattle.chain.specs.Calls.{Call, Windows, examines, loads, window_of}
use Rattle.chain.specs.Chain.{Kept}
use Rattle.chain_replay_calls.specs.declared.Asked.{Asked}
use Rattle.chain_replay_calls.specs.declared.CallKind.{CallKind}
use Rattle.chain_replay_calls.specs.declared.CallKind.TheVariants.{Examination, Load}
use Rattle.chain_replay.specs.FourLists.{calls_of_lists}
use Rattle.chain_replay.specs.Replays.{calls_of, chain_replies}

abbrev pub kind_of : Call → CallKind
kind_of (examines w) = Examination
kind_of (loads w) = Load

-- What is asked for by a call.
abbrev pub asked_by : Call → Asked
asked_by c = record { kind = kind_of c; first = (window_of c).first; size = length (window_of c).bytes; last = (window_of c).last }

abbrev pub all_asked : List Call → List Asked
all_asked [] = []
all_asked (c ∷ cs) = asked_by c ∷ all_asked cs

-- All calls that lend windows of the recording are said by what they ask for.
abbrev pub EveryCall : Type 0
EveryCall = (recording : List ℕ) (calls : List Call) → Windows recording calls → calls_of recording (all_asked calls) ≡ calls

-- The replies to the first n calls are the first n replies.
abbrev pub EachReply : Type 0
EachReply =
    (n : ℕ) (recording : List ℕ) (set : Settings) (start : Kept) (asked : List Asked)
    → chain_replies recording set start (calls_of recording (take n asked)) ≡ take n (chain_replies recording set start (calls_of recording asked))

-- ---- four lists

abbrev pub is_load_call : Call → Bool
is_load_call (examines w) = false
is_load_call (loads w) = true

abbrev pub kinds_of : List Call → List Bool
kinds_of [] = []
kinds_of (c ∷ cs) = is_load_call c ∷ kinds_of cs

abbrev pub firsts_of : List Call → List ℕ
firsts_of [] = []
firsts_of (c ∷ cs) = (window_of c).first ∷ firsts_of cs

abbrev pub sizes_of : List Call → List ℕ
sizes_of [] = []
sizes_of (c ∷ cs) = length (window_of c).bytes ∷ sizes_of cs

abbrev pub lasts_of : List Call → List Bool
lasts_of [] = []
lasts_of (c ∷ cs) = (window_of c).last ∷ lasts_of cs

-- All calls that lend windows of the recording are said by four lists.
abbrev pub EveryCallOfLists : Type 0
EveryCallOfLists =
    (recording : List ℕ) (calls : List Call) → Windows recording calls
    → calls_of_lists recording (kinds_of calls) (firsts_of calls) (sizes_of calls) (lasts_of calls) ≡ calls

-- The replies to the first n calls are the first n replies.
abbrev pub EachReplyOfLists : Type 0
EachReplyOfLists =
    (n : ℕ) (recording : List ℕ) (set : Settings) (start : Kept) (kinds : List Bool) (firsts sizes : List ℕ) (lasts : List Bool)
    → chain_replies recording set start (calls_of_lists recording (take n kinds) (take n firsts) (take n sizes) (take n lasts))
    ≡ take n (chain_replies recording set start (calls_of_lists recording kinds firsts sizes lasts))
