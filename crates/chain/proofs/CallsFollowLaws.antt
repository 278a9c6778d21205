-- Proof that all calls follow the chain: an examination does, a load does, and so does any list of them.
use Rattle.std.specs.Prelude.{ℕ, ◌+◌, ◌/◌, ◌≡◌, List, [], length}
use Rattle.std.proofs.Common.{ap, sym, ◌∙◌}
use Rattle.basis.specs.Pick.{pick}
use Rattle.basis.specs.PickLaws.{off}
use Rattle.scan_cdp.specs.Loads.{loaded, no_load_marks}
use Rattle.scan_cdp.specs.Steps.{Entry, unchanged}
use Rattle.scan_cdp.specs.declared.Settings.{Settings}
use Rattle.scan_laws.proofs.RunLaws.{enough}
use Rattle.chain.specs.Calls.{Call, Hold, WindowOf, ends_chain, examination, examined_by, examines, free, held, held_back, kept_by, load_along, loads, reply_to, served_by, window_of}
use Rattle.chain.proofs.CallsLaws.{HeldFine, entry_ends, held_fine}
use Rattle.chain.specs.Chain.{Kept, behind, chain, left, next}
use Rattle.chain.proofs.ChainLaws.{chain_unfolds}
use Rattle.chain.proofs.ExaminationLaws.{examination_follows, found_by}
use Rattle.chain.proofs.FollowingLaws.{all_follow, rest_follows}
use Rattle.chain.proofs.LoadLaws.{load_follows}
use Rattle.chain.specs.CallsFollowClaims.{CallsFollow, LeavesRest}

-- ---- one call

-- A call replies as it is served, and the chain goes on from where it left off unless it ended it.
abbrev Serves : List ℕ → Settings → Kept → Call → Type 0
Serves recording set k c =
    served_by set k c (next recording set k) (behind (chain recording set) (next recording set k))
    ≡ record { reply = reply_to set k c; rest = pick (ends_chain (reply_to set k c)) [] (chain recording set (kept_by (reply_to set k c))) }

-- what is served, where an examination finds an entry
served_found : (recording : List ℕ) (set : Settings) (k : Kept) (h : Hold) (found : Entry (List ℕ)) → HeldFine k h
    → found ≡ found_by k (next recording set k) h
    → examined_by k (next recording set k) (behind (chain recording set) (next recording set k)) h
    ≡ record {
      reply = examination found;
      rest = pick (ends_chain (examination found)) [] (chain recording set (left found));
    }
served_found recording set k free found fine is =
    (λ i. record {
      reply = examination (next recording set k);
      rest = pick (sym (entry_ends recording set k) i) [] (chain recording set (left (next recording set k)));
    })
    ∙ ap (λ (x : Entry (List ℕ)). record { reply = examination x; rest = pick (ends_chain (examination x)) [] (chain recording set (left x)) })
    (sym is)
served_found recording set k (held a) found (no-pass, goes_on) is =
    (λ i. record {
      reply = examination (unchanged k.state k.fee_ids a);
      rest = (sym (chain_unfolds recording set k) ∙ sym (off [] (chain recording set k) goes_on)) i;
    })
    ∙ ap (λ (x : Entry (List ℕ)). record { reply = examination x; rest = pick (ends_chain (examination x)) [] (chain recording set (left x)) })
    (sym is)

serves : (recording : List ℕ) (set : Settings) (k : Kept) (c : Call) → WindowOf recording (window_of c) → Serves recording set k c
unfolding served_by reply_to loaded
serves recording set k (examines w) of =
    served_found recording set k (held_back set k w (next recording set k)) _ (held_fine set k w (next recording set k))
    (examination_follows recording set k w of)
serves recording set k (loads w) of =
    ap (load_along set w no_load_marks k) (sym (chain_unfolds recording set k))
    ∙ load_follows recording set w of (length w.bytes / 64 + 1) no_load_marks k (enough k.state w.bytes w.first)

-- ---- all calls

-- what is behind the next entry
abbrev behind_next : List ℕ → Settings → Kept → List (Entry (List ℕ))
behind_next recording set k = behind (chain recording set) (next recording set k)

abbrev Fits : List ℕ → Call → Type 0
Fits recording c = WindowOf recording (window_of c)

pub calls_follow : CallsFollow
calls_follow recording set start calls windows =
    all_follow (chain recording set) (next recording set) (behind_next recording set) (chain_unfolds recording set)
    (reply_to set) kept_by ends_chain (served_by set) (Fits recording) (serves recording set) start calls windows

-- What is then still to come.
pub leaves_rest : LeavesRest
leaves_rest recording set start calls windows =
    rest_follows (chain recording set) (next recording set) (behind_next recording set) (chain_unfolds recording set)
    (reply_to set) kept_by ends_chain (served_by set) (Fits recording) (serves recording set) start calls windows
