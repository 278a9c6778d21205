-- One call more, of any stand: if the call that a list asks for next ends the chain, there are all the replies, and else it is one turn more.
use Rattle.std.specs.Prelude.{ℕ, ◌+◌, ◌<◌, true, false, ◌≡◌, length}
use Rattle.std.proofs.Math.Path.{ap}
use Rattle.std.proofs.Common.{subst, ◌∙◌, arith}
use mathlib.Core.List.{List, ◌∷◌}
use Rattle.scan_cdp.specs.declared.Settings.{Settings}
use Rattle.chain.specs.Calls.{Call, replies, reply_to}
use Rattle.chain.specs.Chain.{Kept}
use Rattle.chain_replay_calls.specs.OneCall.{Stand, call_at, stand_by}
use Rattle.chain_replay_calls.specs.declared.Asked.{Asked}
use Rattle.chain_replay.specs.Replays.{Stands, asked_at, calls_of}
use Rattle.chain_replay.proofs.ReplaysLaws.{Turn, calls_from, goes_on, one_more, stops}

module _ (recording : List ℕ) (set : Settings) (start : Kept) (asked : List Asked) (i : ℕ) (at : Stand)
    (here : Turn set start (calls_of recording asked) (calls_from i recording asked) i at)
    (n : ℕ) (all : n ≡ length asked) (below : i < n)
    (a : Asked) (as_said : a ≡ asked_at asked i)
    (next : Stand) (is : next ≡ stand_by (reply_to set at.kept (call_at recording a))) where
  abbrev calls : List Call
  calls = calls_of recording asked

  abbrev call : Call
  call = call_at recording (asked_at asked i)

  abbrev onward : List Call
  onward = calls_from (i + 1) recording asked

  to_make : Turn set start calls (call ∷ onward) i at
  to_make =
      subst (λ (cs : List Call). Turn set start calls cs i at)
      (one_more i recording asked _ (omega (arith, all, below))) here

  made_so : next ≡ stand_by (reply_to set at.kept call)
  made_so = is ∙ ap (λ (x : Asked). stand_by (reply_to set at.kept (call_at recording x))) as_said

  pub call-stops : next.ends ≡ true → Stands start (replies set start calls) next (i + 1)
  call-stops = stops set start calls i call onward at to_make next made_so

  pub call_goes_on : next.ends ≡ false → Turn set start calls onward (i + 1) next
  call_goes_on = goes_on set start calls i call onward at to_make next made_so
