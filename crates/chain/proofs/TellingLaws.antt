-- What calls tell: a packet, an end, or whatever else an answer that takes an entry tells. Collected over the replies, and then over the entries
-- still to come, it is what the chain's entries tell: each of them is told once and in its turn.
use Rattle.std.specs.Prelude.{ℕ, true, false, ◌≡◌}
use Rattle.std.proofs.lemmas.Bool.{false≢true}
use Rattle.std.proofs.Math.Path.{refl, ap, sym}
use Rattle.std.proofs.Common.{◌∙◌}
use mathlib.Core.List.{List, [], ◌∷◌, ◌++◌, append_assoc, append-nil, flat_map}
use Rattle.basis.specs.PickLaws.{by_test, on}
use Rattle.basis.specs.Refusals.{Answer, gives, refuses}
use Rattle.scan_cdp.specs.Answers.{Found, handed, passed, wants}
use Rattle.scan_cdp.specs.Loads.{is_passed, no_load_marks, together}
use Rattle.scan_cdp.specs.Steps.{Entry, unusable}
use Rattle.scan_cdp.specs.declared.BytePlace.{BytePlace}
use Rattle.scan_cdp.specs.declared.LoadMarks.{LoadMarks}
use Rattle.scan_cdp.specs.declared.Settings.{Settings}
use Rattle.chain.specs.Calls.{Call, Hold, Reply, Served, Window, Windows, along, chain_ended, examined_by, examines, free, held, held_back, kept_by, load_along, loaded_by, loads, replies, reply_answer, served_by, to_come}
use Rattle.chain.proofs.CallsFollowLaws.{calls_follow, leaves_rest}
use Rattle.chain.proofs.CallsLaws.{held_cases}
use Rattle.chain.specs.Chain.{Kept, chain, left}
use Rattle.chain.specs.Following.{cut_into, left_over}

-- What an answer tells, with what is kept after it. What takes no entry tells nothing: a want, and a 6 that state and list do not meet. Nor does
-- a passed header, which a load goes past.
pub record Telling {A : Type 0} (tell : Answer (Found (List ℕ)) → Kept → List A) : Type 0 where
  pub of_passed : (k : Kept) → tell (gives passed) k ≡ []
  pub of_want : (k : Kept) (place : BytePlace) (size : ℕ) → tell (gives (wants place size)) k ≡ []
  pub of_six : (k : Kept) → unusable k.state k.fee_ids ≡ false → tell (refuses 6 []) k ≡ []

module _ {A : Type 0} (tell : Answer (Found (List ℕ)) → Kept → List A) (telling : Telling tell) where
  abbrev pub told_in : Entry (List ℕ) → List A
  told_in e = tell e.answer (left e)

  abbrev pub told_by : Reply → List A
  told_by r = tell (reply_answer r) (kept_by r)

  -- what holds a call back tells nothing
  abbrev Quiet : Kept → Hold → Type 0
  Quiet k free = Unit {0}
  Quiet k (held a) = tell a k ≡ []

  quiet : (set : Settings) (k : Kept) (w : Window) (e : Entry (List ℕ)) → Quiet k (held_back set k w e)
  quiet set k w e = held_cases set k w e (Quiet k) tt (telling.of_six k) (λ size. telling.of_want k k.state.progress.place size)

  passed_quiet : (a : Answer (Found (List ℕ))) (k : Kept) → is_passed a ≡ true → tell a k ≡ []
  passed_quiet (gives passed) k e = telling.of_passed k
  passed_quiet (gives (handed p)) k e = absurd (false≢true e)
  passed_quiet (gives (wants place size)) k e = absurd (false≢true e)
  passed_quiet (refuses number values) k e = absurd (false≢true e)

  -- what a call is served tells what its entries tell
  abbrev told_after : Served → List A
  told_after o = told_by o.reply ++ flat_map told_in o.rest

  -- a call that is held back tells nothing, and leaves all entries to come
  held_told : {told : List A} (es : List (Entry (List ℕ))) → told ≡ [] → told ++ flat_map told_in es ≡ flat_map told_in es
  held_told es none = ap (λ (l : List A). l ++ flat_map told_in es) none

  examined_told : (k : Kept) (e : Entry (List ℕ)) (es : List (Entry (List ℕ))) (h : Hold) → Quiet k h
      → told_after (examined_by k e es h) ≡ flat_map told_in (e ∷ es)
  unfolding flat_map
  examined_told k e es free fine = refl
  examined_told k e es (held a) none = held_told (e ∷ es) none

  load_told : (set : Settings) (w : Window) (es : List (Entry (List ℕ))) (ms : LoadMarks) (k : Kept)
      → told_after (load_along set w ms k es) ≡ flat_map told_in es
  unfolding load_along flat_map
  load_told set w [] ms k = ap (λ (l : List A). l ++ []) (telling.of_passed k)
  load_told set w (e ∷ es) ms k =
      by_held (held_back set k w e) (quiet set k w e) (load_told set w es (together ms e.marks) (left e))
    where
      further : Served
      further = load_along set w (together ms e.marks) (left e) es

      by_held : (h : Hold) → Quiet k h → told_after further ≡ flat_map told_in es → told_after (loaded_by ms k e es further h) ≡ flat_map told_in (e ∷ es)
      by_held free fine onward =
          by_test (λ (o : Served). told_after o ≡ told_in e ++ flat_map told_in es) (is_passed e.answer) _ _
          (λ passes. onward ∙ sym (held_told es (passed_quiet e.answer (left e) passes)))
          (λ stops. refl)
      by_held (held a) none onward = held_told (e ∷ es) none

  served_told : (set : Settings) (k : Kept) (c : Call) (e : Entry (List ℕ)) (es : List (Entry (List ℕ)))
      → told_after (served_by set k c e es) ≡ flat_map told_in (e ∷ es)
  unfolding served_by
  served_told set k (examines w) e es = examined_told k e es (held_back set k w e) (quiet set k w e)
  served_told set k (loads w) e es = load_told set w (e ∷ es) no_load_marks k

  along_told : (set : Settings) (k : Kept) (calls : List Call) (es : List (Entry (List ℕ)))
      → flat_map told_by (along set k calls es) ++ flat_map told_in (to_come set k calls es) ≡ flat_map told_in es
  unfolding cut_into left_over flat_map
  along_told set k [] es = refl
  along_told set k (c ∷ cs) [] = refl
  along_told set k (c ∷ cs) (e ∷ es) =
      let o = served_by set k c e es in
      append_assoc (told_by o.reply) (flat_map told_by (along set (kept_by o.reply) cs o.rest))
      (flat_map told_in (to_come set (kept_by o.reply) cs o.rest))
      ∙ ap (λ (l : List A). told_by o.reply ++ l) (along_told set (kept_by o.reply) cs o.rest)
      ∙ served_told set k c e es

  module _ (recording : List ℕ) (set : Settings) (start : Kept) (calls : List Call) (windows : Windows recording calls) where
    pub told_once : flat_map told_by (replies set start calls) ++ flat_map told_in (to_come set start calls (chain recording set start))
        ≡ flat_map told_in (chain recording set start)
    told_once =
        ap (λ (rs : List Reply). flat_map told_by rs ++ flat_map told_in (to_come set start calls (chain recording set start)))
        (calls_follow recording set start calls windows)
        ∙ along_told set start calls (chain recording set start)

    -- Once a reply ended the chain, all has been told.
    pub all_told : chain_ended (replies set start calls) ≡ true → flat_map told_by (replies set start calls) ≡ flat_map told_in (chain recording set start)
    unfolding flat_map
    all_told end =
        let told = flat_map told_by (replies set start calls) in
        sym (append-nil told)
        ∙ ap (λ (es : List (Entry (List ℕ))). told ++ flat_map told_in es) (sym (leaves_rest recording set start calls windows ∙ on _ _ end))
        ∙ told_once
