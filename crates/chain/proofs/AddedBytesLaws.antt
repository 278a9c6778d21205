-- Proof of the statement on added bytes: entry by entry, the two chains have the same state before them, and so the same entry, until the
-- shorter recording ends.
use Rattle.std.specs.Prelude.{ℕ, ◌+◌, ◌≤◌, Bool, true, false, ◌||◌, ◌≡◌, refl, length, take}
use Rattle.std.proofs.Math.Path.{ap, subst}
use Rattle.std.proofs.Common.{sym, subst₂, ◌∙◌, arith, le-ltb, drop-drop}
use mathlib.Core.List.{List, [], ◌∷◌, ◌++◌}
use Rattle.std.proofs.Math.ListN.{drop, length-append, length-drop}
use Rattle.std.proofs.lemmas.List.{drop-append-le, take-append-le}
use Rattle.std.proofs.Math.Seq.{take-append_seam}
use Rattle.basis.specs.Pick.{pick}
use Rattle.basis.specs.PickLaws.{off, on}
use Rattle.basis.specs.Refusals.{refuses}
use Rattle.rdh.specs.declared.rdh_cru.RdhCru.{RdhCru}
use Rattle.serde_rdh.specs.Layout.{decoded}
use Rattle.serde_rdh.proofs.LayoutLaws.{decoded-take}
use Rattle.scan_cdp.specs.Outcomes.{payload_size}
use Rattle.scan_cdp.specs.Steps.{Entry, answer_in, cut, ended, entry_of, limit, marks_of, outcome_in, payload_of, progress_after, start_of, unchanged, unusable}
use Rattle.scan_cdp.specs.declared.Settings.{Settings}
use Rattle.scan_cdp.specs.declared.State.{State}
use Rattle.scan_cdp.specs.declared.Outcome.{Outcome}
use Rattle.scan_cdp.specs.declared.Outcome.TheVariants.{HandedOut}
use Rattle.scan_laws.specs.Elsewhere.{with_cut}
use Rattle.scan_laws.proofs.OutcomeLaws.{Known, known_here}
use Rattle.scan_laws.proofs.RowLaws.{IsCut, cut_empty, cut_more, cut_tells, either, entry_uncut, place_by_cut, place_read, whole_size}
use Rattle.scan_laws.proofs.StepLaws.{step_cases, step_six}
use Rattle.scan_laws.proofs.WindowLaws.{step-header}
use Rattle.chain.specs.AddedBytesClaims.{AddedBytes, Begins, BothSix, Closes, WasCut, closing, except_place, payload_at, same, same_end, was_cut, with_1, with_6}
use Rattle.chain.specs.Chain.{Kept, behind, chain, is_refused, left, next, place_of}
use Rattle.chain.proofs.ChainLaws.{chain_induction, chain_six, chain_unfolds}

-- ---- an entry whose payload was cut

-- A payload that is read and not cut has the bytes behind its header.
whole_bytes : (longer : List ℕ) (skip : Bool) (h : RdhCru) (k : Kept) → skip ≡ false
    → cut skip HandedOut h (length (drop (place_of k) longer)) ≡ false
    → payload_of skip HandedOut h (drop (place_of k) longer) ≡ payload_at longer k h
unfolding payload_of
whole_bytes longer skip h k read uncut =
    off _ _ (λ i. read i || uncut i) ∙ ap (λ (l : List ℕ). take (payload_size h) l) (drop-drop 64 (place_of k) longer)

-- Over whatever bytes follow, it is the same packet but for the payload.
module _ (longer : List ℕ) (set : Settings) (k : Kept) (h : RdhCru) (rest : List ℕ) (end end' : ℕ) where
  abbrev over : Outcome → Entry (List ℕ)
  over t = entry_of set t k.state k.fee_ids h rest end

  abbrev over' : Outcome → Entry (List ℕ)
  over' t = entry_of set t k.state k.fee_ids h (drop (place_of k) longer) end'

  handed_cut : set.skip_payload ≡ false → cut set.skip_payload HandedOut h (length rest) ≡ true
      → WasCut longer k (over HandedOut) (over' HandedOut)
  unfolding entry_of marks_of progress_after
  handed_cut read e =
      let skip = set.skip_payload in
      let p = k.state.progress in
      let rest' = drop (place_of k) longer in
      record {
        packet = record { header = h; payload = payload_of skip HandedOut h rest'; position = start_of p.load p.position; own = p.position };
        empty = ap (λ (l : List ℕ). answer_in HandedOut h l (start_of p.load p.position) p.position) (cut_empty skip HandedOut h rest e);
        filled = refl;
        whole = λ uncut. record { size = whole_size skip h rest' read uncut; bytes = whole_bytes longer skip h k read uncut };
        still_cut = cut_empty skip HandedOut h rest';
        marks = λ i. with_cut (e i) (over HandedOut).marks;
        state = refl;
        fee-ids = refl;
      }

  cut_entries : (t : Outcome) → cut set.skip_payload t h (length rest) ≡ true → WasCut longer k (over t) (over' t)
  cut_entries t e =
      let c = cut_tells set.skip_payload t h (length rest) e in
      subst (λ (u : Outcome). cut set.skip_payload u h (length rest) ≡ true → WasCut longer k (over u) (over' u))
      (sym c.handed_out) (handed_cut c.read) e

-- Where no place is above the limit, refusal 6 by state and list does not depend on it.
unusable-elsewhere : (s : State) (fee_ids : List ℕ) → s.progress.place.0 ≤ limit → unusable s fee_ids ≡ unusable (except_place s) fee_ids
unfolding unusable
unusable-elsewhere s fee_ids below = rw (le-ltb limit s.progress.place.0 below)

-- ---- the two chains, one entry at a time

module _ (recording added : List ℕ) (set : Settings) (fits : length (recording ++ added) ≤ limit) where
  abbrev Claim : Kept → Entry (List ℕ) → Entry (List ℕ) → Type 0
  Claim k e e' = Begins (recording ++ added) k (e ∷ behind (chain recording set) e) (e' ∷ behind (chain (recording ++ added) set) e')

  -- what is behind an entry that is not refused
  abbrev Onward : Entry (List ℕ) → Type 0
  Onward e = is_refused e.answer ≡ false → Begins (recording ++ added) (left e) (chain recording set (left e)) (chain (recording ++ added) set (left e))

  same_entry : (k : Kept) (e : Entry (List ℕ)) → Onward e → Claim k e e
  same_entry k e onward = same k e _ _ (by_refused (is_refused e.answer) refl)
    where
      by_refused : (b : Bool) → is_refused e.answer ≡ b
          → Begins (recording ++ added) (left e) (pick b [] (chain recording set (left e))) (pick b [] (chain (recording ++ added) set (left e)))
      by_refused true refused = same_end (left e)
      by_refused false goes = onward goes

  -- a whole header at the byte place
  module _ (k : Kept) (usable : unusable k.state k.fee_ids ≡ false) (whole : 64 ≤ length (drop (place_of k) recording)) where
    abbrev rest : List ℕ
    rest = drop (place_of k) recording

    abbrev rest' : List ℕ
    rest' = drop (place_of k) (recording ++ added)

    abbrev header : RdhCru
    header = decoded rest

    abbrev outcome : Outcome
    outcome = outcome_in set k.state.progress k.fee_ids header

    abbrev skip : Bool
    skip = set.skip_payload

    -- its entry over each of the two recordings
    abbrev e : Entry (List ℕ)
    e = entry_of set outcome k.state k.fee_ids header rest (length recording)

    abbrev e' : Entry (List ℕ)
    e' = entry_of set outcome k.state k.fee_ids header rest' (length (recording ++ added))

    rest_is : rest' ≡ rest ++ added
    rest_is = drop-append-le (place_of k) recording added (omega (arith, whole, length-drop (place_of k) recording))

    longer : length rest ≤ length rest'
    longer = omega (arith, ap length rest_is, length-append rest added)

    header_is : decoded rest' ≡ header
    header_is = ap decoded rest_is ∙ sym (decoded-take (length rest) (rest ++ added) whole) ∙ ap decoded (take-append_seam rest added)

    next_is : next (recording ++ added) set k ≡ e'
    next_is =
        step-header set k.state k.fee_ids rest' (length (recording ++ added)) usable (omega (arith, whole, longer))
        ∙ ap (λ (h : RdhCru). entry_of set (outcome_in set k.state.progress k.fee_ids h) k.state k.fee_ids h rest' (length (recording ++ added)))
        header_is

    same_payload : 64 + payload_size header ≤ length rest
        → take (payload_size header) (drop 64 rest) ≡ take (payload_size header) (drop 64 rest')
    same_payload enough =
        let size = payload_size header in
        sym (ap (λ (l : List ℕ). take size (drop 64 l)) rest_is
        ∙ ap (λ (l : List ℕ). take size l) (drop-append-le 64 rest added whole)
        ∙ take-append-le size (drop 64 rest) added (omega (arith, enough, length-drop 64 rest)))

    by_uncut : cut skip outcome header (length rest) ≡ false → Onward e → Claim k e e'
    by_uncut uncut onward =
        subst (Claim k e)
        (entry_uncut set outcome k.state k.fee_ids header rest rest' (length recording) (length (recording ++ added))
        (known_here set k.state k.fee_ids header) uncut (cut_more skip outcome header (length rest) (length rest') longer uncut) same_payload)
        (same_entry k e onward)

    module _ (is_cut : cut skip outcome header (length rest) ≡ true) where
      abbrev told : IsCut skip outcome header (length rest)
      told = cut_tells skip outcome header (length rest) is_cut

      was : WasCut (recording ++ added) k e e'
      was = cut_entries (recording ++ added) set k header rest (length recording) (length (recording ++ added)) outcome is_cut

      place_is : place_of (left e) ≡ length recording
      unfolding entry_of progress_after
      place_is = place_by_cut skip outcome header (place_of k) (length rest) (length recording) ∙ on _ _ is_cut

      place_inside : place_of (left e') ≤ length (recording ++ added)
      unfolding entry_of progress_after
      place_inside =
          place_read skip outcome header (place_of k) (length rest') (length (recording ++ added)) told.handed_out told.read
          (subst (Known set header) told.handed_out (known_here set k.state k.fee_ids header)).large
          (omega (arith, whole, length-drop (place_of k) recording, length-drop (place_of k) (recording ++ added), length-append recording added))

      same_six : unusable e.state e.fee_ids ≡ unusable e'.state e'.fee_ids
      same_six =
          unusable-elsewhere e.state e.fee_ids (omega (arith, place_is, fits, length-append recording added))
          ∙ (λ i. unusable (was.state i) (was.fee-ids i))
          ∙ sym (unusable-elsewhere e'.state e'.fee_ids (omega (arith, place_inside, fits)))

      -- a 6 changes nothing of what the two entries left
      both_six : BothSix (unchanged e.state e.fee_ids (refuses 6 [])) (unchanged e'.state e'.fee_ids (refuses 6 []))
      both_six = record { shorter = refl; longer = refl; marks = refl; state = was.state; fee-ids = was.fee-ids }

      -- the shorter chain closes with the next entry
      closes : (is_refused (next recording set (left e)).answer ≡ true)
          × Closes (next recording set (left e)) (chain (recording ++ added) set (left e'))
      unfolding ended
      closes =
          step_cases set e.state e.fee_ids (drop (place_of (left e)) recording) (length recording)
          (λ last. (is_refused last.answer ≡ true) × Closes last (chain (recording ++ added) set (left e')))
          (λ six.
          (refl, subst (Closes _) (sym (chain_six (recording ++ added) set (left e') (sym same_six ∙ six))) (with_6 _ _ both_six)))
          (λ usable short. (refl, with_1 _ _ refl))
          (λ usable some. absurd (omega (arith, some, place_is, length-drop (place_of (left e)) recording)))

      lone : chain recording set (left e) ≡ next recording set (left e) ∷ []
      lone = chain_unfolds recording set (left e) ∙ ap (λ (es : List (Entry (List ℕ))). next recording set (left e) ∷ es) (on _ _ closes.0)

      by_cut : Claim k e e'
      by_cut =
          subst (λ (a : Bool). Begins (recording ++ added) k (e ∷ pick a [] (chain recording set (left e))) (e' ∷ behind (chain (recording ++ added) set) e'))
          (sym (ap is_refused was.empty))
          (subst (λ (a : Bool). Begins (recording ++ added) k (e ∷ chain recording set (left e)) (e' ∷ pick a [] (chain (recording ++ added) set (left e'))))
          (sym (ap is_refused was.filled))
          (subst (λ (es : List (Entry (List ℕ))). Begins (recording ++ added) k (e ∷ es) (e' ∷ chain (recording ++ added) set (left e'))) (sym lone)
          (was_cut k e e' (next recording set (left e)) (chain (recording ++ added) set (left e')) was closes.1)))

    by_header : Onward e → Claim k e e'
    by_header onward = either (cut skip outcome header (length rest)) by_cut (λ uncut. by_uncut uncut onward)

  claim : (k : Kept) → Onward (next recording set k) → Claim k (next recording set k) (next (recording ++ added) set k)
  unfolding ended
  claim k =
      step_cases set k.state k.fee_ids (drop (place_of k) recording) (length recording)
      (λ e. Onward e → Claim k e (next (recording ++ added) set k))
      (λ six onward.
      subst (Claim k (unchanged k.state k.fee_ids _))
      (sym (step_six set k.state k.fee_ids (drop (place_of k) (recording ++ added)) (length (recording ++ added)) six))
      (same_entry k _ onward))
      (λ usable short onward. closing k _ _ refl)
      (λ usable whole onward. subst (Claim k (e k usable whole)) (sym (next_is k usable whole)) (by_header k usable whole onward))

pub added_bytes : AddedBytes
added_bytes recording added set start fits =
    chain_induction recording set (λ k. Begins (recording ++ added) k (chain recording set k) (chain (recording ++ added) set k))
    (λ k onward.
    subst₂ (Begins (recording ++ added) k) (sym (chain_unfolds recording set k)) (sym (chain_unfolds (recording ++ added) set k))
    (claim recording added set fits k onward))
    start
