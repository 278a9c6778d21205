-- One examination on a window of a recording: it answers with the next entry of the chain, or it is held back.
use Rattle.std.specs.Prelude.{ℕ, ◌+◌, ◌-◌, ◌≤◌, ◌<◌, max, Bool, true, false, ◌||◌, ◌&&◌, ◌≡◌, refl, eqb, ltb, take, drop}
use Rattle.std.proofs.lemmas.List.{nil_from_length}
use Rattle.std.proofs.Math.Bool.{not}
use Rattle.std.proofs.Math.Path.{ap, sym}
use Rattle.std.proofs.Common.{subst, ◌∙◌, arith, length-take, drop-drop}
use mathlib.Core.List.{List, [], ◌∷◌}
use borrow.Author.Tests.{eqb-true, le-ltb, lt-ltb, ltb-false}
use Rattle.std.proofs.Math.ListN.{length}
use Rattle.basis.specs.Pick.{pick}
use Rattle.basis.specs.PickLaws.{by_test, neither, off, on}
use Rattle.basis.specs.Refusals.{refuses}
use Rattle.rdh.specs.declared.rdh_cru.RdhCru.{RdhCru}
use Rattle.serde_rdh.specs.Layout.{decoded}
use Rattle.scan_cdp.specs.Steps.{Entry, answer_in, cut, ended, entry_of, limit, marks_of, payload_of, start_of, outcome_in, unchanged, unusable, with_place}
use Rattle.scan_cdp.specs.Outcomes.{payload_size}
use Rattle.scan_cdp.specs.Windows.{bytes_at, examined, located, outside, part_at, placed, shown, wanting}
use Rattle.scan_cdp.specs.declared.Part.{Part}
use Rattle.scan_cdp.specs.declared.Position.{Position}
use Rattle.scan_cdp.specs.declared.Settings.{Settings}
use Rattle.scan_cdp.specs.declared.State.{State}
use Rattle.scan_cdp.specs.declared.Outcome.{Outcome}
use Rattle.scan_laws.proofs.OutcomeLaws.{Known, known_here}
use Rattle.scan_laws.proofs.RowLaws.{answer_over, answer_as_lem, answer_cases, cut_more, cut_tells, either, entry_uncut}
use Rattle.scan_laws.proofs.StepLaws.{Admitted, examined_cases, step_six}
use Rattle.std.proofs.lemmas.List.{take_min}
use Rattle.scan_laws.proofs.WindowLaws.{step-ended, step-header}
use Rattle.chain.specs.Calls.{Hold, Window, WindowOf, read_entry, free, held, held_back, needed, read_from}
use Rattle.chain.specs.Chain.{Kept, next, place_of}
use Rattle.chain.proofs.WindowOfLaws.{same_end, same_greater, same_header, same_payload, shown-all, shown_fits}

-- ---- the payload is read back from the part of the window

part_read : (w : List ℕ) (start size : ℕ) → bytes_at w (part_at start (length (take size (drop start w)))) ≡ take size (drop start w)
unfolding bytes_at part_at
part_read w start size =
    let bytes = take size (drop start w) in
    by_test (λ (part : Part). bytes_at w part ≡ bytes) (eqb (length bytes) 0) _ _
    (λ none. sym (nil_from_length bytes (eqb-true (length bytes) 0 none)))
    (λ some. ap (λ (n : ℕ). take n (drop start w)) (length-take size (drop start w)) ∙ take_min size (drop start w))

none_read : (w : List ℕ) (start : ℕ) → bytes_at w (part_at start 0) ≡ []
unfolding bytes_at part_at
none_read w start = refl

-- The part that is handed out has the payload's bytes.
payload_read : (w : List ℕ) (place first start : ℕ) (skip : Bool) (t : Outcome) (h : RdhCru) → (place - first) + 64 ≡ start
    → bytes_at w (part_at start (length (payload_of skip t h (shown place first w)))) ≡ payload_of skip t h (shown place first w)
unfolding payload_of
payload_read w place first start skip t h begins =
    let here : drop 64 (shown place first w) ≡ drop start w = drop-drop 64 (place - first) w ∙ ap (λ (k : ℕ). drop k w) begins in
    by_test (λ (l : List ℕ). bytes_at w (part_at start (length l)) ≡ l) (skip || cut skip t h (length (shown place first w))) _ _
    (λ none. none_read w start)
    (λ read.
    subst (λ (l : List ℕ). bytes_at w (part_at start (length (take (payload_size h) l))) ≡ take (payload_size h) l) (sym here)
    (part_read w start (payload_size h)))

answer_read : (w : List ℕ) (place first start : ℕ) (skip : Bool) (t : Outcome) (h : RdhCru) (from position : Position)
    → (place - first) + 64 ≡ start
    → read_from w (placed start (answer_in t h (payload_of skip t h (shown place first w)) from position))
    ≡ answer_in t h (payload_of skip t h (shown place first w)) from position
answer_read w place first start skip t h from position begins =
    let payload = payload_of skip t h (shown place first w) in
    ap (read_from w) (answer_as_lem _ t h payload from position)
    ∙ answer_as_lem (bytes_at w) t h (part_at start (length payload)) from position
    ∙ ap (λ (l : List ℕ). answer_in t h l from position) (payload_read w place first start skip t h begins)

entry_read : (set : Settings) (s : State) (fee_ids w : List ℕ) (first : ℕ) (t : Outcome) (h : RdhCru) (end : ℕ) → first ≤ s.progress.place.0
    → read_entry w (located (s.progress.place.0 + 64 - first) (entry_of set t s fee_ids h (shown s.progress.place.0 first w) end))
    ≡ entry_of set t s fee_ids h (shown s.progress.place.0 first w) end
unfolding entry_of
entry_read set s fee_ids w first t h end starts =
    let p = s.progress in
    let begins : (p.place.0 - first) + 64 ≡ p.place.0 + 64 - first = omega (arith, starts) in
    let answer =
    answer_read w p.place.0 first (p.place.0 + 64 - first) set.skip_payload t h (start_of p.load p.position) p.position
    begins in
    let e = entry_of set t s fee_ids h (shown p.place.0 first w) end in
    λ i. record { answer = answer i; marks = e.marks; state = e.state; fee_ids = e.fee_ids }

-- ---- what an entry needs

needs_cut : (set : Settings) (t : Outcome) (h : RdhCru) (payload : List ℕ) (from position : Position) (size : ℕ) → Known set h t → 64 ≤ size
    → ltb size (needed set.skip_payload (answer_in t h payload from position)) ≡ cut set.skip_payload t h size
unfolding cut
needs_cut set t h payload from position size k whole =
    let skip = set.skip_payload in
    answer_cases set t h from position (λ u a. ltb size (needed skip (a payload)) ≡ cut skip u h size) k
    (λ number values r kept. le-ltb size 64 whole ∙ sym (ap (λ (b : Bool). b && not skip && ltb size (64 + payload_size h)) kept))
    (λ other. le-ltb size 64 whole)
    (λ taken. by_skip skip)
  where
    by_skip : (b : Bool) → ltb size (pick b 64 (64 + payload_size h)) ≡ (not b && ltb size (64 + payload_size h))
    by_skip true = le-ltb size 64 whole
    by_skip false = refl

needs_payload : (skip : Bool) (t : Outcome) (h : RdhCru) (payload : List ℕ) (from position : Position) (size : ℕ) → cut skip t h size ≡ true
    → 64 + payload_size h ≡ needed skip (answer_in t h payload from position)
needs_payload skip t h payload from position size e =
    let c = cut_tells skip t h size e in
    sym (ap (λ (u : Outcome). needed skip (answer_in u h payload from position)) c.handed_out ∙ off _ _ c.read)

-- ---- an examination

-- What an examination finds: the next entry, or what holds it back, which changes nothing.
abbrev pub found_by : Kept → Entry (List ℕ) → Hold → Entry (List ℕ)
found_by k e free = e
found_by k e (held a) = unchanged k.state k.fee_ids a

-- a refusal 1 that leaves the same place
ended_at : (k : Kept) (w : List ℕ) (a b : ℕ) → max (place_of k) a ≡ max (place_of k) b
    → read_entry w (ended k.state k.fee_ids a) ≡ ended k.state k.fee_ids b
unfolding ended
ended_at k w a b same =
    let e : Entry (List ℕ) = ended k.state k.fee_ids a in
    λ i. record { answer = e.answer; marks = e.marks; state = with_place (same i) e.state; fee_ids = e.fee_ids }

module _ (recording : List ℕ) (set : Settings) (k : Kept) (w : Window) (of : WindowOf recording w) where
  abbrev e : Entry (List ℕ)
  e = next recording set k

  -- what an examination replies is what the chain says that it finds
  abbrev Follows : Entry Part → Type 0
  Follows x = read_entry w.bytes x ≡ found_by k e (held_back set k w e)

  -- what the window shows, where it ends, and what the recording has
  abbrev rest : List ℕ
  rest = shown (place_of k) w.first w.bytes

  abbrev end : ℕ
  end = w.first + length w.bytes

  abbrev rest' : List ℕ
  rest' = drop (place_of k) recording

  by_six : (unusable k.state k.fee_ids || outside (place_of k) w.first (length w.bytes)) ≡ true
      → Follows (unchanged k.state k.fee_ids (refuses 6 []))
  unfolding held_back
  by_six six =
      either (unusable k.state k.fee_ids)
      (λ own. sym (ap (found_by k e) (on _ _ own) ∙ step_six set k.state k.fee_ids rest' (length recording) own))
      (λ usable.
      let out = sym (ap (λ (b : Bool). b || outside (place_of k) w.first (length w.bytes)) usable) ∙ six in
      sym (ap (found_by k e) (off _ _ usable ∙ on _ _ out)))

  module _ (a : Admitted k.state k.fee_ids w.bytes w.first) where
    starts : w.first ≤ place_of k
    unfolding outside
    starts = ltb-false (place_of k) w.first (neither (ltb (place_of k) w.first) (ltb limit end) a.window).0

    short_more : length rest < 64 → w.last ≡ false → Follows (wanting k.state k.fee_ids 64)
    unfolding held_back
    short_more few more =
        sym (ap (found_by k e) (off _ _ a.state ∙ off _ _ a.window ∙ off _ _ more ∙ on _ _ (lt-ltb (length rest) 64 few)))

    short_last : length rest < 64 → w.last ≡ true → Follows (ended k.state k.fee_ids end)
    unfolding held_back ended
    short_last few last =
        let all = shown-all recording w of (place_of k) starts last in
        ended_at k w.bytes end (length recording) (same_greater recording w of (place_of k) starts last)
        ∙ sym (ap (found_by k e) (off _ _ a.state ∙ off _ _ a.window ∙ on _ _ last)
        ∙ step-ended set k.state k.fee_ids rest' (length recording) a.state (subst (λ (l : List ℕ). length l < 64) all few))

    -- a header is shown
    module _ (whole : 64 ≤ length rest) where
      abbrev header : RdhCru
      header = decoded rest

      abbrev outcome : Outcome
      outcome = outcome_in set k.state.progress k.fee_ids header

      abbrev skip : Bool
      skip = set.skip_payload

      known : Known set header outcome
      known = known_here set k.state k.fee_ids header

      fits : length rest ≤ length rest'
      fits = shown_fits recording w of (place_of k) starts

      -- the next entry of the chain is that of the header that the window shows
      next_is : e ≡ entry_of set outcome k.state k.fee_ids header rest' (length recording)
      next_is =
          step-header set k.state k.fee_ids rest' (length recording) a.state (omega (arith, whole, fits))
          ∙ ap (λ (h : RdhCru). entry_of set (outcome_in set k.state.progress k.fee_ids h) k.state k.fee_ids h rest' (length recording))
          (sym (same_header recording w of (place_of k) starts whole))

      need_is : needed skip e.answer ≡ needed skip (answer_over set outcome k.state header rest')
      unfolding entry_of
      need_is = ap (λ (x : Entry (List ℕ)). needed skip x.answer) next_is

      cut_is : ltb (length rest) (needed skip e.answer) ≡ cut skip outcome header (length rest)
      cut_is = ap (ltb (length rest)) need_is ∙ needs_cut set outcome header _ _ _ (length rest) known whole

      long_wanted : w.last ≡ false → cut skip outcome header (length rest) ≡ true
          → Follows (wanting k.state k.fee_ids (64 + payload_size header))
      unfolding held_back
      long_wanted more is_cut =
          ap (wanting k.state k.fee_ids) (needs_payload skip outcome header _ _ _ (length rest) is_cut ∙ sym need_is)
          ∙ sym (ap (found_by k e)
          (off _ _ a.state ∙ off _ _ a.window ∙ off _ _ more ∙ off _ _ (le-ltb (length rest) 64 whole) ∙ on _ _ (cut_is ∙ is_cut)))

      long_found : (not w.last && cut skip outcome header (length rest)) ≡ false
          → Follows (located (place_of k + 64 - w.first) (entry_of set outcome k.state k.fee_ids header rest end))
      unfolding held_back
      long_found unwanted =
          entry_read set k.state k.fee_ids w.bytes w.first outcome header end starts
          ∙ either w.last
          (λ last.
          (λ i. entry_of set outcome k.state k.fee_ids header (shown-all recording w of (place_of k) starts last i)
          (same_end recording w of (place_of k) starts last whole i))
          ∙ sym (ap (found_by k e) (off _ _ a.state ∙ off _ _ a.window ∙ on _ _ last) ∙ next_is))
          (λ more.
          let uncut = sym (ap (λ (b : Bool). not b && cut skip outcome header (length rest)) more) ∙ unwanted in
          entry_uncut set outcome k.state k.fee_ids header rest rest' end (length recording) known uncut
          (cut_more skip outcome header (length rest) (length rest') fits uncut)
          (same_payload recording w of (place_of k) starts (payload_size header))
          ∙ sym (ap (found_by k e)
          (off _ _ a.state ∙ off _ _ a.window ∙ off _ _ more ∙ off _ _ (le-ltb (length rest) 64 whole) ∙ off _ _ (cut_is ∙ uncut))
          ∙ next_is))

  -- An examination takes the next entry, unless a want or a 6 by the window is due before it (C5).
  pub examination_follows : read_entry w.bytes (examined set k.state k.fee_ids w.bytes w.first w.last)
      ≡ found_by k (next recording set k) (held_back set k w (next recording set k))
  unfolding entry_of marks_of
  examination_follows =
      examined_cases set k.state k.fee_ids w.bytes w.first w.last Follows by_six short_more short_last long_wanted long_found

-- ---- a list of length 0

no_bytes : (l : List ℕ) → length l ≡ 0 → [] ≡ l
no_bytes [] e = refl
no_bytes (x ∷ l) e = absurd (omega (arith, e))
