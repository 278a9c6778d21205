-- Laws of the rows: what an outcome answers, whether its payload is cut, where it leads and what its entry is. Each is said of all outcomes
-- at once, so that what builds on it goes through no outcomes again.
use Rattle.std.specs.Prelude.{ℕ, ◌+◌, ◌<◌, ◌≤◌, Bool, true, false, not, ◌||◌, ◌&&◌, List, [], ◌≡◌, ltb, ℤ, length, take, drop}
use Rattle.std.proofs.lemmas.Bool.{false≢true, not-true}
use Rattle.std.proofs.Math.Bool.{or-true}
use Rattle.std.proofs.Math.Path.{refl}
use Rattle.std.proofs.Common.{ap, subst₂, sym, ◌∙◌, arith, le-leb, le-ltb, ltb-false, ltb-true, length-drop, length-take}
use Rattle.basis.specs.Pick.{pick}
use Rattle.basis.specs.PickLaws.{both, by_test, off, on}
use Rattle.basis.specs.Refusals.{Answer, gives, refuses}
use Rattle.rdh.specs.declared.rdh_cru.RdhCru.{RdhCru}
use Rattle.scan_cdp.specs.Answers.{Found, answer_as, passed}
use Rattle.scan_cdp.specs.Steps.{answer_in, cut, entry_of, marks_of, payload_of, place_after, progress_after, start_of}
use Rattle.scan_cdp.specs.Outcomes.{hands_out, header_memory_size, payload_size}
use Rattle.scan_laws.specs.Elsewhere.{elsewhere}
use Rattle.scan_laws.proofs.OutcomeLaws.{Known, NotTaken, Taken}
use Rattle.scan_laws.specs.Runs.{one_to_four}
use Rattle.scan_cdp.specs.declared.Position.{Position}
use Rattle.scan_cdp.specs.declared.Settings.{Settings}
use Rattle.scan_cdp.specs.declared.State.{State}
use Rattle.scan_cdp.specs.declared.Outcome.{Outcome}
use Rattle.scan_cdp.specs.declared.Outcome.TheVariants.{FeeIdsFull, BadOffset, MemorySize, Passed, HandedOut}

-- ---- tests

-- What follows from a test and from its failing holds.
pub either : {A : Type 0} (b : Bool) → (b ≡ true → A) → (b ≡ false → A) → A
either true holds fails = holds refl
either false holds fails = fails refl

-- ---- the answer

-- An answer with the payload said in another way is the answer with that payload.
pub answer_as_lem : {P Q : Type 0} (f : P → Q) (t : Outcome) (h : RdhCru) (payload : P) (from position : Position)
    → answer_as f (answer_in t h payload from position) ≡ answer_in t h (f payload) from position
answer_as_lem f FeeIdsFull h payload from position = refl
answer_as_lem f BadOffset h payload from position = refl
answer_as_lem f MemorySize h payload from position = refl
answer_as_lem f Passed h payload from position = refl
answer_as_lem f HandedOut h payload from position = refl

-- The numbers with which a header is refused: 2, 3 and 4.
pub record RefusedNumber (number : ℕ) : Type 0 where
  pub least : 2 ≤ number
  pub most : number ≤ 4

pub header-number : (number : ℕ) → RefusedNumber number → one_to_four number ≡ true
header-number number r = λ i. le-leb 1 number (omega (arith, r.least)) i && le-leb number 4 r.most i

-- A header is refused, passed or handed out: what holds of the answer, for any payload, in these three cases holds of every outcome's.
pub answer_cases : {P : Type 0} (set : Settings) (t : Outcome) (h : RdhCru) (from position : Position)
    (Q : Outcome → (P → Answer (Found P)) → Type 0) → Known set h t
    → ((number : ℕ) (values : List ℤ) → RefusedNumber number → hands_out t ≡ false → Q t (λ payload. refuses number values))
    → (NotTaken set h → Q Passed (λ payload. gives passed))
    → (Taken set h → Q HandedOut (λ payload. answer_in HandedOut h payload from position))
    → Q t (λ payload. answer_in t h payload from position)
answer_cases set FeeIdsFull h from position Q k refused passes hands = refused 4 _ (record { least = omega arith; most = omega arith }) refl
answer_cases set BadOffset h from position Q k refused passes hands = refused 2 _ (record { least = omega arith; most = omega arith }) refl
answer_cases set MemorySize h from position Q k refused passes hands = refused 3 _ (record { least = omega arith; most = omega arith }) refl
answer_cases set Passed h from position Q k refused passes hands = passes k
answer_cases set HandedOut h from position Q k refused passes hands = hands k

-- ---- a payload that is cut

handed_out : (t : Outcome) → hands_out t ≡ true → t ≡ HandedOut
handed_out FeeIdsFull e = absurd (false≢true e)
handed_out BadOffset e = absurd (false≢true e)
handed_out MemorySize e = absurd (false≢true e)
handed_out Passed e = absurd (false≢true e)
handed_out HandedOut e = refl

-- A payload is cut only of a header that is handed out with its payload read, and where too few bytes are left (S6).
pub record IsCut (skip : Bool) (t : Outcome) (h : RdhCru) (left : ℕ) : Type 0 where
  pub handed_out : t ≡ HandedOut
  pub read : skip ≡ false
  pub lacks : left < 64 + payload_size h

pub cut_tells : (skip : Bool) (t : Outcome) (h : RdhCru) (left : ℕ) → cut skip t h left ≡ true → IsCut skip t h left
unfolding cut
cut_tells skip t h left e =
    let (due, lacks) = both (hands_out t && not skip) (ltb left (64 + payload_size h)) e in
    let (hands, reads) = both (hands_out t) (not skip) due in
    record { handed_out = handed_out t hands; read = not-true skip reads; lacks = ltb-true left (64 + payload_size h) lacks }

-- More bytes do not cut what fewer did not.
pub cut_more : (skip : Bool) (t : Outcome) (h : RdhCru) (left left' : ℕ) → left ≤ left' → cut skip t h left ≡ false → cut skip t h left' ≡ false
unfolding cut
cut_more skip t h left left' more = by_due (hands_out t && not skip)
  where
    by_due : (b : Bool) → (b && ltb left (64 + payload_size h)) ≡ false → (b && ltb left' (64 + payload_size h)) ≡ false
    by_due true e = le-ltb left' (64 + payload_size h) (omega (arith, more, ltb-false left (64 + payload_size h) e))
    by_due false e = refl

-- A payload that is cut is handed out empty; one that is read and not cut has its size.
pub cut_empty : (skip : Bool) (t : Outcome) (h : RdhCru) (rest : List ℕ) → cut skip t h (length rest) ≡ true → payload_of skip t h rest ≡ []
unfolding payload_of
cut_empty skip t h rest e = on _ _ (ap (λ (b : Bool). skip || b) e ∙ or-true skip)

pub whole_size : (skip : Bool) (h : RdhCru) (rest : List ℕ) → skip ≡ false → cut skip HandedOut h (length rest) ≡ false
    → length (payload_of skip HandedOut h rest) ≡ payload_size h
unfolding payload_of cut
whole_size skip h rest read uncut =
    let enough = sym (ap (λ (b : Bool). not b && ltb (length rest) (64 + payload_size h)) read) ∙ uncut in
    ap (λ (l : List ℕ). length l) (off _ _ (λ i. read i || uncut i))
    ∙ length-take (payload_size h) (drop 64 rest)
    ∙ omega (arith, length-drop 64 rest, ltb-false (length rest) (64 + payload_size h) enough)

-- A payload that is not cut is the same over two recordings that have the same bytes of it.
payload_uncut : (skip : Bool) (h : RdhCru) (rest rest' : List ℕ)
    → cut skip HandedOut h (length rest) ≡ false → cut skip HandedOut h (length rest') ≡ false
    → (64 + payload_size h ≤ length rest → take (payload_size h) (drop 64 rest) ≡ take (payload_size h) (drop 64 rest'))
    → payload_of skip HandedOut h rest ≡ payload_of skip HandedOut h rest'
unfolding payload_of cut
payload_uncut true h rest rest' e e' agree = refl
payload_uncut false h rest rest' e e' agree = off _ _ e ∙ agree (ltb-false (length rest) (64 + payload_size h) e) ∙ sym (off _ _ e')

-- ---- the byte place

-- The byte place depends on the recording's end only where the payload is cut.
pub place_by_cut : (skip : Bool) (t : Outcome) (h : RdhCru) (place left end : ℕ)
    → place_after skip t h place left end ≡ pick (cut skip t h left) end (place_after skip t h place (64 + payload_size h) 0)
unfolding place_after cut
place_by_cut skip FeeIdsFull h place left end = refl
place_by_cut skip BadOffset h place left end = refl
place_by_cut skip MemorySize h place left end = refl
place_by_cut skip Passed h place left end = refl
place_by_cut true HandedOut h place left end = refl
place_by_cut false HandedOut h place left end =
    let whole : ltb (64 + payload_size h) (64 + payload_size h) ≡ false = le-ltb (64 + payload_size h) (64 + payload_size h) (omega arith) in
    ap (λ (n : ℕ). pick (ltb left (64 + payload_size h)) end n) (sym (off _ _ whole))

-- A payload that is read does not lead beyond the end.
pub place_read : (skip : Bool) (t : Outcome) (h : RdhCru) (place left end : ℕ) → t ≡ HandedOut → skip ≡ false → 64 ≤ header_memory_size h
    → place + left ≤ end → place_after skip t h place left end ≤ end
unfolding place_after cut
place_read skip t h place left end hands read large inside =
    subst₂ (λ (b : Bool) (u : Outcome). place_after b u h place left end ≤ end) (sym read) (sym hands)
    (by_test (λ (n : ℕ). n ≤ end) (ltb left (64 + payload_size h)) _ _
    (λ lacks. omega arith) (λ enough. omega (arith, large, inside, ltb-false left (64 + payload_size h) enough)))

-- Each row moves it on by 64 or more.
pub place_moves : (set : Settings) (t : Outcome) (h : RdhCru) (place left end : ℕ) → Known set h t → place + 64 ≤ end
    → place + 64 ≤ place_after set.skip_payload t h place left end
unfolding place_after
place_moves set FeeIdsFull h place left end k ends = omega arith
place_moves set BadOffset h place left end k ends = omega arith
place_moves set MemorySize h place left end k ends = omega arith
place_moves set Passed h place left end k ends = omega (arith, k.good.least)
place_moves set HandedOut h place left end k ends =
    by_test (λ (n : ℕ). place + 64 ≤ n) set.skip_payload _ _
    (λ e. omega (arith, k.good.least))
    (λ e. by_test (λ (n : ℕ). place + 64 ≤ n) (cut set.skip_payload HandedOut h left) _ _ (λ c. ends) (λ c. omega (arith, k.large)))

-- ---- the entry

-- The answer that a header has over some bytes.
abbrev pub answer_over : Settings → Outcome → State → RdhCru → List ℕ → Answer (Found (List ℕ))
answer_over set t s h rest =
    let p = s.progress in
    answer_in t h (payload_of set.skip_payload t h rest) (start_of p.load p.position) p.position

module _ (set : Settings) (t : Outcome) (s : State) (fee_ids : List ℕ) (h : RdhCru) where
  abbrev skip : Bool
  skip = set.skip_payload

  abbrev place : ℕ
  place = s.progress.place.0

  -- Two entries of one header differ in the answer's payload, the E100 mark and the byte place alone.
  pub entry_elsewhere : (rest rest' : List ℕ) (end end' : ℕ)
      → elsewhere (answer_over set t s h rest') (cut skip t h (length rest')) (place_after skip t h place (length rest') end')
      (entry_of set t s fee_ids h rest end)
      ≡ entry_of set t s fee_ids h rest' end'
  unfolding entry_of marks_of progress_after
  entry_elsewhere rest rest' end end' = refl

  module _ (rest rest' : List ℕ) (end end' : ℕ) (known : Known set h t)
      (uncut : cut skip t h (length rest) ≡ false) (uncut' : cut skip t h (length rest') ≡ false)
      (agree : 64 + payload_size h ≤ length rest → take (payload_size h) (drop 64 rest) ≡ take (payload_size h) (drop 64 rest')) where
    place_uncut : place_after skip t h place (length rest) end ≡ place_after skip t h place (length rest') end'
    place_uncut =
        place_by_cut skip t h place (length rest) end ∙ off _ _ uncut ∙ sym (place_by_cut skip t h place (length rest') end' ∙ off _ _ uncut')

    answer_uncut : answer_over set t s h rest ≡ answer_over set t s h rest'
    answer_uncut =
        let from = start_of s.progress.load s.progress.position in
        let position = s.progress.position in
        answer_cases set t h from position
        (λ u a. cut skip u h (length rest) ≡ false → cut skip u h (length rest') ≡ false → a (payload_of skip u h rest) ≡ a (payload_of skip u h rest'))
        known (λ number values r kept e e'. refl) (λ other e e'. refl)
        (λ taken e e'. ap (λ (l : List ℕ). answer_in HandedOut h l from position) (payload_uncut skip h rest rest' e e' agree)) uncut uncut'

    -- Where neither cuts the payload, and both recordings have the same one, they are the same.
    pub entry_uncut : entry_of set t s fee_ids h rest end ≡ entry_of set t s fee_ids h rest' end'
    entry_uncut =
        sym (entry_elsewhere rest rest end end)
        ∙ (λ i. elsewhere (answer_uncut i) ((uncut ∙ sym uncut') i) (place_uncut i) (entry_of set t s fee_ids h rest end))
        ∙ entry_elsewhere rest rest' end end'
