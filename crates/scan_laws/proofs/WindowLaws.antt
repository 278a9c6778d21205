-- Laws of an examination: which of its cases a window meets, and that the part of the window that is handed out holds the payload.
use Rattle.std.specs.Prelude.{ℕ, ◌+◌, ◌-◌, ◌≤◌, ◌<◌, min, Bool, true, false, not, ◌||◌, ◌&&◌, ◌≡◌, refl, List, [], ltb, take, drop}
use Rattle.std.proofs.lemmas.List.{drop_min, take_min}
use Rattle.std.proofs.Common.{ap, ◌∙◌, arith, lt-ltb, le-ltb, ltb-false, length-take, length-drop}
use Rattle.std.proofs.Math.ListN.{length}
use Rattle.basis.specs.Pick.{pick}
use Rattle.basis.specs.PickLaws.{on, off}
use Rattle.basis.specs.Refusals.{gives, refuses}
use Rattle.rdh.specs.declared.rdh_cru.RdhCru.{RdhCru}
use Rattle.serde_rdh.specs.Layout.{decoded}
use Rattle.scan_cdp.specs.Answers.{wants}
use Rattle.scan_cdp.specs.Steps.{answer_in, cut, ended, entry_at, payload_of, step, step_unless, unchanged, unusable}
use Rattle.scan_cdp.specs.Outcomes.{payload_size}
use Rattle.scan_cdp.specs.Windows.{bytes_at, examined, examined_unless, located, outside, part_at, placed, reply_for, shown, wanting}
use Rattle.scan_cdp.specs.declared.Part.{Part}
use Rattle.scan_cdp.specs.declared.Position.{Position}
use Rattle.scan_cdp.specs.declared.Settings.{Settings}
use Rattle.scan_cdp.specs.declared.State.{State}
use Rattle.scan_cdp.specs.declared.Outcome.{Outcome}
use Rattle.scan_cdp.specs.declared.Outcome.TheVariants.{FeeIdsFull, BadOffset, MemorySize, Passed, HandedOut}

-- ---- the payload

read_whole : (h : RdhCru) (rest : List ℕ) (short : Bool) → ltb (length rest) (64 + payload_size h) ≡ short
    → length (pick short [] (take (payload_size h) (drop 64 rest))) ≡ pick short 0 (payload_size h)
read_whole h rest true e = refl
read_whole h rest false e =
    length-take (payload_size h) (drop 64 rest)
    ∙ omega (arith, length-drop 64 rest, ltb-false (length rest) (64 + payload_size h) e)

-- How many bytes of a payload are handed out.
pub payload-length : (skip : Bool) (h : RdhCru) (rest : List ℕ)
    → length (payload_of skip HandedOut h rest) ≡ pick (skip || cut skip HandedOut h (length rest)) 0 (payload_size h)
unfolding payload_of cut
payload-length true h rest = refl
payload-length false h rest = read_whole h rest (ltb (length rest) (64 + payload_size h)) refl

-- The answer with the payload as the part of the window that it is. Only what is handed out has one.
pub placed_answer : (start : ℕ) (skip : Bool) (t : Outcome) (h : RdhCru) (rest : List ℕ) (from position : Position)
    → placed start (answer_in t h (payload_of skip t h rest) from position)
    ≡ answer_in t h (part_at start (length (payload_of skip HandedOut h rest))) from position
placed_answer start skip FeeIdsFull h rest from position = refl
placed_answer start skip BadOffset h rest from position = refl
placed_answer start skip MemorySize h rest from position = refl
placed_answer start skip Passed h rest from position = refl
placed_answer start skip HandedOut h rest from position = refl

-- ---- the cases of the step

pub step-ended : (set : Settings) (s : State) (fee_ids rest : List ℕ) (end : ℕ) → unusable s fee_ids ≡ false → length rest < 64
    → step set s fee_ids rest end ≡ ended s fee_ids end
unfolding step
step-ended set s fee_ids rest end usable short = off _ _ usable ∙ on _ _ (lt-ltb (length rest) 64 short)

pub step-header : (set : Settings) (s : State) (fee_ids rest : List ℕ) (end : ℕ) → unusable s fee_ids ≡ false → 64 ≤ length rest
    → step set s fee_ids rest end ≡ entry_at set s fee_ids rest end
unfolding step
step-header set s fee_ids rest end usable whole = off _ _ usable ∙ off _ _ (le-ltb (length rest) 64 whole)

-- ---- the cases of an examination, whatever refusal 6 is due by

module _ (six : Bool) (set : Settings) (s : State) (fee_ids w : List ℕ) (first : ℕ) (last : Bool) where
  abbrev pub place : ℕ
  place = s.progress.place.0

  abbrev pub rest : List ℕ
  rest = shown place first w

  pub unless_6 : (six || outside place first (length w)) ≡ true
      → examined_unless six set s fee_ids w first last ≡ unchanged s fee_ids (refuses 6 [])
  unless_6 e = on _ _ e

  module _ (usable : six ≡ false) (inside : outside place first (length w) ≡ false) where
    no_6 : (six || outside place first (length w)) ≡ false
    no_6 = λ i. usable i || inside i

    -- fewer than 64 bytes: a want, or refusal 1
    pub unless_short : length rest < 64
        → examined_unless six set s fee_ids w first last ≡ pick last (ended s fee_ids (first + length w)) (wanting s fee_ids 64)
    unfolding ended
    unless_short short = off _ _ no_6 ∙ by_last last
      where
        ends : step_unless six set s fee_ids rest (first + length w) ≡ ended s fee_ids (first + length w)
        ends = off _ _ usable ∙ on _ _ (lt-ltb (length rest) 64 short)

        by_last : (b : Bool)
            → pick (not b && ltb (length rest) 64) (wanting s fee_ids 64)
            (reply_for b s fee_ids (decoded rest) (place + 64 - first) (step_unless six set s fee_ids rest (first + length w)))
            ≡ pick b (ended s fee_ids (first + length w)) (wanting s fee_ids 64)
        by_last true = ap (located (place + 64 - first)) ends
        by_last false = on _ _ (lt-ltb (length rest) 64 short)

    -- a header: a want for its payload, or its entry
    pub unless_header : 64 ≤ length rest
        → examined_unless six set s fee_ids w first last
        ≡ reply_for last s fee_ids (decoded rest) (place + 64 - first) (entry_at set s fee_ids rest (first + length w))
    unless_header whole =
        off _ _ no_6 ∙ off _ _ (neither last)
        ∙ ap (reply_for last s fee_ids (decoded rest) (place + 64 - first)) (off _ _ usable ∙ off _ _ (le-ltb (length rest) 64 whole))
      where
        neither : (b : Bool) → (not b && ltb (length rest) 64) ≡ false
        neither true = refl
        neither false = le-ltb (length rest) 64 whole

-- ---- the cases of an examination

module _ (set : Settings) (s : State) (fee_ids w : List ℕ) (first : ℕ) (last : Bool) where
  abbrev six : Bool
  six = unusable s fee_ids

  pub refused_6 : (unusable s fee_ids || outside s.progress.place.0 first (length w)) ≡ true
      → examined set s fee_ids w first last ≡ unchanged s fee_ids (refuses 6 [])
  unfolding examined
  refused_6 = unless_6 six set s fee_ids w first last

  module _ (usable : unusable s fee_ids ≡ false) (inside : outside s.progress.place.0 first (length w) ≡ false) where
    pub examined_short : length (shown s.progress.place.0 first w) < 64
        → examined set s fee_ids w first last
        ≡ pick last (ended s fee_ids (first + length w)) (unchanged s fee_ids (gives (wants s.progress.place 64)))
    unfolding examined
    examined_short = unless_short six set s fee_ids w first last usable inside

    pub examined-header : 64 ≤ length (shown s.progress.place.0 first w)
        → examined set s fee_ids w first last
        ≡ reply_for last s fee_ids (decoded (shown s.progress.place.0 first w)) (s.progress.place.0 + 64 - first)
        (entry_at set s fee_ids (shown s.progress.place.0 first w) (first + length w))
    unfolding examined
    examined-header = unless_header six set s fee_ids w first last usable inside

-- What a window shows of the recording from a place on that is so far behind its first one.
pub shown_within : (place first : ℕ) (w : List ℕ) (start : ℕ) → start ≡ min (place - first) (length w) → drop start w ≡ shown place first w
shown_within place first w start e = ap (λ (i : ℕ). drop i w) e ∙ drop_min (place - first) w

-- ---- the bytes of a part

pub fitting : (n : ℕ) (l : List ℕ) → take (min n (length l)) l ≡ take n l
fitting n l = take_min n l

dropping : (n : ℕ) (l : List ℕ) → drop (min n (length l)) l ≡ drop n l
dropping n l = drop_min n l

-- A part that reaches beyond the window has the bytes that the window has of it.
pub bytes_within : (w : List ℕ) (part : Part) (start n : ℕ) → start ≡ min part.start (length w)
    → n ≡ min part.length (length w - start) → take (start + n - start) (drop start w) ≡ bytes_at w part
unfolding bytes_at
bytes_within w part start n begins size =
    let k = part.length in
    let bytes : drop start w ≡ drop part.start w = ap (λ (i : ℕ). drop i w) begins ∙ dropping part.start w in
    let taken : start + n - start ≡ min k (length (drop start w)) = omega (arith, size, length-drop start w) in
    ap (λ (i : ℕ). take i (drop start w)) taken ∙ fitting k (drop start w) ∙ ap (λ (l : List ℕ). take k l) bytes
