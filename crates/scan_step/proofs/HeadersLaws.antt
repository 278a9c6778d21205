-- Laws of what is replied for a header, and that the replies are those of an examination.
use Rattle.std.specs.Prelude.{◌≡◌, refl, ℕ, ◌+◌, ◌-◌, ◌<◌, ◌≤◌, min, Bool, true, false, not, ◌&&◌, ◌||◌, List, [], length, drop, ℤ}
use Rattle.std.proofs.Math.Path.{ap, sym}
use Rattle.std.proofs.Common.{subst, ◌∙◌, arith, ltb-false, length-drop}
use Rattle.basis.specs.PickLaws.{neither, on, off}
use Rattle.basis.specs.Refusals.{gives, refuses}
use Rattle.outcome.specs.declared.Judged.{Judged}
use Rattle.rdh.specs.declared.rdh_cru.RdhCru.{RdhCru}
use Rattle.serde_rdh.specs.Layout.{decode, decoded}
use Rattle.serde_rdh.proofs.LayoutLaws.{decode-given, decode-refused}
use Rattle.scan_cdp.specs.Outcomes.{header_fee_id, payload_size, header_trigger_type}
use Rattle.scan_cdp.specs.Steps.{Entry, cut, entry_of, limit, lists, marks_of, numbers_unusable, outcome_in, places_listed, progress_after, triggers_after, used_listed, with_lent}
use Rattle.scan_cdp.specs.Steps.{unchanged}
use Rattle.scan_cdp.specs.Windows.{examined_unless, located, outside, reply_for, shown, wanting}
use Rattle.scan_cdp.specs.declared.Outcome.{Outcome}
use Rattle.scan_cdp.specs.declared.Part.{Part}
use Rattle.scan_cdp.specs.declared.Progress.{Progress}
use Rattle.scan_laws.proofs.StepLaws.{length_listed}
use Rattle.scan_laws.proofs.WindowLaws.{shown_within, unless_6, unless_header, unless_short}
use Rattle.scan_cdp.specs.Scans.{SameScan, state_of}
use Rattle.scan_cdp.specs.declared.Scan.{Scan}
use Rattle.scan_cdp.specs.declared.State.{State}
use Rattle.scan_step.specs.declared.Header.{Header}
use Rattle.scan_replies.specs.Examinations.{examination_of, lacking}
use Rattle.scan_replies.specs.declared.Examination.{Examination}
use Rattle.scan_window.specs.UnusableLaws.{inside}
use Rattle.scan_step.specs.Headers.{RepliesFor, Stepped, judged_in, listed}

-- ---- a header

module _ (s : Scan) (h : Header) (last : Bool) where
  -- what becomes of the header
  abbrev pub outcome : Outcome
  outcome = outcome_in s.set s.progress s.fee_ids.now h.rdh

  -- whether its payload is wanted
  abbrev pub wanted : Bool
  wanted = not last && cut s.set.skip_payload outcome h.rdh h.left

  -- as the entry of the header says it
  wanted_for : (rest : List ℕ) → length rest ≡ h.left → (end : ℕ)
      → (not last && (entry_of s.set outcome (state_of s) s.fee_ids.now h.rdh rest end).marks.payload_cut) ≡ wanted
  unfolding entry_of marks_of
  wanted_for rest size end = ap (λ (n : ℕ). not last && cut s.set.skip_payload outcome h.rdh n) size

  pub header-wanted : wanted ≡ true → RepliesFor s h last (wanting (state_of s) s.fee_ids.now (64 + payload_size h.rdh))
  header-wanted e rest size = sym (on _ _ (wanted_for rest size (s.progress.place.0 + h.left) ∙ e))

  -- a header that is listed and passed
  pub header_entered : wanted ≡ false → {due : Bool} {r : Examination} {after : Scan} → due ≡ lists s.set outcome s.progress
      → Stepped (listed due h.rdh s) (judged_in s h.rdh) h r after → RepliesFor s h last (examination_of r after)
  unfolding entry_of marks_of progress_after
  header_entered e {due} {r} {after} is entered rest size =
      there ∙ sym (off _ _ (wanted_for rest size (s.progress.place.0 + h.left) ∙ e))
    where
      there : examination_of r after
          ≡ located (h.start + 64) (entry_of s.set outcome (state_of s) s.fee_ids.now h.rdh rest (s.progress.place.0 + h.left))
      there =
          let set = s.set in
          let p = s.progress in
          λ i. record {
            answer = entered.answer rest size i;
            marks = (entered.marks ∙ ap (marks_of set outcome p h.rdh) (sym size)) i;
            state = (ap state_of entered.left ∙ (λ j. entered_state (is j) (sym size j))) i;
            fee_ids = (ap (λ (a : Scan). a.fee_ids.now) entered.left
                ∙ (λ j. places_listed (is j) (header_fee_id h.rdh) p.fee_ids_used s.fee_ids.now)) i;
          }
        where
          entered_state : Bool → ℕ → State
          entered_state d n =
              let p = s.progress in
              with_lent
              (progress_after s.set outcome p h.rdh n (p.place.0 + h.left)
              (used_listed d h.rdh.link_id p.links_used s.links.now)
              (used_listed d (header_fee_id h.rdh) p.fee_ids_used s.fee_ids.now))
              (places_listed d h.rdh.link_id p.links_used s.links.now)
              (triggers_after d (header_trigger_type h.rdh) s.triggers.now)

-- Listing a header leaves the scan the same one: a list that is lent keeps its length.
same_listed : (due : Bool) (rdh : RdhCru) (s : Scan) → SameScan s (listed due rdh s)
same_listed due rdh s =
    record {
      set = refl;
      links = refl;
      triggers = refl;
      fee_ids = refl;
      links_length = length_listed due rdh.link_id s.progress.links_used s.links.now;
      fee_ids_length = length_listed due (header_fee_id rdh) s.progress.fee_ids_used s.fee_ids.now;
    }

-- So does passing it.
pub same_stepped : (due : Bool) (rdh : RdhCru) {s t after : Scan} {j : Judged} {h : Header} {r : Examination} → t ≡ listed due rdh s
    → Stepped t j h r after → SameScan s after
same_stepped due rdh {s} is entered =
    let same = subst (λ (a : Scan). SameScan s a) (sym is) (same_listed due rdh s) in
    subst (λ (a : Scan). SameScan s a) (sym entered.left)
    (record {
      set = same.set;
      links = same.links;
      triggers = same.triggers;
      fee_ids = same.fee_ids;
      links_length = same.links_length;
      fee_ids_length = same.fee_ids_length;
    })

-- ---- the whole

-- Numbers that refusal 6 lets through have place and position within the limit.
pub record Within (p : Progress) : Type 0 where
  pub place : p.place.0 ≤ limit
  pub position : p.position.0 ≤ limit

pub within : (p : Progress) (links fee_ids : ℕ) → numbers_unusable p links fee_ids ≡ false → Within p
within p links fee_ids e =
    let (e₆, payload) = neither _ _ e in
    let (e₅, filtered) = neither _ _ e₆ in
    let (e₄, seen) = neither _ _ e₅ in
    let (e₃, fee_ids_used) = neither _ _ e₄ in
    let (e₂, links_used) = neither _ _ e₃ in
    let (place, position) = neither _ _ e₂ in
    record { place = ltb-false limit p.place.0 place; position = ltb-false limit p.position.0 position }

module _ (s : Scan) (w : List ℕ) (first : ℕ) (last : Bool) where
  -- refusal 6 by the numbers alone
  abbrev pub six : Bool
  six = numbers_unusable s.progress (length s.links.now) (length s.fee_ids.now)

  abbrev whole : Entry Part
  whole = examined_unless six s.set (state_of s) s.fee_ids.now w first last

  module _ (usable : six ≡ false) (in_window : outside s.progress.place.0 first (length w) ≡ false)
      (start : ℕ) (begins : start ≡ min (s.progress.place.0 - first) (length w)) where
    here : drop start w ≡ shown s.progress.place.0 first w
    here = shown_within s.progress.place.0 first w start begins

    -- too few bytes to decode
    pub stepped_lacking : (number : ℕ) (values : List ℤ) → refuses number values ≡ decode (drop start w) → lacking s (first + length w) last ≡ whole
    stepped_lacking number values e =
        let short = subst (λ (l : List ℕ). length l < 64) here (decode-refused (drop start w) number values e) in
        sym (unless_short six s.set (state_of s) s.fee_ids.now w first last usable in_window short)

    -- a header that was decoded
    pub stepped_decoded : (h : Header) → h.start ≡ start → h.left ≡ length (drop start w) → gives h.rdh ≡ decode (drop start w) → {e : Entry Part}
        → RepliesFor s h last e → e ≡ whole
    stepped_decoded h starts leaves is {e} replies =
        let set = s.set in
        let rest = shown s.progress.place.0 first w in
        let (long, header) = decode-given (drop start w) h.rdh is in
        let size : length rest ≡ h.left = sym (leaves ∙ ap (λ (l : List ℕ). length l) here) in
        let window = inside s.progress.place.0 first (length w) in_window in
        let begin : h.start + 64 ≡ s.progress.place.0 + 64 - first = omega (arith, starts, begins, long, length-drop start w, window.starts) in
        let end : s.progress.place.0 + h.left ≡ first + length w = omega (arith, leaves, begins, long, length-drop start w, window.starts) in
        let found = header ∙ ap decoded here in
        replies rest size
        ∙ (λ i. reply_for last (state_of s) s.fee_ids.now (found i) (begin i)
        (entry_of set (outcome_in set s.progress s.fee_ids.now (found i)) (state_of s) s.fee_ids.now (found i) rest (end i)))
        ∙ sym (unless_header six set (state_of s) s.fee_ids.now w first last usable in_window (subst (λ (l : List ℕ). 64 ≤ length l) here long))

  -- where refusal 6 is due, by the numbers or by the window
  pub stepped_refused : (six || outside s.progress.place.0 first (length w)) ≡ true → whole ≡ unchanged (state_of s) s.fee_ids.now (refuses 6 [])
  stepped_refused = unless_6 six s.set (state_of s) s.fee_ids.now w first last
