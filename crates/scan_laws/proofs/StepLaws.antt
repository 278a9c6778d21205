-- Laws of one examination: what holds of a state that refusal 6 lets through, and of what an examination leaves.
use Rattle.std.specs.Prelude.{ℕ, ◌+◌, ◌-◌, ◌<◌, ◌≤◌, Bool, true, false, not, ◌||◌, ◌&&◌, List, [], ◌≡◌, refl, ltb, ℤ, length, take}
use Rattle.std.proofs.lemmas.Bool.{false≢true, eqb-false, not-true}
use Rattle.std.proofs.Common.{true≢false, ap, subst, sym, ◌∙◌, arith, ltb-false, ltb-true, ne_eqb, length-drop}
use Rattle.basis.specs.PickLaws.{both, by_test, neither, on}
use Rattle.basis.specs.Refusals.{Answer, gives, refuses}
use Rattle.rdh.specs.declared.rdh_cru.RdhCru.{RdhCru}
use Rattle.serde_rdh.specs.Layout.{decoded}
use Rattle.stats.specs.Counts.{full_count}
use Rattle.stats.specs.Lists.{twice}
use Rattle.stats.specs.ListsLaws.{length_places, once_kept, used_kept}
use Rattle.scan_cdp.specs.Answers.{Found, Handed, handed, passed}
use Rattle.scan_cdp.specs.Loads.{is_passed}
use Rattle.scan_laws.proofs.OutcomeLaws.{Known, NotTaken, Taken, known_here}
use Rattle.scan_laws.proofs.RowLaws.{RefusedNumber, answer_as_lem, answer_cases, place_moves}
use Rattle.scan_laws.specs.Runs.{closes, is_refusal, is_want}
use Rattle.scan_laws.proofs.WindowLaws.{examined-header, examined_short, refused_6}
use Rattle.scan_cdp.specs.Steps.{Entry, answer_in, ended, entry_at, entry_of, is_first, limit, load_after, no_marks, place_after, places_listed, progress_after}
use Rattle.scan_cdp.specs.Steps.{payload_of, start_of, step, outcome_in, unchanged, unusable, used_listed}
use Rattle.scan_cdp.specs.Outcomes.{header_fee_id, offset, payload_size}
use Rattle.scan_cdp.proofs.SkipDistanceLaws.{GoodOffset}
use Rattle.scan_cdp.specs.Windows.{examined, located, outside, placed, shown, wanting}
use Rattle.scan_cdp.specs.declared.Part.{Part}
use Rattle.scan_cdp.specs.declared.Position.{Position}
use Rattle.scan_cdp.specs.declared.Settings.{Settings}
use Rattle.scan_cdp.specs.declared.State.{State}
use Rattle.scan_cdp.specs.declared.Outcome.{Outcome}
use Rattle.scan_cdp.specs.declared.Outcome.TheVariants.{Passed}

-- ---- a state and a list that refusal 6 lets through

pub record Usable (s : State) (fee_ids : List ℕ) : Type 0 where
  pub place : s.progress.place.0 ≤ limit
  pub position : s.progress.position.0 ≤ limit
  pub links-used : s.progress.links_used ≤ length s.links
  pub fee-ids-used : s.progress.fee_ids_used ≤ length fee_ids
  pub once : twice (take s.progress.links_used s.links) ≡ false
  pub seen : s.progress.counts.seen ≡ full_count → ⊥
  pub filtered : s.progress.counts.filtered ≡ full_count → ⊥
  pub payload : s.progress.counts.payload ≡ full_count → ⊥

pub usable : (s : State) (fee_ids : List ℕ) → unusable s fee_ids ≡ false → Usable s fee_ids
unfolding unusable
usable s fee_ids e =
    let p = s.progress in
    let (e₇, once) = neither _ _ e in
    let (e₆, payload) = neither _ _ e₇ in
    let (e₅, filtered) = neither _ _ e₆ in
    let (e₄, seen) = neither _ _ e₅ in
    let (e₃, fee_ids_used) = neither _ _ e₄ in
    let (e₂, links_used) = neither _ _ e₃ in
    let (place, position) = neither _ _ e₂ in
    record {
      place = ltb-false limit p.place.0 place;
      position = ltb-false limit p.position.0 position;
      links-used = ltb-false (length s.links) p.links_used links_used;
      fee-ids-used = ltb-false (length fee_ids) p.fee_ids_used fee_ids_used;
      once = once;
      seen = eqb-false p.counts.seen full_count seen;
      filtered = eqb-false p.counts.filtered full_count filtered;
      payload = eqb-false p.counts.payload full_count payload;
    }

-- ---- the cases of an examination

-- State, list and window that refusal 6 lets through.
pub record Admitted (s : State) (fee_ids w : List ℕ) (first : ℕ) : Type 0 where
  pub state : unusable s fee_ids ≡ false
  pub window : outside s.progress.place.0 first (length w) ≡ false

-- The bytes from a state's byte place on that a window shows.
abbrev pub shown_to : State → (w : List ℕ) → (first : ℕ) → List ℕ
shown_to s w first = shown s.progress.place.0 first w

-- A header is refused with 2, 3 or 4, passed or handed out: what holds in these three cases holds of what its entry answers.
pub entry_cases : (set : Settings) (s : State) (fee_ids rest : List ℕ) (end : ℕ) (P : Answer (Found (List ℕ)) → Type 0)
    → ((number : ℕ) (values : List ℤ) → RefusedNumber number → P (refuses number values))
    → (NotTaken set (decoded rest) → P (gives passed))
    → ((p : Handed (List ℕ)) → p.header ≡ decoded rest → Taken set (decoded rest) → P (gives (handed p)))
    → P (entry_at set s fee_ids rest end).answer
unfolding entry_of
entry_cases set s fee_ids rest end P refused passes hands =
    let p = s.progress in
    let h = decoded rest in
    let t = outcome_in set p fee_ids h in
    answer_cases set t h (start_of p.load p.position) p.position
    (λ u a. P (a (payload_of set.skip_payload t h rest))) (known_here set s fee_ids h)
    (λ number values r kept. refused number values r) passes (hands _ refl)

pub step_six : (set : Settings) (s : State) (fee_ids rest : List ℕ) (end : ℕ) → unusable s fee_ids ≡ true
    → step set s fee_ids rest end ≡ unchanged s fee_ids (refuses 6 [])
unfolding step
step_six set s fee_ids rest end six = on _ _ six

-- What holds of the entry in each of three cases holds of the step.
pub step_cases : (set : Settings) (s : State) (fee_ids rest : List ℕ) (end : ℕ) (P : Entry (List ℕ) → Type 0)
    → (unusable s fee_ids ≡ true → P (unchanged s fee_ids (refuses 6 [])))
    → (unusable s fee_ids ≡ false → length rest < 64 → P (ended s fee_ids end))
    → (unusable s fee_ids ≡ false → 64 ≤ length rest → P (entry_at set s fee_ids rest end))
    → P (step set s fee_ids rest end)
unfolding step
step_cases set s fee_ids rest end P six ends enters =
    by_test P (unusable s fee_ids) _ _ six (λ usable.
    by_test P (ltb (length rest) 64) _ _
    (λ short. ends usable (ltb-true (length rest) 64 short)) (λ long. enters usable (ltb-false (length rest) 64 long)))

-- What holds of the entry in each of five cases holds of the examination.
pub examined_cases : (set : Settings) (s : State) (fee_ids w : List ℕ) (first : ℕ) (last : Bool) (P : Entry Part → Type 0)
    → ((unusable s fee_ids || outside s.progress.place.0 first (length w)) ≡ true → P (unchanged s fee_ids (refuses 6 [])))
    → (Admitted s fee_ids w first → length (shown_to s w first) < 64 → last ≡ false → P (wanting s fee_ids 64))
    → (Admitted s fee_ids w first → length (shown_to s w first) < 64 → last ≡ true
    → P (ended s fee_ids (first + length w)))
    → (Admitted s fee_ids w first → 64 ≤ length (shown_to s w first) → last ≡ false
    → (entry_at set s fee_ids (shown_to s w first) (first + length w)).marks.payload_cut ≡ true
    → P (wanting s fee_ids (64 + payload_size (decoded (shown_to s w first)))))
    → (Admitted s fee_ids w first → 64 ≤ length (shown_to s w first)
    → (not last && (entry_at set s fee_ids (shown_to s w first) (first + length w)).marks.payload_cut) ≡ false
    → P (located (s.progress.place.0 + 64 - first) (entry_at set s fee_ids (shown_to s w first) (first + length w))))
    → P (examined set s fee_ids w first last)
examined_cases set s fee_ids w first last P six short ends cuts enters = by_6 (unusable s fee_ids || outside place first (length w)) refl
  where
    place : ℕ
    place = s.progress.place.0

    rest : List ℕ
    rest = shown_to s w first

    entry : Entry (List ℕ)
    entry = entry_at set s fee_ids rest (first + length w)

    by_length : Admitted s fee_ids w first → (b : Bool) → ltb (length rest) 64 ≡ b → P (examined set s fee_ids w first last)
    by_length a true e =
        let below = ltb-true (length rest) 64 e in
        subst P (sym (examined_short set s fee_ids w first last a.state a.window below))
        (by_test P last _ _ (ends a below) (short a below))
    by_length a false e =
        let above = ltb-false (length rest) 64 e in
        subst P (sym (examined-header set s fee_ids w first last a.state a.window above))
        (by_test P (not last && entry.marks.payload_cut) _ _
        (λ lacks. let (more, cut_off) = both (not last) entry.marks.payload_cut lacks in cuts a above (not-true last more) cut_off)
        (enters a above))

    by_6 : (b : Bool) → (unusable s fee_ids || outside place first (length w)) ≡ b → P (examined set s fee_ids w first last)
    by_6 true e = subst P (sym (refused_6 set s fee_ids w first last e)) (six e)
    by_6 false e =
        let (state, window) = neither (unusable s fee_ids) (outside place first (length w)) e in
        by_length (record { state = state; window = window }) (ltb (length rest) 64) refl

-- ---- the lists that an examination leaves

pub length_listed : (due : Bool) (x used : ℕ) (l : List ℕ) → length (places_listed due x used l) ≡ length l
unfolding places_listed
length_listed true x used l = length_places x used l
length_listed false x used l = refl

used_listed_lem : (due : Bool) (x used : ℕ) (l : List ℕ) → used ≤ length l → used_listed due x used l ≤ length (places_listed due x used l)
unfolding places_listed used_listed
used_listed_lem true x used l h = used_kept x used l h
used_listed_lem false x used l h = h

once_listed : (due : Bool) (x used : ℕ) (l : List ℕ) → twice (take used l) ≡ false
    → twice (take (used_listed due x used l) (places_listed due x used l)) ≡ false
unfolding places_listed used_listed
once_listed true x used l once = once_kept x used l once
once_listed false x used l once = once

-- The lists are as long as before.
pub record SameLengths (s : State) (fee_ids : List ℕ) (e : Entry Part) : Type 0 where
  pub links : length e.state.links ≡ length s.links
  pub fee-ids : length e.fee_ids ≡ length fee_ids

pub examined_lengths : (set : Settings) (s : State) (fee_ids w : List ℕ) (first : ℕ) (last : Bool)
    → SameLengths s fee_ids (examined set s fee_ids w first last)
unfolding ended entry_of
examined_lengths set s fee_ids w first last =
    examined_cases set s fee_ids w first last (SameLengths s fee_ids)
    (λ e. record { links = refl; fee-ids = refl })
    (λ a b e. record { links = refl; fee-ids = refl })
    (λ a b e. record { links = refl; fee-ids = refl })
    (λ a b e f. record { links = refl; fee-ids = refl })
    (λ a b e. record { links = length_listed _ _ _ s.links; fee-ids = length_listed _ _ _ fee_ids })

-- Used numbers lie in the lists, and no link is listed twice.
pub record InOrder (e : Entry Part) : Type 0 where
  pub links-used : e.state.progress.links_used ≤ length e.state.links
  pub fee-ids-used : e.state.progress.fee_ids_used ≤ length e.fee_ids
  pub once : twice (take e.state.progress.links_used e.state.links) ≡ false

unchanged_in_order : (s : State) (fee_ids : List ℕ) (answer : Answer (Found Part)) → Usable s fee_ids → InOrder (unchanged s fee_ids answer)
unchanged_in_order s fee_ids answer u = record { links-used = u.links-used; fee-ids-used = u.fee-ids-used; once = u.once }

ended_in_order : (s : State) (fee_ids : List ℕ) (end : ℕ) → Usable s fee_ids → InOrder (ended s fee_ids end)
unfolding ended
ended_in_order s fee_ids end u = record { links-used = u.links-used; fee-ids-used = u.fee-ids-used; once = u.once }

entry_in_order : (set : Settings) (s : State) (fee_ids rest : List ℕ) (end start : ℕ) → Usable s fee_ids
    → InOrder (located start (entry_at set s fee_ids rest end))
unfolding entry_of progress_after
entry_in_order set s fee_ids rest end start u =
    let h = decoded rest in
    record {
      links-used = used_listed_lem _ h.link_id s.progress.links_used s.links u.links-used;
      fee-ids-used = used_listed_lem _ (header_fee_id h) s.progress.fee_ids_used fee_ids u.fee-ids-used;
      once = once_listed _ h.link_id s.progress.links_used s.links u.once;
    }

pub examined_in_order : (set : Settings) (s : State) (fee_ids w : List ℕ) (first : ℕ) (last : Bool) → Usable s fee_ids
    → InOrder (examined set s fee_ids w first last)
examined_in_order set s fee_ids w first last u =
    examined_cases set s fee_ids w first last InOrder
    (λ six. unchanged_in_order s fee_ids _ u)
    (λ a short more. unchanged_in_order s fee_ids _ u)
    (λ a short all. ended_in_order s fee_ids (first + length w) u)
    (λ a long more cuts. unchanged_in_order s fee_ids _ u)
    (λ a long whole. entry_in_order set s fee_ids (shown_to s w first) (first + length w) _ u)

-- ---- how far an examination moves the byte place

-- A header that a window shows.
record Shown (place first size : ℕ) : Type 0 where
  starts : first ≤ place
  ends : place + 64 ≤ first + size

is_shown : (s : State) (fee_ids w : List ℕ) (first : ℕ) → Admitted s fee_ids w first → 64 ≤ length (shown_to s w first)
    → Shown s.progress.place.0 first (length w)
unfolding outside
is_shown s fee_ids w first a h =
    let place = s.progress.place.0 in
    let (starts, ends) = neither (ltb place first) (ltb limit (first + length w)) a.window in
    let begins = ltb-false place first starts in
    record { starts = begins; ends = omega (arith, begins, h, length-drop (place - first) w) }

-- only a passed header is answered with that
only_passed : {P : Type 0} (set : Settings) (t : Outcome) (h : RdhCru) (payload : P) (from position : Position) → Known set h t
    → is_passed (answer_in t h payload from position) ≡ true → t ≡ Passed
only_passed set t h payload from position k =
    answer_cases set t h from position (λ u a. is_passed (a payload) ≡ true → u ≡ Passed) k
    (λ number values r kept e. absurd (false≢true e)) (λ other e. refl) (λ taken e. absurd (false≢true e))

-- What an examination that passed a header found, and what it left.
pub record PassedOn (s : State) (fee_ids w : List ℕ) (first : ℕ) (e : Entry Part) : Type 0 where
  pub state : unusable s fee_ids ≡ false
  pub starts : first ≤ s.progress.place.0
  pub ends : s.progress.place.0 + 64 ≤ first + length w
  pub least : s.progress.place.0 + 64 ≤ e.state.progress.place.0
  pub most : e.state.progress.place.0 ≤ s.progress.place.0 + 10064
  pub links : length e.state.links ≡ length s.links
  pub fee-ids : length e.fee_ids ≡ length fee_ids
  pub links-used : e.state.progress.links_used ≤ length e.state.links
  pub fee-ids-used : e.state.progress.fee_ids_used ≤ length e.fee_ids
  pub once : twice (take e.state.progress.links_used e.state.links) ≡ false
  pub later : is_first e.state.progress.load ≡ false

entry_passed : (set : Settings) (s : State) (fee_ids w : List ℕ) (first : ℕ) (start : ℕ) → Admitted s fee_ids w first
    → 64 ≤ length (shown_to s w first)
    → is_passed (located start (entry_at set s fee_ids (shown_to s w first) (first + length w))).answer ≡ true
    → PassedOn s fee_ids w first (located start (entry_at set s fee_ids (shown_to s w first) (first + length w)))
unfolding entry_of progress_after place_after
entry_passed set s fee_ids w first start a long e =
    let p = s.progress in
    let rest = shown_to s w first in
    let h = decoded rest in
    let t = outcome_in set p fee_ids h in
    let known = known_here set s fee_ids h in
    let is : t ≡ Passed = only_passed set t h _ _ _ known (ap is_passed (sym (answer_as_lem _ t h _ _ _)) ∙ e) in
    let good : GoodOffset (offset h) = (subst (Known set h) is known).good in
    let place : place_after set.skip_payload t h p.place.0 (length rest) (first + length w) ≡ p.place.0 + offset h =
    ap (λ (u : Outcome). place_after set.skip_payload u h p.place.0 (length rest) (first + length w)) is in
    let shows = is_shown s fee_ids w first a long in
    let order = entry_in_order set s fee_ids rest (first + length w) start (usable s fee_ids a.state) in
    record {
      state = a.state;
      starts = shows.starts;
      ends = shows.ends;
      least = omega (arith, place, good.least);
      most = omega (arith, place, good.most);
      links = length_listed _ _ _ s.links;
      fee-ids = length_listed _ _ _ fee_ids;
      links-used = order.links-used;
      fee-ids-used = order.fee-ids-used;
      once = order.once;
      later = ap (λ (u : Outcome). is_first (load_after u p.load p.position)) is;
    }

pub examined_passed : (set : Settings) (s : State) (fee_ids w : List ℕ) (first : ℕ) (last : Bool)
    → is_passed (examined set s fee_ids w first last).answer ≡ true → PassedOn s fee_ids w first (examined set s fee_ids w first last)
unfolding ended
examined_passed set s fee_ids w first last =
    examined_cases set s fee_ids w first last (λ e. is_passed e.answer ≡ true → PassedOn s fee_ids w first e)
    (λ six e. absurd (false≢true e))
    (λ a short more e. absurd (false≢true e))
    (λ a short all e. absurd (false≢true e))
    (λ a long more cuts e. absurd (false≢true e))
    (λ a long whole e. entry_passed set s fee_ids w first (s.progress.place.0 + 64 - first) a long e)

-- What an examination that moved the byte place found, and how far it moved it. No bound above is stated: an offset or a memory size may
-- lead past the window's end.
pub record MovedOn (s : State) (w : List ℕ) (first : ℕ) (e : Entry Part) : Type 0 where
  pub starts : first ≤ s.progress.place.0
  pub ends : s.progress.place.0 + 64 ≤ first + length w
  pub least : s.progress.place.0 + 64 ≤ e.state.progress.place.0

entry_moves : (set : Settings) (s : State) (fee_ids w : List ℕ) (first : ℕ) (start : ℕ) → Admitted s fee_ids w first
    → 64 ≤ length (shown_to s w first)
    → MovedOn s w first (located start (entry_at set s fee_ids (shown_to s w first) (first + length w)))
unfolding entry_of progress_after
entry_moves set s fee_ids w first start a long =
    let place = s.progress.place.0 in
    let rest = shown_to s w first in
    let h = decoded rest in
    let shows = is_shown s fee_ids w first a long in
    let moved = place_moves set _ h place (length rest) (first + length w) (known_here set s fee_ids h) shows.ends in
    record { starts = shows.starts; ends = shows.ends; least = moved }

-- All but a want and the end (1 or 6) move on.
pub moves_on : (set : Settings) (s : State) (fee_ids w : List ℕ) (first : ℕ) (last : Bool)
    → closes (examined set s fee_ids w first last).answer ≡ false → is_want (examined set s fee_ids w first last).answer ≡ false
    → MovedOn s w first (examined set s fee_ids w first last)
unfolding ended
moves_on set s fee_ids w first last =
    examined_cases set s fee_ids w first last
    (λ e. closes e.answer ≡ false → is_want e.answer ≡ false → MovedOn s w first e)
    (λ six e f. absurd (true≢false e))
    (λ a short more e f. absurd (true≢false f))
    (λ a short all e f. absurd (true≢false e))
    (λ a long more cuts e f. absurd (true≢false f))
    (λ a long whole e f. entry_moves set s fee_ids w first (s.progress.place.0 + 64 - first) a long)

-- ---- wants and the end

-- A want is answered on a window that is not the last, and changes nothing.
pub record Wanted (s : State) (fee_ids : List ℕ) (last : Bool) (e : Entry Part) : Type 0 where
  pub more : last ≡ false
  pub same_state : e.state ≡ s
  pub same_fee_ids : e.fee_ids ≡ fee_ids
  pub no_marks_lem : e.marks ≡ no_marks

-- What no header is answered with: a want, and refusals 1 and 6.
pub record OfHeader (answer : Answer (Found Part)) : Type 0 where
  pub no_want : is_want answer ≡ false
  pub no_end : is_refusal 1 answer ≡ false
  pub no_six : is_refusal 6 answer ≡ false

pub entry_answers_lem : (set : Settings) (s : State) (fee_ids rest : List ℕ) (end start : ℕ)
    → OfHeader (located start (entry_at set s fee_ids rest end)).answer
entry_answers_lem set s fee_ids rest end start =
    entry_cases set s fee_ids rest end (λ a. OfHeader (placed start a))
    (λ number values r.
    record {
      no_want = refl;
      no_end = ne_eqb number 1 (λ e. omega (arith, r.least, e));
      no_six = ne_eqb number 6 (λ e. omega (arith, r.most, e));
    })
    (λ other. record { no_want = refl; no_end = refl; no_six = refl })
    (λ p same taken. record { no_want = refl; no_end = refl; no_six = refl })

pub examined_wants : (set : Settings) (s : State) (fee_ids w : List ℕ) (first : ℕ) (last : Bool)
    → is_want (examined set s fee_ids w first last).answer ≡ true → Wanted s fee_ids last (examined set s fee_ids w first last)
unfolding ended
examined_wants set s fee_ids w first last =
    examined_cases set s fee_ids w first last (λ e. is_want e.answer ≡ true → Wanted s fee_ids last e)
    (λ six e. absurd (false≢true e))
    (λ a short more e. record { more = more; same_state = refl; same_fee_ids = refl; no_marks_lem = refl })
    (λ a short all e. absurd (false≢true e))
    (λ a long more cuts e. record { more = more; same_state = refl; same_fee_ids = refl; no_marks_lem = refl })
    (λ a long whole e. absurd (false≢true (sym (entry_answers_lem set s fee_ids (shown_to s w first) (first + length w) _).no_want ∙ e)))

-- Refusal 1 is answered on a last window: so never where a want can be.
pub examined_ends : (set : Settings) (s : State) (fee_ids w : List ℕ) (first : ℕ) (last : Bool)
    → is_refusal 1 (examined set s fee_ids w first last).answer ≡ true → last ≡ true
unfolding ended
examined_ends set s fee_ids w first last =
    examined_cases set s fee_ids w first last (λ e. is_refusal 1 e.answer ≡ true → last ≡ true)
    (λ six e. absurd (false≢true e))
    (λ a short more e. absurd (false≢true e))
    (λ a short all e. all)
    (λ a long more cuts e. absurd (false≢true e))
    (λ a long whole e. absurd (false≢true (sym (entry_answers_lem set s fee_ids (shown_to s w first) (first + length w) _).no_end ∙ e)))

-- On a last window nothing is wanted.
pub no_want_at_last : (set : Settings) (s : State) (fee_ids w : List ℕ) (first : ℕ)
    → is_want (examined set s fee_ids w first true).answer ≡ false
unfolding ended
no_want_at_last set s fee_ids w first =
    examined_cases set s fee_ids w first true (λ e. is_want e.answer ≡ false)
    (λ six. refl)
    (λ a short more. absurd (true≢false more))
    (λ a short all. refl)
    (λ a long more cuts. absurd (true≢false more))
    (λ a long whole. (entry_answers_lem set s fee_ids (shown_to s w first) (first + length w) _).no_want)

-- Over a last window, all but the end (1 or 6) move on by 64 or more.
pub examined_moves : (set : Settings) (s : State) (fee_ids w : List ℕ) (first : ℕ)
    → closes (examined set s fee_ids w first true).answer ≡ false → MovedOn s w first (examined set s fee_ids w first true)
examined_moves set s fee_ids w first e = moves_on set s fee_ids w first true e (no_want_at_last set s fee_ids w first)
