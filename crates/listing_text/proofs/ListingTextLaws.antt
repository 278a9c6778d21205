-- Why loads put the listing: a load takes the chain's next entries up to the first that is not passed, and that one alone has lines.
use Rattle.std.specs.Prelude.{ℕ, ◌+◌, ◌/◌, Bool, true, false, ◌||◌, ◌≡◌, refl, length}
use Rattle.std.proofs.lemmas.Bool.{false≢true}
use Rattle.std.proofs.Common.{true≢false, subst, ◌∙◌}
use Rattle.std.proofs.Math.Path.{ap, sym}
use mathlib.Core.List.{List, [], ◌∷◌, ◌++◌, append_assoc, append-nil}
use Rattle.basis.specs.Pick.{pick}
use Rattle.basis.specs.PickLaws.{by_test, off, on}
use Rattle.basis.specs.Refusals.{Answer, gives, refuses}
use Rattle.validators.specs.declared.RdhCruSanityValidator.{RdhCruSanityValidator}
use Rattle.scan_cdp.specs.Answers.{Found, handed, passed, wants}
use Rattle.scan_cdp.specs.Loads.{Loaded, is_passed, loaded, no_load_marks, together}
use Rattle.scan_cdp.specs.Steps.{Entry, unusable}
use Rattle.scan_cdp.specs.Windows.{outside}
use Rattle.scan_cdp.specs.declared.Counts.{Counts}
use Rattle.scan_cdp.specs.declared.LoadMarks.{LoadMarks}
use Rattle.scan_cdp.specs.declared.Part.{Part}
use Rattle.scan_cdp.specs.declared.Settings.{Settings}
use Rattle.scan_laws.proofs.FittingLaws.{loaded_six}
use Rattle.scan_laws.proofs.RefusalRowsLaws.{only_rows}
use Rattle.scan_laws.proofs.RunLaws.{enough}
use Rattle.chain.specs.Calls.{Hold, Reply, Served, Window, WindowOf, ends_by, ends_chain, free, held, held_back, held_load, kept_by, load, load_along, load_read, loaded_by, read_from, reply_answer}
use Rattle.chain.proofs.CallsLaws.{ends_read, given_goes_on, held_cases, refused_ends}
use Rattle.chain.specs.Chain.{Kept, chain, is_refused, left, place_of}
use Rattle.chain.proofs.LoadLaws.{load_follows}
use Rattle.chain.proofs.OwnPositionsLaws.{own_unfiltered}
use Rattle.listing_load.specs.LoadLines.{answer_lines, lines_of, validator_of}
use Rattle.listing_start.specs.Start.{list_settings}
use Rattle.listing_text.specs.ListingText.{are_refused, entries_text, kept_after, listing_text, load_on, loads_text, program_start, text_to_come}
use Rattle.listing_text.specs.ListingTextClaims.{LinesAtStarts, LoadsFollow, LoadsList}

-- ---- what a load is served

-- The lines of a reply, and those of the entries that are then still to come.
abbrev lines_after : RdhCruSanityValidator → Served → List ℕ
lines_after v o =
    let answer = reply_answer o.reply in
    answer_lines v answer (kept_by o.reply).state.progress.counts ++ entries_text (validator_of v answer) o.rest

-- A refusal ends the chain.
abbrev Ending : Reply → Type 0
Ending r = is_refused (reply_answer r) ≡ true → ends_chain r ≡ true

-- What holds a load back has no lines, unless it is a 6 by the window.
abbrev Silent : RdhCruSanityValidator → LoadMarks → Kept → Hold → Type 0
Silent v ms k free = Unit {0}
Silent v ms k (held a) =
    Ending (load (held_load ms k a)) → (answer_lines v a k.state.progress.counts ≡ []) × (validator_of v a ≡ v)

silent : (set : Settings) (v : RdhCruSanityValidator) (ms : LoadMarks) (k : Kept) (w : Window) (e : Entry (List ℕ))
    → Silent v ms k (held_back set k w e)
silent set v ms k w e =
    held_cases set k w e (Silent v ms k) tt
    (λ usable ending. absurd (true≢false (sym (ending refl) ∙ usable)))
    (λ size ending. (refl, refl))

-- a header that is passed has no lines, and is not checked
passed_lines : (v : RdhCruSanityValidator) (a : Answer (Found (List ℕ))) (counts : Counts) → is_passed a ≡ true
    → (answer_lines v a counts ≡ []) × (validator_of v a ≡ v)
passed_lines v (gives passed) counts e = (refl, refl)
passed_lines v (gives (handed p)) counts e = absurd (false≢true e)
passed_lines v (gives (wants place size)) counts e = absurd (false≢true e)
passed_lines v (refuses number values) counts e = absurd (false≢true e)

load_lines : (set : Settings) (v : RdhCruSanityValidator) (w : Window) (es : List (Entry (List ℕ))) (ms : LoadMarks) (k : Kept)
    → Ending (load_along set w ms k es).reply → lines_after v (load_along set w ms k es) ≡ entries_text v es
unfolding load_along entries_text
load_lines set v w [] ms k = λ ending. refl
load_lines set v w (e ∷ es) ms k =
    by_held (held_back set k w e) (silent set v ms k w e) (load_lines set v w es (together ms e.marks) (left e))
  where
    onwards : Served
    onwards = load_along set w (together ms e.marks) (left e) es

    by_held : (h : Hold) → Silent v ms k h → (Ending onwards.reply → lines_after v onwards ≡ entries_text v es)
        → Ending (loaded_by ms k e es onwards h).reply
        → lines_after v (loaded_by ms k e es onwards h)
        ≡ answer_lines v e.answer e.state.progress.counts ++ entries_text (validator_of v e.answer) es
    by_held free quiet onward =
        by_test
        (λ (o : Served). Ending o.reply
        → lines_after v o ≡ answer_lines v e.answer e.state.progress.counts ++ entries_text (validator_of v e.answer) es)
        (is_passed e.answer) _ _
        (λ passes ending.
        let none = passed_lines v e.answer e.state.progress.counts passes in
        onward ending ∙ sym (λ i. none.0 i ++ entries_text (none.1 i) es))
        (λ stops ending. refl)
    by_held (held a) quiet onward = λ ending i. (quiet ending).0 i ++ entries_text ((quiet ending).1 i) (e ∷ es)

-- ---- one load

read_lines : (v : RdhCruSanityValidator) (w : List ℕ) (a : Answer (Found Part)) (counts : Counts)
    → (answer_lines v (read_from w a) counts ≡ answer_lines v a counts) × (validator_of v (read_from w a) ≡ validator_of v a)
    × (is_refused (read_from w a) ≡ is_refused a)
read_lines v w (gives passed) counts = (refl, refl, refl)
read_lines v w (gives (handed p)) counts = (refl, refl, refl)
read_lines v w (gives (wants place size)) counts = (refl, refl, refl)
read_lines v w (refuses number values) counts = (refl, refl, refl)

module _ (recording : List ℕ) (set : Settings) (v : RdhCruSanityValidator) (k : Kept) (w : Window) (of : WindowOf recording w) where
  abbrev l : Loaded Part
  l = load_on set k w

  abbrev r : Reply
  r = load (load_read w.bytes l)

  abbrev after : RdhCruSanityValidator
  after = validator_of v l.answer

  served : load_along set w no_load_marks k (chain recording set k)
      ≡ record { reply = r; rest = pick (ends_chain r) [] (chain recording set (kept_after l)) }
  unfolding loaded
  served = load_follows recording set w of (length w.bytes / 64 + 1) no_load_marks k (enough k.state w.bytes w.first)

  -- whether the reply ends the chain is told by the load's own answer
  as_read : ends_by l.answer (unusable l.state l.fee_ids) ≡ ends_chain r
  as_read = ends_read w.bytes l.answer (unusable l.state l.fee_ids)

  -- a refusal ends the chain: a 6 is due by state and list, since the window fits
  ending : outside (place_of k) w.first (length w.bytes) ≡ false → is_refused l.answer ≡ true → ends_chain r ≡ true
  ending fits refused =
      let known = (only_rows set k.state k.fee_ids w.bytes w.first w.last).1 in
      let due = loaded_six set w.bytes w.first w.last k.state k.fee_ids fits in
      sym as_read ∙ refused_ends l.answer _ known due refused

  -- an answer that is not refused does not end the chain
  goes_on : is_refused l.answer ≡ false → ends_chain r ≡ false
  goes_on answers = sym as_read ∙ given_goes_on l.answer _ answers

  rest_lines : (is_refused l.answer ≡ true → ends_chain r ≡ true)
      → pick (is_refused l.answer) [] (entries_text after (chain recording set (kept_after l)))
      ≡ entries_text after (pick (ends_chain r) [] (chain recording set (kept_after l)))
  unfolding entries_text
  rest_lines ending =
      by_test (λ (t : List ℕ). t ≡ entries_text after (pick (ends_chain r) [] (chain recording set (kept_after l)))) (is_refused l.answer) _ _
      (λ refused. sym (ap (entries_text after) (on _ _ (ending refused))))
      (λ answers. sym (ap (entries_text after) (off _ _ (goes_on answers))))

  -- the lines of a load, and then the listing of what it leaves, or nothing behind a refusal
  one_load : (is_refused l.answer ≡ true → ends_chain r ≡ true)
      → lines_of v l.answer l ++ pick (is_refused l.answer) [] (listing_text recording set after (kept_after l)) ≡ listing_text recording set v k
  unfolding listing_text
  one_load ending =
      let same = read_lines v w.bytes l.answer l.state.progress.counts in
      let ended : Ending r = λ refused. ending (sym same.2 ∙ refused) in
      let rest = pick (ends_chain r) [] (chain recording set (kept_after l)) in
      ap (λ (t : List ℕ). lines_of v l.answer l ++ t) (rest_lines ending)
      ∙ (λ i. sym same.0 i ++ entries_text (sym same.1 i) rest)
      ∙ ap (lines_after v) (sym served)
      ∙ load_lines set v w (chain recording set k) no_load_marks k (subst (λ (o : Served). Ending o.reply) (sym served) ended)

-- ---- all loads

behind_refusal : (b : Bool) (t u : List ℕ) → pick b [] t ++ pick b [] u ≡ pick b [] (t ++ u)
behind_refusal true t u = refl
behind_refusal false t u = refl

pub loads_follow : LoadsFollow
unfolding loads_text text_to_come
loads_follow recording set v k [] through = refl
loads_follow recording set v k (w ∷ ws) (of, fits, onward) =
    let l = load_on set k w in
    let after = validator_of v l.answer in
    let put = loads_text set after (kept_after l) ws in
    let to_come_lem = text_to_come recording set after (kept_after l) ws in
    append_assoc (lines_of v l.answer l) (pick (is_refused l.answer) [] put) (pick (is_refused l.answer) [] to_come_lem)
    ∙ ap (λ (t : List ℕ). lines_of v l.answer l ++ t)
    (behind_refusal (is_refused l.answer) put to_come_lem
    ∙ ap (λ (t : List ℕ). pick (is_refused l.answer) [] t) (loads_follow recording set after (kept_after l) ws onward))
    ∙ one_load recording set v k w of (ending recording set v k w of fits)

-- a refusal leaves nothing to come
none_to_come : (recording : List ℕ) (set : Settings) (v : RdhCruSanityValidator) (k : Kept) (ws : List Window) → are_refused set k ws ≡ true
    → text_to_come recording set v k ws ≡ []
unfolding are_refused text_to_come
none_to_come recording set v k [] refused = absurd (false≢true refused)
none_to_come recording set v k (w ∷ ws) refused =
    let l = load_on set k w in
    by_refusal (is_refused l.answer) refused (none_to_come recording set (validator_of v l.answer) (kept_after l) ws)
  where
    by_refusal : (b : Bool) {c : Bool} {t : List ℕ} → b || c ≡ true → (c ≡ true → t ≡ []) → pick b [] t ≡ []
    by_refusal true refused onward = refl
    by_refusal false refused onward = onward refused

pub loads_list : LoadsList
loads_list recording set v k ws through refused =
    sym (append-nil (loads_text set v k ws))
    ∙ ap (λ (t : List ℕ). loads_text set v k ws ++ t) (sym (none_to_come recording set v k ws refused))
    ∙ loads_follow recording set v k ws through

-- ---- the positions of the lines

pub lines_at_starts : LinesAtStarts
lines_at_starts recording = own_unfiltered recording list_settings program_start refl refl
