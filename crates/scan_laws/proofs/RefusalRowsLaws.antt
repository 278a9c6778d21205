-- Proofs of the rows of the table of refusals: which refusal is due follows from the outcome's order of tests, and what it leaves from the
-- outcome's row.
use Prim.Native.Nat.{ℕ, zero, suc, ◌+◌, ◌-◌, ◌/◌, ◌≤◌, ◌<◌}
use Rattle.std.specs.Prelude.{Bool, ◌||◌, ◌&&◌, List, [], ◌≡◌, leb, ℤ, take, Option, None}
use Rattle.std.proofs.Math.Bool.{true, false, not, and-false, and-true}
use Rattle.std.proofs.lemmas.Bool.{false≢true}
use Rattle.std.proofs.Common.{true≢false, ◌∙◌, le-ltb, leb-true, lt-ltb}
use Rattle.std.proofs.Math.Path.{refl, ap, subst, sym}
use Rattle.std.proofs.Math.Dec.{eqb, ltb}
use Rattle.std.proofs.Math.ListN.{length}
use Rattle.basis.specs.Pick.{pick}
use Rattle.basis.specs.PickLaws.{both, by_test}
use Rattle.basis.specs.Refusals.{refuses}
use Rattle.filter.specs.Filter.{enabled}
use Rattle.rdh.specs.declared.rdh_cru.RdhCru.{RdhCru}
use Rattle.stats.specs.Lists.{full, member}
use Rattle.stats.specs.ListsLaws.{no_place}
use Rattle.scan_cdp.specs.Answers.{answer_as}
use Rattle.scan_cdp.specs.Loads.{Loaded, is_passed, loaded, loaded_from}
use Rattle.scan_cdp.specs.Outcomes.{header_fee_id, filtered, hands_out, is_counted, is_match, matched, header_memory_size, outcome_of, payload_size, header_trigger_type}
use Rattle.scan_cdp.specs.Steps.{Entry, answer_in, cut, ended, entry_at, entry_of, initial_of, is_first, load_after, marks_of, outcome_in, place_after, places_listed, position_after, progress_after, raised, tallied, triggers_after, used_listed}
use Rattle.scan_cdp.specs.Windows.{examined, located, placed}
use Rattle.scan_cdp.specs.declared.LoadMarks.{LoadMarks}
use Rattle.scan_cdp.specs.declared.Marks.{Marks}
use Rattle.scan_cdp.specs.declared.Outcome.{Outcome}
use Rattle.scan_cdp.specs.declared.Outcome.TheVariants.{FeeIdsFull, BadOffset, MemorySize, Passed, HandedOut}
use Rattle.scan_cdp.specs.declared.Part.{Part}
use Rattle.scan_cdp.specs.declared.Position.{Position}
use Rattle.scan_cdp.specs.declared.Settings.{Settings}
use Rattle.scan_cdp.specs.declared.State.{State}
use Rattle.scan_laws.specs.RefusalRowsClaims.{Left, OnlyRows, Row, Row1, Row2, Row3, Row4, Row6, bad, behind_header, header, header_marks, in_table, looked, lacks_place, short, when1, when6}
use Rattle.scan_laws.proofs.RowLaws.{cut_tells, header-number}
use Rattle.scan_laws.specs.Runs.{is_refusal}
use Rattle.scan_laws.proofs.StepLaws.{Admitted, entry_answers_lem, entry_cases, examined_cases, shown_to}

-- ---- which refusal an outcome is

-- Its number; 0 where the header is passed or handed out.
abbrev number_of : Outcome → ℕ
number_of FeeIdsFull = 4
number_of BadOffset = 2
number_of MemorySize = 3
number_of Passed = 0
number_of HandedOut = 0

-- Whether the header is refused with that number.
abbrev refused_with : ℕ → Outcome → Bool
refused_with n t = eqb (number_of t) n

-- The tests of step 2 in their order, before those of the filter.
abbrev texts_in_order : (first lacks_place bad : Bool) → Outcome → Outcome
texts_in_order first lacks_place bad t = pick first (pick lacks_place FeeIdsFull (pick bad BadOffset t)) (pick bad BadOffset (pick lacks_place FeeIdsFull t))

order_2 : (first lacks_place bad : Bool) (t : Outcome) → refused_with 2 t ≡ false
    → refused_with 2 (texts_in_order first lacks_place bad t) ≡ (bad && (not first || not lacks_place))
order_2 true true true t e = refl
order_2 true true false t e = refl
order_2 true false true t e = refl
order_2 true false false t e = e
order_2 false true true t e = refl
order_2 false true false t e = refl
order_2 false false true t e = refl
order_2 false false false t e = e

order_4 : (first lacks_place bad : Bool) (t : Outcome) → refused_with 4 t ≡ false
    → refused_with 4 (texts_in_order first lacks_place bad t) ≡ (lacks_place && not (not first && bad))
order_4 true true true t e = refl
order_4 true true false t e = refl
order_4 true false true t e = refl
order_4 true false false t e = e
order_4 false true true t e = refl
order_4 false true false t e = refl
order_4 false false true t e = refl
order_4 false false false t e = e

order_3 : (first lacks_place bad small : Bool) (t : Outcome) → refused_with 3 t ≡ small
    → refused_with 3 (texts_in_order first lacks_place bad t) ≡ (not (bad || lacks_place) && small)
order_3 true true true small t e = refl
order_3 true true false small t e = refl
order_3 true false true small t e = refl
order_3 true false false small t e = e
order_3 false true true small t e = refl
order_3 false true false small t e = refl
order_3 false false true small t e = refl
order_3 false false false small t e = e

-- Behind them there is refusal 3 alone: a match with a memory size below 64.
module _ (set : Settings) (h : RdhCru) where
  abbrev small : Bool
  small = is_match set h && ltb (header_memory_size h) 64

  filtered_cases : (P : Outcome → Type 0) → (small ≡ true → P MemorySize)
      → (small ≡ false → P Passed) → (small ≡ false → P HandedOut) → P (filtered set h)
  unfolding filtered
  filtered_cases P is-small passes hands =
      by_test P (is_match set h) _ _
      (λ taken. by_test P (ltb (header_memory_size h) 64) _ _
      (λ below. is-small (λ i. taken i && below i))
      (λ large. hands (λ i. taken i && large i)))
      (λ other. passes (ap (λ (b : Bool). b && ltb (header_memory_size h) 64) other))

  filtered_2 : refused_with 2 (filtered set h) ≡ false
  filtered_2 = filtered_cases (λ t. refused_with 2 t ≡ false) (λ e. refl) (λ e. refl) (λ e. refl)

  filtered_4 : refused_with 4 (filtered set h) ≡ false
  filtered_4 = filtered_cases (λ t. refused_with 4 t ≡ false) (λ e. refl) (λ e. refl) (λ e. refl)

  filtered_3 : refused_with 3 (filtered set h) ≡ small
  filtered_3 = filtered_cases (λ t. refused_with 3 t ≡ small) sym sym sym

is_2 : (t : Outcome) → refused_with 2 t ≡ true → t ≡ BadOffset
is_2 FeeIdsFull e = absurd (false≢true e)
is_2 BadOffset e = refl
is_2 MemorySize e = absurd (false≢true e)
is_2 Passed e = absurd (false≢true e)
is_2 HandedOut e = absurd (false≢true e)

is_3 : (t : Outcome) → refused_with 3 t ≡ true → t ≡ MemorySize
is_3 FeeIdsFull e = absurd (false≢true e)
is_3 BadOffset e = absurd (false≢true e)
is_3 MemorySize e = refl
is_3 Passed e = absurd (false≢true e)
is_3 HandedOut e = absurd (false≢true e)

is_4 : (t : Outcome) → refused_with 4 t ≡ true → t ≡ FeeIdsFull
is_4 FeeIdsFull e = refl
is_4 BadOffset e = absurd (false≢true e)
is_4 MemorySize e = absurd (false≢true e)
is_4 Passed e = absurd (false≢true e)
is_4 HandedOut e = absurd (false≢true e)

-- An outcome's answer is the refusal of its number.
answer_number : {P Q : Type 0} (f : P → Q) (n : ℕ) (t : Outcome) (h : RdhCru) (payload : P) (from position : Position) → eqb 0 n ≡ false
    → is_refusal n (answer_as f (answer_in t h payload from position)) ≡ refused_with n t
answer_number f n FeeIdsFull h payload from position other = refl
answer_number f n BadOffset h payload from position other = refl
answer_number f n MemorySize h payload from position other = refl
answer_number f n Passed h payload from position other = sym other
answer_number f n HandedOut h payload from position other = sym other

-- ---- what a refused header leaves

-- An outcome that goes no further than the header.
record Halts (t : Outcome) : Type 0 where
  place : (skip : Bool) (h : RdhCru) (place left end : ℕ) → place_after skip t h place left end ≡ place + 64
  position : (h : RdhCru) (position : ℕ) → position_after t h position ≡ position
  load : (load : Option Position) (position : Position) → load_after t load position ≡ None
  none : hands_out t ≡ false

halts_2 : Halts BadOffset
unfolding place_after
halts_2 =
    record { place = λ skip h place left end. refl; position = λ h position. refl; load = λ load position. refl; none = refl }

halts_3 : Halts MemorySize
unfolding place_after
halts_3 =
    record { place = λ skip h place left end. refl; position = λ h position. refl; load = λ load position. refl; none = refl }

halts_4 : Halts FeeIdsFull
unfolding place_after
halts_4 =
    record { place = λ skip h place left end. refl; position = λ h position. refl; load = λ load position. refl; none = refl }

abbrev left_by : {P : Type 0} → Entry P → Left
left_by e = record { state = e.state; fee_ids = e.fee_ids }

module _ (set : Settings) (t : Outcome) (s : State) (fee_ids : List ℕ) (h : RdhCru) (rest : List ℕ) (end : ℕ) (counted taken : Bool)
    (halts : Halts t) (counts : (set.stats && is_counted (is_first s.progress.load) t) ≡ counted)
    (takes : (set.stats && enabled set.filter && matched t) ≡ taken) where
  unpaid : (set.stats && hands_out t) ≡ false
  unpaid = ap (λ (b : Bool). set.stats && b) halts.none ∙ and-false set.stats

  words_left : (entry_of set t s fee_ids h rest end).state.triggers ≡ (behind_header counted counted taken s fee_ids h).state.triggers
  unfolding entry_of
  words_left = ap (λ (b : Bool). triggers_after b (header_trigger_type h) s.triggers) counts

  header_left_lem : left_by (entry_of set t s fee_ids h rest end) ≡ behind_header counted counted taken s fee_ids h
  unfolding entry_of progress_after tallied raised
  header_left_lem =
      let p = s.progress in
      λ i. record {
        state = record {
          progress = record {
            place = record { 0 = halts.place set.skip_payload h p.place.0 (length rest) end i };
            position = record { 0 = halts.position h p.position.0 i };
            load = halts.load p.load p.position i;
            counts = record {
              seen = (raised (counts i) p.counts.seen 1).value;
              filtered = (raised (takes i) p.counts.filtered 1).value;
              payload = (raised (unpaid i) p.counts.payload (payload_size h)).value;
            };
            links_used = used_listed (counts i) h.link_id p.links_used s.links;
            fee_ids_used = used_listed (counts i) (header_fee_id h) p.fee_ids_used fee_ids;
          };
          links = places_listed (counts i) h.link_id p.links_used s.links;
          triggers = words_left i;
        };
        fee_ids = places_listed (counts i) (header_fee_id h) p.fee_ids_used fee_ids;
      }

  header_marks_lem : (entry_of set t s fee_ids h rest end).marks ≡ header_marks set counted taken s h
  unfolding entry_of marks_of tallied raised cut
  header_marks_lem =
      let p = s.progress in
      λ i. record {
        initial = initial_of set.stats (is_first p.load) p.position h;
        seen_carry = (raised (counts i) p.counts.seen 1).carry;
        filtered_carry = (raised (takes i) p.counts.filtered 1).carry;
        payload_carry = (raised (unpaid i) p.counts.payload (payload_size h)).carry;
        payload_cut = halts.none i && not set.skip_payload && ltb (length rest) (64 + payload_size h);
      }

-- ---- rows

-- An entry that is what a row says.
record Fills (number : ℕ) (values : List ℤ) (after : Left) (told : Marks) (e : Entry Part) : Type 0 where
  answer : e.answer ≡ refuses number values
  left : left_by e ≡ after
  marks : e.marks ≡ told

module _ (number : ℕ) (due : Bool) (values : List ℤ) (after : Left) (told : Marks) (e : Entry Part) where
  not-due : is_refusal number e.answer ≡ false → due ≡ false → Row number due values after told e
  not-due other none =
      let never : due ≡ true → ⊥ = λ is. true≢false (sym is ∙ none) in
      record {
        when = other ∙ sym none;
        returned = λ is. absurd (never is);
        left = λ is. absurd (never is);
        marks = λ is. absurd (never is);
      }

  is_due : is_refusal number e.answer ≡ due → (due ≡ true → Fills number values after told e) → Row number due values after told e
  is_due when fills =
      record {
        when = when;
        returned = λ is. (fills is).answer;
        left = λ is. (fills is).left;
        marks = λ is. (fills is).marks;
      }

module _ (set : Settings) (s : State) (fee_ids w : List ℕ) (first : ℕ) (last : Bool) where
  abbrev here : RdhCru
  here = header set s fee_ids w first last

  abbrev outcome : Outcome
  outcome = outcome_in set s.progress fee_ids here

  abbrev six : Bool
  six = when6 set s fee_ids w first last

  abbrev few : Bool
  few = short set s fee_ids w first last

  abbrev entry : Entry Part
  entry = located (s.progress.place.0 + 64 - first) (entry_at set s fee_ids (shown_to s w first) (first + length w))

  no_six : Admitted s fee_ids w first → six ≡ false
  no_six a = λ i. a.state i || a.window i

  -- The row of a refusal that a header can have, which is due where a header is looked at and a test holds.
  module _ (number : ℕ) (test : Bool) (values : List ℤ) (after : Left) (told : Marks)
      (not-0 : eqb 0 number ≡ false) (not-1 : eqb 1 number ≡ false) (not-6 : eqb 6 number ≡ false)
      (which : refused_with number outcome ≡ test) (fills : refused_with number outcome ≡ true → Fills number values after told entry) where
    abbrev due : Bool
    due = looked set s fee_ids w first last && test

    header_row : Row number due values after told (examined set s fee_ids w first last)
    unfolding ended entry_of marks_of
    header_row =
        examined_cases set s fee_ids w first last (Row number due values after told)
        (λ is. not-due number due values after told _ not-6 (λ i. not (is i) && not few && test))
        (λ a below more. not-due number due values after told _ refl (unlooked below))
        (λ a below all. not-due number due values after told _ not-1 (unlooked below))
        (λ a long more cuts.
        let hands = (cut_tells set.skip_payload outcome here (length (shown_to s w first)) cuts).handed_out in
        not-due number due values after told _ refl
        (looks a long ∙ sym which ∙ ap (refused_with number) hands ∙ not-0))
        (λ a long whole.
        is_due number due values after told _ (answer_number _ number outcome here _ _ _ not-0 ∙ which ∙ sym (looks a long))
        (λ is. fills (which ∙ sym (looks a long) ∙ is)))
      where
        unlooked : length (shown_to s w first) < 64 → due ≡ false
        unlooked below =
            (λ i. not six && not (lt-ltb (length (shown_to s w first)) 64 below i) && test)
            ∙ ap (λ (b : Bool). b && test) (and-false (not six))

        looks : Admitted s fee_ids w first → 64 ≤ length (shown_to s w first) → due ≡ test
        looks a long = λ i. not (no_six a i) && not (le-ltb (length (shown_to s w first)) 64 long i) && test

  -- The entry of an outcome that halts is what its row says.
  filled : (u : Outcome) (number : ℕ) (values : List ℤ) (counted taken : Bool) → Halts u
      → (set.stats && is_counted (is_first s.progress.load) u) ≡ counted → (set.stats && enabled set.filter && matched u) ≡ taken
      → ((payload : List ℕ) (from : Position) → answer_in u here payload from s.progress.position ≡ refuses number values) → outcome ≡ u
      → Fills number values (behind_header counted counted taken s fee_ids here) (header_marks set counted taken s here) entry
  unfolding entry_of
  filled u number values counted taken halts counts takes answers is =
      let seen = shown_to s w first in
      let end = first + length w in
      subst
      (λ (t : Outcome).
      Fills number values (behind_header counted counted taken s fee_ids here) (header_marks set counted taken s here)
      (located (s.progress.place.0 + 64 - first) (entry_of set t s fee_ids here seen end)))
      (sym is)
      (record {
        answer = ap (placed (s.progress.place.0 + 64 - first)) (answers _ _);
        left = header_left_lem set u s fee_ids here seen end counted taken halts counts takes;
        marks = header_marks_lem set u s fee_ids here seen end counted taken halts counts takes;
      })

  abbrev is_one : Bool
  is_one = is_first s.progress.load

  abbrev lacks : Bool
  lacks = lacks_place set s fee_ids w first last

  abbrev ill : Bool
  ill = bad set s fee_ids w first last

  abbrev filters : Bool
  filters = set.stats && enabled set.filter

  pub row_2 : Row2 set s fee_ids w first last
  unfolding outcome_in outcome_of
  row_2 =
      header_row 2 (ill && (not is_one || not lacks)) _ _ _ refl refl refl (order_2 is_one lacks ill (filtered set here) (filtered_2 set here))
      (λ is. filled BadOffset 2 _ (set.stats && is_one) false halts_2 refl (and-false filters) (λ payload from. refl) (is_2 outcome is))

  pub row_3 : Row3 set s fee_ids w first last
  unfolding outcome_in outcome_of
  row_3 =
      header_row 3 (not (ill || lacks) && small set here) _ _ _ refl refl refl
      (order_3 is_one lacks ill (small set here) (filtered set here) (filtered_3 set here))
      (λ is. filled MemorySize 3 _ set.stats filters halts_3 (and-true set.stats) (and-true filters) (λ payload from. refl)
      (is_3 outcome is))

  -- a full list stays as it is
  full_stays : full (header_fee_id here) s.progress.fee_ids_used fee_ids ≡ true
      → behind_header true true false s fee_ids here ≡ behind_header true false false s fee_ids here
  unfolding full used_listed places_listed member
  full_stays is =
      let p = s.progress in
      let used = p.fee_ids_used in
      let (no_room, new) = both (leb (length fee_ids) used) (not (member (header_fee_id here) (take used fee_ids))) is in
      let stays = no_place (header_fee_id here) used fee_ids (leb-true (length fee_ids) used no_room) in
      let after = behind_header true false false s fee_ids here in
      λ i. record {
        state = record {
          progress = record {
            place = after.state.progress.place;
            position = after.state.progress.position;
            load = after.state.progress.load;
            counts = after.state.progress.counts;
            links_used = after.state.progress.links_used;
            fee_ids_used = sym stays.number i;
          };
          links = after.state.links;
          triggers = after.state.triggers;
        };
        fee_ids = sym stays.places i;
      }

  pub row_4 : Row4 set s fee_ids w first last
  unfolding outcome_in outcome_of
  row_4 = header_row 4 (lacks && not (not is_one && ill)) _ _ _ refl refl refl which full_fills
    where
      which : refused_with 4 outcome ≡ (lacks && not (not is_one && ill))
      which = order_4 is_one lacks ill (filtered set here) (filtered_4 set here)

      full_fills : refused_with 4 outcome ≡ true
          → Fills 4 [] (behind_header true false false s fee_ids here) (header_marks set true false s here) entry
      full_fills is =
          let (no_room, order) = both lacks (not (not is_one && ill)) (sym which ∙ is) in
          let (stats, full-list) = both set.stats (full (header_fee_id here) s.progress.fee_ids_used fee_ids) no_room in
          let fills = filled FeeIdsFull 4 [] true false halts_4 (and-true set.stats ∙ stats) (and-false filters) (λ payload from. refl) (is_4 outcome is) in
          record { answer = fills.answer; left = fills.left ∙ full_stays full-list; marks = fills.marks }

  pub row_1 : Row1 set s fee_ids w first last
  unfolding ended
  row_1 =
      examined_cases set s fee_ids w first last (Row 1 _ _ _ _)
      (λ is. not-due 1 _ _ _ _ _ refl (λ i. not (is i) && (few && last)))
      (λ a below more. not-due 1 _ _ _ _ _ refl ((λ i. not (no_six a i) && (few && more i)) ∙ and-false few))
      (λ a below all.
      is_due 1 _ _ _ _ _ (sym (λ i. not (no_six a i) && (lt-ltb (length (shown_to s w first)) 64 below i && all i)))
      (λ is. record { answer = refl; left = refl; marks = refl }))
      (λ a long more cuts. not-due 1 _ _ _ _ _ refl (enough a long))
      (λ a long whole. not-due 1 _ _ _ _ _ (entry_answers_lem set s fee_ids (shown_to s w first) (first + length w) _).no_end (enough a long))
    where
      enough : Admitted s fee_ids w first → 64 ≤ length (shown_to s w first) → when1 set s fee_ids w first last ≡ false
      enough a long = λ i. not (no_six a i) && (le-ltb (length (shown_to s w first)) 64 long i && last)

  pub row_6 : Row6 set s fee_ids w first last
  unfolding ended
  row_6 =
      examined_cases set s fee_ids w first last (Row 6 _ _ _ _)
      (λ is. is_due 6 _ _ _ _ _ (sym is) (λ due. record { answer = refl; left = refl; marks = refl }))
      (λ a below more. not-due 6 _ _ _ _ _ refl (no_six a))
      (λ a below all. not-due 6 _ _ _ _ _ refl (no_six a))
      (λ a long more cuts. not-due 6 _ _ _ _ _ refl (no_six a))
      (λ a long whole. not-due 6 _ _ _ _ _ (entry_answers_lem set s fee_ids (shown_to s w first) (first + length w) _).no_six (no_six a))

  examined_in_table : in_table (examined set s fee_ids w first last).answer ≡ true
  unfolding ended
  examined_in_table =
      examined_cases set s fee_ids w first last (λ e. in_table e.answer ≡ true)
      (λ six. refl)
      (λ a below more. refl)
      (λ a below all. refl)
      (λ a long more cuts. refl)
      (λ a long whole.
      entry_cases set s fee_ids (shown_to s w first) (first + length w)
      (λ answer. in_table (placed (s.progress.place.0 + 64 - first) answer) ≡ true)
      (λ n values r. ap (λ (b : Bool). b || eqb n 6) (header-number n r)) (λ other. refl) (λ p same taken. refl))

module _ (set : Settings) (w : List ℕ) (first : ℕ) (last : Bool) where
  loaded_in_table : (n : ℕ) (ms : LoadMarks) (s : State) (fee_ids : List ℕ)
      → in_table (loaded_from n set ms s fee_ids w first last).answer ≡ true
  unfolding loaded_from
  loaded_in_table zero ms s fee_ids = refl
  loaded_in_table (suc n) ms s fee_ids =
      let e = examined set s fee_ids w first last in
      by_test (λ (r : Loaded Part). in_table r.answer ≡ true) (is_passed e.answer) _ _
      (λ passes. loaded_in_table n _ e.state e.fee_ids) (λ stops. examined_in_table set s fee_ids w first last)

pub only_rows : (set : Settings) (s : State) (fee_ids w : List ℕ) (first : ℕ) (last : Bool) → OnlyRows set s fee_ids w first last
unfolding loaded
only_rows set s fee_ids w first last =
    (examined_in_table set s fee_ids w first last, loaded_in_table set w first last (length w / 64 + 1) _ s fee_ids)
