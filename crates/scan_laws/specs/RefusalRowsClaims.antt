-- The table of refusals of an examination, 1 to 4 and 6, a row for each (R1 to R4, R6, R10 to R12): when exactly it is due, what is returned with it, what
-- is left, and which marks come with it (S9). No public contract cites this file: `RefusalRowsLaws` says that the definitions agree with it.
use Rattle.std.specs.Prelude.{ℕ, ◌+◌, max, Bool, true, false, not, ◌||◌, ◌&&◌, List, [], ◌∷◌, ◌≡◌, eqb, ltb, ℤ, pos, length, None}
use Rattle.basis.specs.Refusals.{Answer, gives, refuses}
use Rattle.filter.specs.Filter.{enabled}
use Rattle.rdh.specs.declared.rdh_cru.RdhCru.{RdhCru}
use Rattle.serde_rdh.specs.Layout.{decoded}
use Rattle.stats.specs.Lists.{full}
use Rattle.scan_cdp.specs.Answers.{Found}
use Rattle.scan_cdp.specs.Loads.{loaded}
use Rattle.scan_cdp.specs.Outcomes.{bad_memory_size, bad_offset, header_fee_id, is_match, header_memory_size, offset, skip_distance, header_trigger_type}
use Rattle.scan_cdp.specs.Steps.{Entry, closed, initial_of, is_first, no_marks, places_listed, raised, triggers_after, unusable, used_listed, with_place}
use Rattle.scan_cdp.specs.Windows.{examined, outside, shown}
use Rattle.scan_cdp.specs.declared.Marks.{Marks}
use Rattle.scan_cdp.specs.declared.Part.{Part}
use Rattle.scan_cdp.specs.declared.Settings.{Settings}
use Rattle.scan_cdp.specs.declared.State.{State}
use Rattle.scan_laws.specs.Runs.{is_refusal, one_to_four}

-- What is left: state and FEE list.
pub record Left : Type 0 where
  pub state : State
  pub fee_ids : List ℕ

-- A row, held against an entry: it has this refusal exactly where that is due, and then it returns, leaves and marks what the row says.
pub record Row (number : ℕ) (due : Bool) (values : List ℤ) (after : Left) (told : Marks) (e : Entry Part) : Type 0 where
  pub when : is_refusal number e.answer ≡ due
  pub returned : due ≡ true → e.answer ≡ refuses number values
  pub left : due ≡ true → record { state = e.state; fee_ids = e.fee_ids } ≡ after
  pub marks : due ≡ true → e.marks ≡ told

-- Whether an answer that is refused has the number of a row: 1 to 4, or 6.
abbrev pub in_table : {P : Type 0} → Answer (Found P) → Bool
in_table (gives found) = true
in_table (refuses number values) = one_to_four number || eqb number 6

-- What refusals 2 to 4 leave: the byte place 64 further on and no load open (S7). Where the header was counted, seen is raised, its link
-- listed and its trigger word counted, and where its FEE id had place, that is listed; where it was taken as a match, filtered is raised. All
-- else is as it was (R10).
abbrev pub behind_header : (counted listed taken : Bool) → State → List ℕ → RdhCru → Left
behind_header counted listed taken s fee_ids h =
    let p = s.progress in
    record {
      state = record {
        progress = record {
          place = record { 0 = p.place.0 + 64 };
          position = p.position;
          load = None;
          counts = record {
            seen = (raised counted p.counts.seen 1).value;
            filtered = (raised taken p.counts.filtered 1).value;
            payload = p.counts.payload;
          };
          links_used = used_listed counted h.link_id p.links_used s.links;
          fee_ids_used = used_listed listed (header_fee_id h) p.fee_ids_used fee_ids;
        };
        links = places_listed counted h.link_id p.links_used s.links;
        triggers = triggers_after counted (header_trigger_type h) s.triggers;
      };
      fee_ids = places_listed listed (header_fee_id h) p.fee_ids_used fee_ids;
    }

-- The marks that come with them: the initial one, and the carries of what was raised.
abbrev pub header_marks : Settings → (counted taken : Bool) → State → RdhCru → Marks
header_marks set counted taken s h =
    let p = s.progress in
    record {
      initial = initial_of set.stats (is_first p.load) p.position h;
      seen_carry = (raised counted p.counts.seen 1).carry;
      filtered_carry = (raised taken p.counts.filtered 1).carry;
      payload_carry = false;
      payload_cut = false;
    }

module _ (set : Settings) (s : State) (fee_ids w : List ℕ) (first : ℕ) (last : Bool) where
  abbrev pub place : ℕ
  place = s.progress.place.0

  abbrev pub rest : List ℕ
  rest = shown place first w

  abbrev pub header : RdhCru
  header = decoded rest

  abbrev pub reply : Entry Part
  reply = examined set s fee_ids w first last

  -- ---- when, exactly. Where two are due: 6 before 1; for a first header 4 before 2, for a later one 2 before 4; both before 3 (R12).

  -- R6: by state and list, or by the window.
  abbrev pub when6 : Bool
  when6 = unusable s fee_ids || outside place first (length w)

  abbrev pub short : Bool
  short = ltb (length rest) 64

  -- R1: on a last window.
  abbrev pub when1 : Bool
  when1 = not when6 && (short && last)

  -- There is a header to look at, for the other rows.
  abbrev pub looked : Bool
  looked = not when6 && not short

  abbrev pub is_later : Bool
  is_later = not (is_first s.progress.load)

  abbrev pub bad : Bool
  bad = bad_offset (offset header)

  -- Statistics are on, its FEE id is new, and the list is full.
  abbrev pub lacks_place : Bool
  lacks_place = set.stats && full (header_fee_id header) s.progress.fee_ids_used fee_ids

  -- R2: before R4 where the header is a later one.
  abbrev pub when2 : Bool
  when2 = looked && (bad && (is_later || not lacks_place))

  -- R4: before R2 where it is a first one.
  abbrev pub when4 : Bool
  when4 = looked && (lacks_place && not (is_later && bad))

  -- R3: a match with a memory size below 64, behind both.
  abbrev pub when3 : Bool
  when3 = looked && (not (bad || lacks_place) && (is_match set header && bad_memory_size (header_memory_size header)))

  -- ---- the rows

  -- R1: the byte place at the end, or where it is if that is farther.
  abbrev pub Row1 : Type 0
  Row1 = Row 1 when1 [] (record { state = with_place (max place (first + length w)) (closed s); fee_ids = fee_ids }) no_marks reply

  -- R2: a first header is counted, a later one is not.
  abbrev pub Row2 : Type 0
  Row2 =
      let counted = set.stats && is_first s.progress.load in
      Row 2 when2 (skip_distance (offset header) ∷ pos s.progress.position.0 ∷ [])
      (behind_header counted counted false s fee_ids header) (header_marks set counted false s header) reply

  -- R3: counted, and in filtered, too, if a filter is set.
  abbrev pub Row3 : Type 0
  Row3 =
      let taken = set.stats && enabled set.filter in
      Row 3 when3 [] (behind_header set.stats set.stats taken s fee_ids header) (header_marks set set.stats taken s header) reply

  -- R4: seen, link and trigger word counted; the FEE list stays as it is.
  abbrev pub Row4 : Type 0
  Row4 = Row 4 when4 [] (behind_header true false false s fee_ids header) (header_marks set true false s header) reply

  -- R6: all as it was.
  abbrev pub Row6 : Type 0
  Row6 = Row 6 when6 [] (record { state = s; fee_ids = fee_ids }) no_marks reply

  -- There is no other refusal, of an examination or of a load.
  abbrev pub OnlyRows : Type 0
  OnlyRows = (in_table reply.answer ≡ true) × (in_table (loaded set s fee_ids w first last).answer ≡ true)
