-- One step of a quick look without a filter, and with one, at the same byte place: by one split, what becomes of the header with both; and from
-- it where the two are alike, and where they part. Which headers the filter takes does not matter.
use Rattle.std.specs.Prelude.{ℕ, ◌+◌, ◌≤◌, Bool, ◌&&◌, ◌≡◌, ltb, length, Option}
use Rattle.std.proofs.Math.Bool.{true, false}
use Rattle.std.proofs.Common.{true≢false, ap, sym, subst₂, ◌∙◌, arith}
use Rattle.std.proofs.lemmas.Bool.{false≢true}
use Rattle.std.proofs.Math.Path.{refl}
use mathlib.Core.List.{List, [], ◌∷◌, ◌++◌, flat_map, map}
use Rattle.basis.specs.Pick.{pick}
use Rattle.basis.specs.Refusals.{refuses}
use Rattle.filter.specs.declared.FilterOpt.{FilterOpt}
use Rattle.rdh.specs.declared.rdh_cru.RdhCru.{RdhCru}
use Rattle.serde_rdh.specs.Layout.{decoded}
use Rattle.scan_cdp.specs.Outcomes.{bad_memory_size, bad_offset, header_fee_id, filtered, is_match, header_memory_size, offset, outcome_of}
use Rattle.scan_cdp.proofs.SkipDistanceLaws.{GoodOffset, good_offset}
use Rattle.scan_cdp.specs.Steps.{Entry, cut, ended, entry_of, is_first, marks_of, outcome_in, payload_of, place_after, places_listed, progress_after, raised, start_of, step, tallied, triggers_after, unchanged, unusable, used_listed, with_load}
use Rattle.scan_cdp.specs.declared.Outcome.{Outcome}
use Rattle.scan_cdp.specs.declared.Outcome.TheVariants.{BadOffset, MemorySize, Passed, HandedOut}
use Rattle.scan_cdp.specs.declared.Position.{Position}
use Rattle.scan_cdp.specs.declared.State.{State}
use Rattle.scan_laws.specs.Runs.{is_refusal}
use Rattle.stats.specs.Lists.{full}
use Rattle.chain.specs.Chain.{Kept, is_last, left}
use Rattle.chain.specs.OwnPositions.{open_at, position_of}
use Rattle.chain.specs.PacketLists.{Packet, packet_in}
use Rattle.chain_filter.proofs.EndLaws.{end_of}
use Rattle.chain_filter.specs.Scanned.{except_load, except_start, if_taken, no_filter, quick}

-- ---- what becomes of the header with both

-- What is kept, with this load.
abbrev pub opened : Option Position → Kept → Kept
opened load k = record { state = with_load load k.state; fee_ids = k.fee_ids }

-- The outcome in a quick look, by whether the header is taken. There is no refusal 4, so that first and later headers are alike.
abbrev outcome_by : Bool → RdhCru → Outcome
outcome_by is-taken h =
    pick (bad_offset (offset h)) BadOffset (pick is-taken (pick (bad_memory_size (header_memory_size h)) MemorySize HandedOut) Passed)

-- With statistics off no FEE list is full.
none_full : (filters : FilterOpt) (k : Kept) (h : RdhCru)
    → ((quick filters).stats && full (header_fee_id h) k.state.progress.fee_ids_used k.fee_ids) ≡ false
none_full filters k h = refl

outcome_by_lem : (filters : FilterOpt) (k : Kept) (h : RdhCru)
    → outcome_in (quick filters) k.state.progress k.fee_ids h ≡ outcome_by (is_match (quick filters) h) h
unfolding outcome_in outcome_of filtered
outcome_by_lem filters k h =
    ap (λ (b : Bool). outcome_of (quick filters) (is_first (open_at k)) b h) (none_full filters k h) ∙ by_first (is_first (open_at k))
  where
    by_first : (first : Bool) → outcome_of (quick filters) first false h ≡ outcome_by (is_match (quick filters) h) h
    by_first true = refl
    by_first false = refl

-- What holds of two choices by one test.
both_by_test : {A B : Type 0} (P : A → B → Type 0) (b : Bool) (x y : A) (x' y' : B) → P x x' → P y y' → P (pick b x y) (pick b x' y')
both_by_test P true x y x' y' holds fails = holds
both_by_test P false x y x' y' holds fails = fails

-- The two stand at one byte place, and keep the same but for the open load.
module _ (filters : FilterOpt) (base : Kept) (load load' : Option Position) (rest : List ℕ) (end : ℕ) where
  abbrev s : State
  s = with_load load base.state

  abbrev s' : State
  s' = with_load load' base.state

  abbrev pub header : RdhCru
  header = decoded rest

  -- an outcome's entry without the filter, and with it
  abbrev over : Outcome → Entry (List ℕ)
  over t = entry_of (quick no_filter) t s base.fee_ids header rest end

  abbrev over' : Outcome → Entry (List ℕ)
  over' t = entry_of (quick filters) t s' base.fee_ids header rest end

  -- What holds of the two entries in each of these cases: 6 and 1; the same outcome; and a header that the filter does not take.
  record Cases (taken : RdhCru → Bool) (P : Entry (List ℕ) → Entry (List ℕ) → Type 0) : Type 0 where
    six : P (unchanged s base.fee_ids (refuses 6 [])) (unchanged s' base.fee_ids (refuses 6 []))
    short : P (ended s base.fee_ids end) (ended s' base.fee_ids end)
    bad : P (over BadOffset) (over' BadOffset)
    small : taken header ≡ true → P (over MemorySize) (over' MemorySize)
    handed : taken header ≡ true → P (over HandedOut) (over' HandedOut)
    small_passed : GoodOffset (offset header) → taken header ≡ false → P (over MemorySize) (over' Passed)
    handed_passed : taken header ≡ false → P (over HandedOut) (over' Passed)

  -- holds of the two steps: by the tests of the header, its offset is bad, it is taken, its memory size is too small
  by_tests : (taken : RdhCru → Bool) (P : Entry (List ℕ) → Entry (List ℕ) → Type 0) → Cases taken P
      → (is-bad is-taken is-small : Bool) → bad_offset (offset header) ≡ is-bad → taken header ≡ is-taken
      → P (over (pick is-bad BadOffset (pick is-small MemorySize HandedOut)))
      (over' (pick is-bad BadOffset (pick is-taken (pick is-small MemorySize HandedOut) Passed)))
  by_tests taken P cases true is-taken is-small bad is = cases.bad
  by_tests taken P cases false true true good is = cases.small is
  by_tests taken P cases false true false good is = cases.handed is
  by_tests taken P cases false false true good is = cases.small_passed (good_offset (offset header) good) is
  by_tests taken P cases false false false good is = cases.handed_passed is

  both_cases : (P : Entry (List ℕ) → Entry (List ℕ) → Type 0) → Cases (is_match (quick filters)) P
      → P (step (quick no_filter) s base.fee_ids rest end) (step (quick filters) s' base.fee_ids rest end)
  unfolding step unusable
  both_cases P cases =
      let taken = is_match (quick filters) in
      both_by_test P (unusable base.state base.fee_ids) _ _ _ _ cases.six
      (both_by_test P (ltb (length rest) 64) _ _ _ _ cases.short
      (subst₂ (λ (t t' : Outcome). P (over t) (over' t'))
      (sym (outcome_by_lem no_filter (opened load base) header)) (sym (outcome_by_lem filters (opened load' base) header))
      (by_tests taken P cases (bad_offset (offset header)) (taken header) (bad_memory_size (header_memory_size header)) refl refl)))

-- ---- where the two are alike

-- The packet that an entry hands out, if any.
abbrev pub packet_of : Entry (List ℕ) → List Packet
packet_of e = packet_in e.answer

-- An entry without the filter, and one with it: the second tells of the first one's packet, if that is taken, and of the same end; both are refused
-- or none is; and what they leave is the same but for the open load.
pub record Alike (taken : RdhCru → Bool) (e e' : Entry (List ℕ)) : Type 0 where
  pub packets : map except_start (packet_of e') ≡ map except_start (flat_map (if_taken taken) (packet_of e))
  pub end : end_of e' ≡ end_of e
  pub together : is_last e ≡ is_last e'
  pub kept : except_load (left e) ≡ except_load (left e')

-- The packet of a header: but for its load's start, it is the same with any load.
abbrev packet_at : RdhCru → List ℕ → (start own : Position) → Packet
packet_at h payload start own = record { header = h; payload = payload; position = start; own = own }

any_start : (h : RdhCru) (payload : List ℕ) (start start' own : Position)
    → except_start (packet_at h payload start' own) ≡ except_start (packet_at h payload start own)
any_start h payload start start' own = refl

-- Of a packet the filter leaves that packet, or none.
if_taken_lem : (taken : RdhCru → Bool) (p : Packet) → taken p.header ≡ true
    → map except_start (p ∷ []) ≡ map except_start (flat_map (if_taken taken) (p ∷ []))
unfolding flat_map
if_taken_lem taken p is = ap (λ (b : Bool). map except_start (pick b (p ∷ []) [] ++ [])) (sym is)

if_not-taken : (taken : RdhCru → Bool) (p : Packet) → taken p.header ≡ false → [] ≡ map except_start (flat_map (if_taken taken) (p ∷ []))
unfolding flat_map
if_not-taken taken p is = ap (λ (b : Bool). map except_start (pick b (p ∷ []) [] ++ [])) (sym is)

module _ (filters : FilterOpt) (base : Kept) (load load' : Option Position) (rest : List ℕ) (end : ℕ) where
  abbrev is_taken : RdhCru → Bool
  is_taken = is_match (quick filters)

  abbrev pub e : Entry (List ℕ)
  e = step (quick no_filter) (with_load load base.state) base.fee_ids rest end

  abbrev pub e' : Entry (List ℕ)
  e' = step (quick filters) (with_load load' base.state) base.fee_ids rest end

  -- the packet at the header, where its load starts there
  abbrev packet_from : Position → Packet
  packet_from start = packet_at (decoded rest) (payload_of (quick filters).skip_payload HandedOut (decoded rest) rest) start (position_of base)

  abbrev packet : Packet
  packet = packet_from (start_of load (position_of base))

  with_packet : is_taken (decoded rest) ≡ true
      → map except_start (packet_from (start_of load' (position_of base)) ∷ []) ≡ map except_start (flat_map (if_taken is_taken) (packet ∷ []))
  with_packet is =
      ap (λ (p : Packet). p ∷ []) (any_start (decoded rest) _ packet.position (start_of load' (position_of base)) (position_of base))
      ∙ if_taken_lem is_taken packet is

  -- They are, if a refusal 3 of the first is at a header that is taken.
  pub step_alike : (is_refusal 3 e.answer ≡ true → is_taken (decoded rest) ≡ true) → Alike is_taken e e'
  unfolding ended entry_of progress_after tallied raised places_listed used_listed triggers_after place_after cut marks_of unusable flat_map
  step_alike =
      both_cases filters base load load' rest end (λ x x'. (is_refusal 3 x.answer ≡ true → is_taken (decoded rest) ≡ true) → Alike is_taken x x')
      record {
        six = λ harmless. record { packets = refl; end = refl; together = refl; kept = refl };
        short = λ harmless. record { packets = refl; end = refl; together = refl; kept = refl };
        bad = λ harmless. record { packets = refl; end = refl; together = refl; kept = refl };
        small = λ is harmless. record { packets = refl; end = refl; together = refl; kept = refl };
        handed = λ is harmless. record { packets = with_packet is; end = refl; together = refl; kept = refl };
        small_passed = λ good is harmless. absurd (true≢false (sym (harmless refl) ∙ is));
        handed_passed = λ is harmless. record { packets = if_not-taken is_taken packet is; end = refl; together = refl; kept = refl };
      }

  -- ---- where they part

  -- The first ends where it stands, and the second goes on from a position further on.
  pub record Parted (x x' : Entry (List ℕ)) : Type 0 where
    pub ends : is_last x ≡ true
    pub stays : position_of (left x) ≡ position_of base
    pub goes : is_last x' ≡ false
    pub further : (position_of base).0 + 64 ≤ (position_of (left x')).0

  -- They do, at a refusal 3 of the first with a header that is not taken.
  pub step_parts : is_refusal 3 e.answer ≡ true → is_taken (decoded rest) ≡ false → Parted e e'
  unfolding ended entry_of progress_after
  step_parts =
      both_cases filters base load load' rest end (λ x x'. is_refusal 3 x.answer ≡ true → is_taken (decoded rest) ≡ false → Parted x x')
      record {
        six = λ three other. absurd (false≢true three);
        short = λ three other. absurd (false≢true three);
        bad = λ three other. absurd (false≢true three);
        small = λ is three other. absurd (true≢false (sym is ∙ other));
        handed = λ is three other. absurd (true≢false (sym is ∙ other));
        small_passed = λ good is three other. record { ends = refl; stays = refl; goes = refl; further = omega (arith, good.least) };
        handed_passed = λ is three other. absurd (false≢true three);
      }
