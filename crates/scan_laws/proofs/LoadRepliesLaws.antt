-- Proof that a load tells all marks of its examinations: putting marks together goes over them one by one, and a header that is passed leaves
-- the load open, so that no later one is a first.
use Rattle.std.specs.Prelude.{ℕ, zero, suc, ◌+◌, ◌/◌, Bool, true, false, ◌||◌, ◌&&◌, List, [], ◌∷◌, ◌≡◌, refl, eqb, length, drop, Option, None, Some}
use Rattle.std.proofs.Math.Bool.{and-false, or_assoc, or-false}
use Rattle.std.proofs.lemmas.Bool.{false≢true}
use Rattle.std.proofs.Common.{true≢false, ap, sym, ◌∙◌, arith}
use Rattle.basis.specs.Pick.{pick}
use Rattle.basis.specs.PickLaws.{by_test, neither, off}
use Rattle.basis.specs.Refusals.{Answer, gives, refuses}
use Rattle.scan_cdp.specs.Answers.{Found, handed, passed, wants}
use Rattle.scan_cdp.specs.Loads.{Loaded, either_initial, is_passed, loaded, loaded_from, no_load_marks, replied, together}
use Rattle.scan_cdp.specs.Steps.{Entry, ended, entry_of, initial_of, is_first, marks_of, unchanged}
use Rattle.scan_cdp.specs.Windows.{examined}
use Rattle.scan_cdp.specs.declared.Initial.{Initial}
use Rattle.scan_cdp.specs.declared.LoadMarks.{LoadMarks}
use Rattle.scan_cdp.specs.declared.Marks.{Marks}
use Rattle.scan_cdp.specs.declared.Part.{Part}
use Rattle.scan_cdp.specs.declared.Settings.{Settings}
use Rattle.scan_cdp.specs.declared.State.{State}
use Rattle.scan_laws.specs.LoadReplies.{all_marks, any, examinations, examinations_of, first_initial, how_many, is_initial, last_of}
use Rattle.scan_laws.specs.LoadRepliesClaims.{LoadsTellAll}
use Rattle.scan_laws.proofs.StepLaws.{examined_cases, examined_passed}

-- ---- the reply is the last examination's

-- marks put together, one examination after the other
unfoldable all_together : LoadMarks → List (Entry Part) → LoadMarks
all_together ms [] = ms
all_together ms (e ∷ es) = all_together (together ms e.marks) es

-- what a load replies after the entry x, with these marks so far and these examinations to come
abbrev replied_by : LoadMarks → Entry Part → List (Entry Part) → Loaded Part
replied_by ms x es =
    record { answer = (last_of x es).answer; marks = all_together ms es; state = (last_of x es).state; fee_ids = (last_of x es).fee_ids }

is_passed_lem : (a : Answer (Found Part)) → is_passed a ≡ true → a ≡ gives passed
is_passed_lem (gives passed) e = refl
is_passed_lem (gives (handed p)) e = absurd (false≢true e)
is_passed_lem (gives (wants place size)) e = absurd (false≢true e)
is_passed_lem (refuses number values) e = absurd (false≢true e)

load_replies : (n : ℕ) (set : Settings) (ms : LoadMarks) (x : Entry Part) (w : List ℕ) (first : ℕ) (last : Bool) → x.answer ≡ gives passed
    → loaded_from n set ms x.state x.fee_ids w first last ≡ replied_by ms x (examinations_of n set x.state x.fee_ids w first last)
unfolding loaded_from examinations_of last_of all_together
load_replies zero set ms x w first last is = λ i. record { answer = sym is i; marks = ms; state = x.state; fee_ids = x.fee_ids }
load_replies (suc n) set ms x w first last is =
    by_passed (is_passed e.answer) refl (λ passes. load_replies n set (together ms e.marks) e w first last (is_passed_lem e.answer passes))
  where
    e : Entry Part
    e = examined set x.state x.fee_ids w first last

    by_passed : (b : Bool) → is_passed e.answer ≡ b
        → (is_passed e.answer ≡ true
        → loaded_from n set (together ms e.marks) e.state e.fee_ids w first last
        ≡ replied_by (together ms e.marks) e (examinations_of n set e.state e.fee_ids w first last))
        → pick b (loaded_from n set (together ms e.marks) e.state e.fee_ids w first last) (replied ms e)
        ≡ replied_by ms x (e ∷ pick b (examinations_of n set e.state e.fee_ids w first last) [])
    by_passed true passes onward = onward passes
    by_passed false stops onward = refl

-- ---- the marks are all of theirs

pub no_initial : (i : Option Initial) → either_initial i None ≡ i
no_initial None = refl
no_initial (Some initial) = refl

initial_assoc : (i j k : Option Initial) → either_initial (either_initial i j) k ≡ either_initial i (either_initial j k)
initial_assoc None j k = refl
initial_assoc (Some initial) j k = refl

carry_assoc : (b : Bool) (n m : ℕ) → pick b (n + 1) n + m ≡ n + (pick b 1 0 + m)
carry_assoc true n m = omega arith
carry_assoc false n m = omega arith

-- the first initial mark that any of them has
unfoldable an_initial : List (Entry Part) → Option Initial
an_initial [] = None
an_initial (e ∷ es) = either_initial e.marks.initial (an_initial es)

abbrev added_to : LoadMarks → List (Entry Part) → LoadMarks
added_to ms es =
    record {
      initial = either_initial ms.initial (an_initial es);
      seen_carries = ms.seen_carries + how_many (λ (m : Marks). m.seen_carry) es;
      filtered_carry = ms.filtered_carry || any (λ (m : Marks). m.filtered_carry) es;
      payload_carry = ms.payload_carry || any (λ (m : Marks). m.payload_carry) es;
      payload_cut = ms.payload_cut || any (λ (m : Marks). m.payload_cut) es;
    }

all_added : (es : List (Entry Part)) (ms : LoadMarks) → all_together ms es ≡ added_to ms es
unfolding all_together an_initial how_many any together
all_added [] ms =
    let none : ms.seen_carries ≡ ms.seen_carries + 0 = omega arith in
    λ i. record {
      initial = sym (no_initial ms.initial) i;
      seen_carries = none i;
      filtered_carry = sym (or-false ms.filtered_carry) i;
      payload_carry = sym (or-false ms.payload_carry) i;
      payload_cut = sym (or-false ms.payload_cut) i;
    }
all_added (e ∷ es) ms =
    let m = e.marks in
    all_added es (together ms m)
    ∙ (λ i. record {
      initial = initial_assoc ms.initial m.initial (an_initial es) i;
      seen_carries = carry_assoc m.seen_carry ms.seen_carries (how_many (λ (x : Marks). x.seen_carry) es) i;
      filtered_carry = or_assoc ms.filtered_carry m.filtered_carry (any (λ (x : Marks). x.filtered_carry) es) i;
      payload_carry = or_assoc ms.payload_carry m.payload_carry (any (λ (x : Marks). x.payload_carry) es) i;
      payload_cut = or_assoc ms.payload_cut m.payload_cut (any (λ (x : Marks). x.payload_cut) es) i;
    })

-- ---- only the first can have the initial mark

abbrev has_initial : Marks → Bool
has_initial m = is_initial m.initial

abbrev NoneInitial : List (Entry Part) → Type 0
NoneInitial es = any has_initial es ≡ false

later_initial : (set : Settings) (s : State) (fee_ids w : List ℕ) (first : ℕ) (last : Bool) → is_first s.progress.load ≡ false
    → has_initial (examined set s fee_ids w first last).marks ≡ false
unfolding ended entry_of marks_of initial_of
later_initial set s fee_ids w first last later =
    let due = s.progress.position.0 in
    examined_cases set s fee_ids w first last (λ e. has_initial e.marks ≡ false)
    (λ six. refl) (λ a short more. refl) (λ a short all. refl) (λ a long more cuts. refl)
    (λ a long whole. ap is_initial (off _ _ ((λ i. set.stats && later i && eqb due 0) ∙ ap (λ (b : Bool). b && eqb due 0) (and-false set.stats))))

later_none : (n : ℕ) (set : Settings) (s : State) (fee_ids w : List ℕ) (first : ℕ) (last : Bool) → is_first s.progress.load ≡ false
    → NoneInitial (examinations_of n set s fee_ids w first last)
unfolding examinations_of any
later_none zero set s fee_ids w first last later = refl
later_none (suc n) set s fee_ids w first last later =
    let e = examined set s fee_ids w first last in
    by_test (λ (es : List (Entry Part)). (has_initial e.marks || any has_initial es) ≡ false) (is_passed e.answer) _ _
    (λ passes. (λ i. later_initial set s fee_ids w first last later i || any has_initial (examinations_of n set e.state e.fee_ids w first last))
    ∙ later_none n set e.state e.fee_ids w first last (examined_passed set s fee_ids w first last passes).later)
    (λ stops. (λ i. later_initial set s fee_ids w first last later i || false))

one_initial : (n : ℕ) (set : Settings) (s : State) (fee_ids w : List ℕ) (first : ℕ) (last : Bool)
    → NoneInitial (drop 1 (examinations_of n set s fee_ids w first last))
unfolding examinations_of any
one_initial zero set s fee_ids w first last = refl
one_initial (suc n) set s fee_ids w first last =
    let e = examined set s fee_ids w first last in
    by_test NoneInitial (is_passed e.answer) _ _
    (λ passes. later_none n set e.state e.fee_ids w first last (examined_passed set s fee_ids w first last passes).later)
    (λ stops. refl)

none_found : (es : List (Entry Part)) → NoneInitial es → an_initial es ≡ None
unfolding an_initial any
none_found [] none = refl
none_found (e ∷ es) none =
    let (here, others) = neither (has_initial e.marks) (any has_initial es) none in
    (λ i. either_initial (is_none e.marks.initial here i) (an_initial es)) ∙ none_found es others
  where
    is_none : (i : Option Initial) → is_initial i ≡ false → i ≡ None
    is_none None e = refl
    is_none (Some initial) e = absurd (true≢false e)

first_found : (es : List (Entry Part)) → NoneInitial (drop 1 es) → an_initial es ≡ first_initial es
unfolding an_initial
first_found [] none = refl
first_found (e ∷ es) none = ap (either_initial e.marks.initial) (none_found es none) ∙ no_initial e.marks.initial

-- ---- a load

marks_told : (es : List (Entry Part)) → NoneInitial (drop 1 es) → all_together no_load_marks es ≡ all_marks es
marks_told es none =
    let from-none : (n : ℕ) → 0 + n ≡ n = λ n. omega arith in
    all_added es no_load_marks
    ∙ (λ i. record {
      initial = first_found es none i;
      seen_carries = from-none (how_many (λ (x : Marks). x.seen_carry) es) i;
      filtered_carry = any (λ (x : Marks). x.filtered_carry) es;
      payload_carry = any (λ (x : Marks). x.payload_carry) es;
      payload_cut = any (λ (x : Marks). x.payload_cut) es;
    })

pub loads_tell_all : LoadsTellAll
unfolding loaded examinations
loads_tell_all set s fee_ids w first last =
    let n = length w / 64 + 1 in
    let is = load_replies n set no_load_marks (unchanged s fee_ids (gives passed)) w first last refl in
    let one = one_initial n set s fee_ids w first last in
    record {
      answer = ap (λ (r : Loaded Part). r.answer) is;
      state = ap (λ (r : Loaded Part). r.state) is;
      fee-ids = ap (λ (r : Loaded Part). r.fee_ids) is;
      marks = ap (λ (r : Loaded Part). r.marks) is ∙ marks_told (examinations_of n set s fee_ids w first last) one;
      one_initial = one;
    }
