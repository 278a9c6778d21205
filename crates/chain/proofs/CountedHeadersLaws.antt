-- Proof of the statement on counts: what one step of the walk counts, what a call counts of the steps that it meets, and so all calls.
use Prim.Native.Nat.{ℕ, ◌+◌, ◌*◌, ◌%◌, ◌^◌, ◌<◌}
use Rattle.std.specs.Prelude.{Bool, ◌&&◌, ◌≡◌, eqb, ltb, length, drop}
use Rattle.std.proofs.Math.Bool.{true, false, and-false}
use Rattle.std.proofs.lemmas.Bool.{false≢true}
use Rattle.std.proofs.Math.Path.{refl, ap, sym, subst}
use Rattle.std.proofs.Common.{subst₂, ◌∙◌, eqb-true, ltb-false, ltb-true, length-append}
use mathlib.Core.List.{List, [], ◌∷◌, ◌++◌, append_assoc, append-nil, flat_map, map, map-append}
use native.Mathlib.Omega.{arith}
use Rattle.basis.specs.Each.{Each}
use Rattle.basis.specs.Pick.{pick}
use Rattle.basis.specs.PickLaws.{by_test, on}
use Rattle.rdh.specs.declared.rdh_cru.RdhCru.{RdhCru}
use Rattle.stats.specs.Counts.{added, full_count}
use Rattle.stats.specs.declared.Count.{Count}
use Rattle.trigger_stats.specs.Counters.{collected, count}
use Rattle.trigger_stats.proofs.CountersLaws.{collected_both, counts_words}
use Rattle.scan_cdp.specs.Loads.{is_passed, no_load_marks, together}
use Rattle.scan_cdp.specs.Outcomes.{is_counted, header_trigger_type}
use Rattle.scan_cdp.specs.Steps.{Entry, answer_in, ended, entry_of, is_first, marks_of, outcome_in, payload_of, progress_after, raised, tallied, triggers_after}
use Rattle.scan_cdp.specs.declared.LoadMarks.{LoadMarks}
use Rattle.scan_cdp.specs.declared.Marks.{Marks}
use Rattle.scan_cdp.specs.declared.Outcome.{Outcome}
use Rattle.scan_cdp.specs.declared.Outcome.TheVariants.{FeeIdsFull, BadOffset, MemorySize, Passed, HandedOut}
use Rattle.scan_cdp.specs.declared.Position.{Position}
use Rattle.scan_cdp.specs.declared.Settings.{Settings}
use Rattle.scan_laws.proofs.RowLaws.{either}
use Rattle.scan_laws.proofs.StepLaws.{step_cases, usable}
use Rattle.chain.specs.Calls.{Call, Hold, Reply, Served, Window, along, examined_by, examines, free, held, held_back, kept_by, kept_by_all, load_along, loaded_by, loads, replies, served_by, to_come}
use Rattle.chain.proofs.CallsFollowLaws.{calls_follow, leaves_rest}
use Rattle.chain.specs.Chain.{Kept, chain, left, place_of}
use Rattle.chain.proofs.GatheredLaws.{each_part, gathered_both}
use Rattle.chain.specs.CountedHeaders.{carries_in, carries_of, counted_headers, counted_in, counted_words, is_counted_by, seen_of, triggers_of}
use Rattle.chain.specs.CountedHeadersClaims.{CallsCount, after}
use Rattle.chain.specs.Following.{cut_into, kept_after, left_over}
use Rattle.chain.specs.OwnPositions.{open_at}
use Rattle.chain.specs.Walk.{Met, header_at, met, walk, walk_along}
use Rattle.chain.proofs.WalkLaws.{each_met}

-- ---- numbers

-- A count of so many more, which started again so many times.
record Grown (before n carries after : ℕ) : Type 0 where
  total : after + carries * full_count ≡ before + n
  small : after < 2 ^ 32

grown_both : {a b z n m c d : ℕ} → Grown a n c b → Grown b m d z → Grown a (n + m) (c + d) z
grown_both one other = record { total = omega (arith, one.total, other.total); small = other.small }

grown_none : {a : ℕ} → a < 2 ^ 32 → Grown a 0 0 a
grown_none small = record { total = omega arith; small = small }

-- A count below 2^32 - 1 that is raised by 1.
one_added : (count : ℕ) → count < full_count → Grown count 1 (pick (added count 1).carry 1 0) (added count 1).value
unfolding added
one_added count below =
    let small : (count + 1) % 2 ^ 32 ≡ count + 1 = omega (arith, below) in
    by_test (λ (c : Count). Grown count 1 (pick c.carry 1 0) c.value) (eqb ((count + 1) % 2 ^ 32) full_count) _ _
    (λ full. record { total = omega (arith, small, eqb-true ((count + 1) % 2 ^ 32) full_count full); small = omega arith })
    (λ more. record { total = omega (arith, small); small = omega (arith, small, below) })

-- ---- a step of the walk

-- What is counted at a step: the word of its header, if that is counted, and 1 in seen.
record Raises (set : Settings) (m : Met) : Type 0 where
  triggers : triggers_of (left m.entry) ≡ collected (triggers_of m.before) (map header_trigger_type (counted_in set m))
  seen : seen_of m.before < 2 ^ 32
      → Grown (seen_of m.before) (length (counted_in set m)) (pick m.entry.marks.seen_carry 1 0) (seen_of (left m.entry))

-- It is so where the counts are raised just if the answer tells that the header was counted.
raises : (set : Settings) (m : Met) (due : Bool) → (set.stats && is_counted_by (is_first (open_at m.before)) m.entry.answer) ≡ due
    → triggers_of (left m.entry) ≡ triggers_after due (header_trigger_type m.header) (triggers_of m.before)
    → record { value = seen_of (left m.entry); carry = m.entry.marks.seen_carry } ≡ raised due (seen_of m.before) 1
    → (seen_of m.before ≡ full_count → due ≡ true → ⊥) → Raises set m
unfolding triggers_after raised collected
raises set m true told triggers seen below =
    let h = m.header in
    let one : h ∷ [] ≡ counted_in set m = sym (ap (λ (b : Bool). pick b (h ∷ []) []) told) in
    record {
      triggers = triggers ∙ ap (λ (hs : List RdhCru). collected (triggers_of m.before) (map header_trigger_type hs)) one;
      seen = λ small.
          subst₂ (λ (hs : List RdhCru) (c : Count). Grown (seen_of m.before) (length hs) (pick c.carry 1 0) c.value) one (sym seen)
          (one_added (seen_of m.before) (not_full (seen_of m.before) small (λ full. below full refl)));
    }
  where
    not_full : (n : ℕ) → n < 2 ^ 32 → (n ≡ full_count → ⊥) → n < full_count
    not_full n small less =
        either (ltb n full_count) (ltb-true n full_count) (λ above. absurd (less (omega (arith, small, ltb-false n full_count above))))
raises set m false told triggers seen below =
    let h = m.header in
    let none : [] ≡ counted_in set m = sym (ap (λ (b : Bool). pick b (h ∷ []) []) told) in
    record {
      triggers = triggers ∙ ap (λ (hs : List RdhCru). collected (triggers_of m.before) (map header_trigger_type hs)) none;
      seen = λ small.
          subst₂ (λ (hs : List RdhCru) (c : Count). Grown (seen_of m.before) (length hs) (pick c.carry 1 0) c.value) none (sym seen)
          (grown_none small);
    }

-- The answer tells whether the header was counted.
counted_told : (first : Bool) (t : Outcome) (h : RdhCru) (payload : List ℕ) (start position : Position)
    → is_counted_by first (answer_in t h payload start position) ≡ is_counted first t
counted_told first FeeIdsFull h payload start position = refl
counted_told first BadOffset h payload start position = refl
counted_told first MemorySize h payload start position = refl
counted_told first Passed h payload start position = refl
counted_told first HandedOut h payload start position = refl

next_raises : (recording : List ℕ) (set : Settings) (k : Kept) → Raises set (met recording set k)
unfolding ended entry_of progress_after marks_of tallied triggers_after raised
next_raises recording set k =
    let p = k.state.progress in
    let rest = drop (place_of k) recording in
    let h = header_at recording k in
    let t = outcome_in set p k.fee_ids h in
    let first = is_first p.load in
    step_cases set k.state k.fee_ids rest (length recording) (λ e. Raises set (record { before = k; header = h; entry = e }))
    (λ six. raises set _ false (and-false set.stats) refl refl (λ full due. false≢true due))
    (λ fits short. raises set _ false (and-false set.stats) refl refl (λ full due. false≢true due))
    (λ fits whole.
    raises set _ (set.stats && is_counted first t)
    (ap (λ (b : Bool). set.stats && b) (counted_told first t h (payload_of set.skip_payload t h rest) _ _))
    refl refl (λ full due. (usable k.state k.fee_ids fits).seen full))

-- ---- the steps that a call meets

module _ (recording : List ℕ) (set : Settings) where
  -- Of some entries to come, these steps were met, and the others are still to come; what is kept has counted those that were met.
  record Took (k : Kept) (es : List (Entry (List ℕ))) (k' : Kept) (rest : List (Entry (List ℕ))) (carries : ℕ) : Type 0 where
    steps : List Met
    split : steps ++ walk_along recording k' rest ≡ walk_along recording k es
    triggers : triggers_of k' ≡ collected (triggers_of k) (counted_words set steps)
    seen : seen_of k < 2 ^ 32 → Grown (seen_of k) (length (counted_headers set steps)) carries (seen_of k')

  took_none : (k : Kept) (es : List (Entry (List ℕ))) → Took k es k es 0
  unfolding flat_map collected
  took_none k es = record { steps = []; split = refl; triggers = refl; seen = grown_none }

  took_one : (k : Kept) (e : Entry (List ℕ)) (es : List (Entry (List ℕ)))
      → Raises set (record { before = k; header = header_at recording k; entry = e })
      → Took k (e ∷ es) (left e) es (pick e.marks.seen_carry 1 0)
  unfolding flat_map walk_along
  took_one k e es raised-here =
      let m : Met = record { before = k; header = header_at recording k; entry = e } in
      let alone : counted_in set m ≡ counted_in set m ++ [] = sym (append-nil (counted_in set m)) in
      record {
        steps = m ∷ [];
        split = refl;
        triggers = raised-here.triggers ∙ ap (λ (hs : List RdhCru). collected (triggers_of k) (map header_trigger_type hs)) alone;
        seen = λ small.
            subst (λ (hs : List RdhCru). Grown (seen_of k) (length hs) (pick e.marks.seen_carry 1 0) (seen_of (left e))) alone
            (raised-here.seen small);
      }

  took_both : {k k' k'' : Kept} {es rest rest' : List (Entry (List ℕ))} {c d : ℕ}
      → Took k es k' rest c → Took k' rest k'' rest' d → Took k es k'' rest' (c + d)
  took_both {k} {k'} {k''} {c = c} {d = d} one other =
      let ms = one.steps in
      let others = other.steps in
      let headers = gathered_both (counted_in set) ms others in
      record {
        steps = ms ++ others;
        split =
            append_assoc ms others (walk_along recording k'' _)
            ∙ ap (λ (l : List Met). ms ++ l) other.split
            ∙ one.split;
        triggers =
            other.triggers
            ∙ ap (λ (l : List ℕ). collected l (counted_words set others)) one.triggers
            ∙ sym (ap (λ (hs : List RdhCru). collected (triggers_of k) (map header_trigger_type hs)) headers
            ∙ ap (collected (triggers_of k)) (map-append header_trigger_type (counted_headers set ms) (counted_headers set others))
            ∙ collected_both (triggers_of k) (counted_words set ms) (counted_words set others));
        seen = λ small.
            let first = one.seen small in
            subst (λ (n : ℕ). Grown (seen_of k) n (c + d) (seen_of k''))
            (sym (ap length headers ∙ length-append (counted_headers set ms) (counted_headers set others)))
            (grown_both first (other.seen first.small));
      }

  -- what holds of each step of the walk along some entries
  abbrev Counting : Kept → List (Entry (List ℕ)) → Type 0
  Counting k es = Each (Raises set) (walk_along recording k es)

  examined_took : (k : Kept) (e : Entry (List ℕ)) (es : List (Entry (List ℕ))) (h : Hold) → Counting k (e ∷ es)
      → let o = examined_by k e es h in Took k (e ∷ es) (kept_by o.reply) o.rest (carries_in o.reply)
  unfolding walk_along
  examined_took k e es free (here, onward) = took_one k e es here
  examined_took k e es (held a) counting = took_none k (e ∷ es)

  -- a load that had these marks before adds its carries to theirs
  record LoadTook (ms : LoadMarks) (k : Kept) (es : List (Entry (List ℕ))) (o : Served) : Type 0 where
    more : ℕ
    carries : carries_in o.reply ≡ ms.seen_carries + more
    took : Took k es (kept_by o.reply) o.rest more

  carried : (ms : LoadMarks) (m : Marks) → (together ms m).seen_carries ≡ ms.seen_carries + pick m.seen_carry 1 0
  unfolding together
  carried ms m = one_more m.seen_carry ms.seen_carries
    where
      one_more : (carry : Bool) (n : ℕ) → pick carry (n + 1) n ≡ n + pick carry 1 0
      one_more true n = refl
      one_more false n = omega arith

  load_took : (w : Window) (es : List (Entry (List ℕ))) (ms : LoadMarks) (k : Kept) → Counting k es → LoadTook ms k es (load_along set w ms k es)
  unfolding load_along walk_along
  load_took w [] ms k counting = record { more = 0; carries = omega arith; took = took_none k [] }
  load_took w (e ∷ es) ms k (here, onward) =
      by_held (held_back set k w e) (load_took w es (together ms e.marks) (left e) onward)
    where
      one : ℕ
      one = pick e.marks.seen_carry 1 0

      further : Served
      further = load_along set w (together ms e.marks) (left e) es

      by_held : (h : Hold) → LoadTook (together ms e.marks) (left e) es further → LoadTook ms k (e ∷ es) (loaded_by ms k e es further h)
      by_held free more =
          by_test (LoadTook ms k (e ∷ es)) (is_passed e.answer) _ _
          (λ passes.
          record {
            more = one + more.more;
            carries = omega (arith, more.carries, carried ms e.marks);
            took = took_both (took_one k e es here) more.took;
          })
          (λ stops. record { more = one; carries = carried ms e.marks; took = took_one k e es here })
      by_held (held a) more = record { more = 0; carries = omega arith; took = took_none k (e ∷ es) }

  served_took : (k : Kept) (c : Call) (e : Entry (List ℕ)) (es : List (Entry (List ℕ))) → Counting k (e ∷ es)
      → let o = served_by set k c e es in Took k (e ∷ es) (kept_by o.reply) o.rest (carries_in o.reply)
  unfolding served_by
  served_took k (examines w) e es counting = examined_took k e es (held_back set k w e) counting
  served_took k (loads w) e es counting =
      let o = load_along set w no_load_marks k (e ∷ es) in
      let loaded = load_took w (e ∷ es) no_load_marks k counting in
      let told : loaded.more ≡ carries_in o.reply = omega (arith, loaded.carries) in
      subst (Took k (e ∷ es) (kept_by o.reply) o.rest) told loaded.took

  -- ---- all calls

  along_took : (k : Kept) (calls : List Call) (es : List (Entry (List ℕ))) → Counting k es
      → Took k es (kept_by_all k (along set k calls es)) (to_come set k calls es) (carries_of (along set k calls es))
  unfolding cut_into left_over kept_after carries_of
  along_took k [] es counting = took_none k es
  along_took k (c ∷ cs) [] counting = took_none k []
  along_took k (c ∷ cs) (e ∷ es) counting =
      let o = served_by set k c e es in
      let one = served_took k c e es counting in
      let onward : Counting (kept_by o.reply) o.rest =
      (each_part (Raises set) one.steps _ (subst (Each (Raises set)) (sym one.split) counting)).1 in
      took_both one (along_took (kept_by o.reply) cs o.rest onward)

pub calls_count : CallsCount
unfolding walk walk_along
calls_count recording set start calls windows =
    let es = chain recording set start in
    let took : Took recording set start es (after set start calls) (to_come set start calls es) (carries_of (replies set start calls)) =
    subst (λ (rs : List Reply). Took recording set start es (kept_by_all start rs) (to_come set start calls es) (carries_of rs))
    (sym (calls_follow recording set start calls windows))
    (along_took recording set start calls es (each_met recording set (Raises set) (next_raises recording set) start)) in
    record {
      met = took.steps;
      split = took.split;
      whole = λ ends.
          let none = leaves_rest recording set start calls windows ∙ on _ _ ends in
          sym (append-nil took.steps)
          ∙ ap (λ (l : List (Entry (List ℕ))). took.steps ++ walk_along recording (after set start calls) l) (sym none)
          ∙ took.split;
      triggers = took.triggers;
      each = λ k small.
          ap (count k) took.triggers ∙ counts_words k (triggers_of start) (counted_words set took.steps) small;
      seen = λ small. (took.seen small).total;
    }
