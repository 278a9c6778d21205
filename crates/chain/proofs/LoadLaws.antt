-- A load on a window of a recording: it answers with the next entries of the chain up to the first that is not passed, or is held back.
use Rattle.std.specs.Prelude.{ℕ, zero, suc, ◌*◌, ◌<◌, true, false, ◌≡◌, List, [], length}
use Rattle.std.proofs.Math.Bool.{or-false}
use Rattle.std.proofs.lemmas.Bool.{false≢true}
use Rattle.std.proofs.Math.Path.{refl, ap, sym}
use Rattle.std.proofs.Common.{subst, ◌∙◌, arith}
use Rattle.basis.specs.Pick.{pick}
use Rattle.basis.specs.PickLaws.{by_test, off, on}
use Rattle.basis.specs.Refusals.{Answer, gives, refuses}
use Rattle.scan_cdp.specs.Answers.{Found, handed, passed, wants}
use Rattle.scan_cdp.specs.Loads.{Loaded, is_passed, loaded_from, replied, together}
use Rattle.scan_cdp.specs.Steps.{Entry, no_marks}
use Rattle.scan_cdp.specs.Windows.{examined}
use Rattle.scan_cdp.specs.declared.LoadMarks.{LoadMarks}
use Rattle.scan_cdp.specs.declared.Part.{Part}
use Rattle.scan_cdp.specs.declared.Settings.{Settings}
use Rattle.scan_laws.proofs.LoadRepliesLaws.{no_initial}
use Rattle.scan_laws.proofs.RunLaws.{fewer}
use Rattle.scan_laws.proofs.StepLaws.{examined_passed, shown_to}
use Rattle.chain.specs.Calls.{Hold, Served, Window, WindowOf, ends_chain, read_entry, free, held, held_back, held_load, kept_by, load, load_along, load_read, loaded_by, read_from}
use Rattle.chain.proofs.CallsLaws.{HeldFine, entry_ends, held_fine}
use Rattle.chain.specs.Chain.{Kept, behind, chain, is_refused, left, next}
use Rattle.chain.proofs.ChainLaws.{chain_unfolds}
use Rattle.chain.proofs.ExaminationLaws.{examination_follows, found_by}

-- ---- marks

-- An examination that is held back adds no marks.
together_none : (ms : LoadMarks) → together ms no_marks ≡ ms
unfolding together
together_none ms =
    λ i. record {
      initial = no_initial ms.initial i;
      seen_carries = ms.seen_carries;
      filtered_carry = or-false ms.filtered_carry i;
      payload_carry = or-false ms.payload_carry i;
      payload_cut = or-false ms.payload_cut i;
    }

-- ---- a load

passed_read : (w : List ℕ) (a : Answer (Found Part)) → is_passed (read_from w a) ≡ is_passed a
passed_read w (gives passed) = refl
passed_read w (gives (handed p)) = refl
passed_read w (gives (wants place size)) = refl
passed_read w (refuses number values) = refl

pub not-refused : {P : Type 0} (a : Answer (Found P)) → is_passed a ≡ true → is_refused a ≡ false
not-refused (gives found) e = refl
not-refused (refuses number values) e = absurd (false≢true e)

-- What a load replies, and what is then still to come.
abbrev pub served_load : List ℕ → Settings → Loaded (List ℕ) → Served
served_load recording set r =
    record { reply = load r; rest = pick (ends_chain (load r)) [] (chain recording set (kept_by (load r))) }

module _ (recording : List ℕ) (set : Settings) (w : Window) (of : WindowOf recording w) where
  -- the load with so many examinations to come
  abbrev load_on : ℕ → LoadMarks → Kept → Loaded (List ℕ)
  load_on n ms k = load_read w.bytes (loaded_from n set ms k.state k.fee_ids w.bytes w.first w.last)

  module _ (n : ℕ) (ms : LoadMarks) (k : Kept) where
    abbrev x : Entry Part
    x = examined set k.state k.fee_ids w.bytes w.first w.last

    abbrev e : Entry (List ℕ)
    e = next recording set k

    load_on_lem : load_on (suc n) ms k
        ≡ pick (is_passed (read_entry w.bytes x).answer) (load_on n (together ms x.marks) (left x)) (replied ms (read_entry w.bytes x))
    unfolding loaded_from
    load_on_lem =
        by_test
        (λ (r : Loaded Part). load_read w.bytes r
        ≡ pick (is_passed (read_entry w.bytes x).answer) (load_on n (together ms x.marks) (left x)) (replied ms (read_entry w.bytes x)))
        (is_passed x.answer) _ _
        (λ passes. sym (on _ _ (passed_read w.bytes x.answer ∙ passes)))
        (λ stops. sym (off _ _ (passed_read w.bytes x.answer ∙ stops)))

    -- held back
    load_held : (a : Answer (Found (List ℕ))) → held_back set k w e ≡ held a
        → loaded_by ms k e (behind (chain recording set) e) (load_along set w (together ms e.marks) (left e) (behind (chain recording set) e)) (held_back set k w e)
        ≡ served_load recording set (load_on (suc n) ms k)
    load_held a is =
        let (no-pass, goes_on) = subst (HeldFine k) is (held_fine set k w e) in
        let found = examination_follows recording set k w of ∙ ap (λ (h : Hold). found_by k e h) is in
        let replies : load_on (suc n) ms k ≡ held_load ms k a =
        load_on_lem
        ∙ off _ _ (ap (λ (y : Entry (List ℕ)). is_passed y.answer) found ∙ no-pass)
        ∙ ap (λ (y : Entry (List ℕ)). replied ms y) found
        ∙ ap (λ (m : LoadMarks). record { answer = a; marks = m; state = k.state; fee_ids = k.fee_ids }) (together_none ms) in
        ap (λ (h : Hold). loaded_by ms k e (behind (chain recording set) e) (load_along set w (together ms e.marks) (left e) (behind (chain recording set) e)) h) is
        ∙ (λ i. record { reply = load (held_load ms k a); rest = (sym (chain_unfolds recording set k) ∙ sym (off [] (chain recording set k) goes_on)) i })
        ∙ ap (served_load recording set) (sym replies)

    -- the next entry is answered
    load_free : held_back set k w e ≡ free
        → (is_passed e.answer ≡ true
        → load_along set w (together ms e.marks) (left e) (chain recording set (left e))
        ≡ served_load recording set (load_on n (together ms e.marks) (left e)))
        → loaded_by ms k e (behind (chain recording set) e) (load_along set w (together ms e.marks) (left e) (behind (chain recording set) e)) (held_back set k w e)
        ≡ served_load recording set (load_on (suc n) ms k)
    load_free is onward =
        ap (λ (h : Hold). loaded_by ms k e (behind (chain recording set) e) (load_along set w (together ms e.marks) (left e) (behind (chain recording set) e)) h) is
        ∙ by_test (λ (o : Served). o ≡ served_load recording set (load_on (suc n) ms k)) (is_passed e.answer) _ _
        (λ passes.
        ap (load_along set w (together ms e.marks) (left e)) (off [] (chain recording set (left e)) (not-refused e.answer passes))
        ∙ onward passes
        ∙ ap (served_load recording set)
        (sym (load_on_lem
        ∙ on (load_on n (together ms x.marks) (left x)) (replied ms (read_entry w.bytes x))
        (ap (λ (y : Entry (List ℕ)). is_passed y.answer) found ∙ passes)
        ∙ ap (λ (y : Entry (List ℕ)). load_on n (together ms y.marks) (left y)) found)))
        (λ stops.
        (λ i. record {
          reply = load (replied ms e);
          rest = pick (sym (entry_ends recording set k) i) [] (chain recording set (left e));
        })
        ∙ ap (served_load recording set)
        (sym (load_on_lem
        ∙ off (load_on n (together ms x.marks) (left x)) (replied ms (read_entry w.bytes x))
        (ap (λ (y : Entry (List ℕ)). is_passed y.answer) found ∙ stops)
        ∙ ap (λ (y : Entry (List ℕ)). replied ms y) found)))
      where
        found : read_entry w.bytes x ≡ e
        found = examination_follows recording set k w of ∙ ap (λ (h : Hold). found_by k e h) is

    -- an entry that is passed leaves fewer bytes to come
    fewer_left : held_back set k w e ≡ free → is_passed e.answer ≡ true → length (shown_to k.state w.bytes w.first) < 64 * suc n
        → length (shown_to e.state w.bytes w.first) < 64 * n
    fewer_left is passes few =
        let found = examination_follows recording set k w of ∙ ap (λ (h : Hold). found_by k e h) is in
        let on-it =
        examined_passed set k.state k.fee_ids w.bytes w.first w.last
        (sym (passed_read w.bytes x.answer) ∙ ap (λ (y : Entry (List ℕ)). is_passed y.answer) found ∙ passes) in
        subst (λ (y : Entry (List ℕ)). length (shown_to y.state w.bytes w.first) < 64 * n) found
        (fewer k.state x.state w.bytes w.first n on-it.starts on-it.ends on-it.least few)

    -- either way
    load_turn : (is_passed e.answer ≡ true → held_back set k w e ≡ free
        → load_along set w (together ms e.marks) (left e) (chain recording set (left e))
        ≡ served_load recording set (load_on n (together ms e.marks) (left e)))
        → load_along set w ms k (chain recording set k) ≡ served_load recording set (load_on (suc n) ms k)
    unfolding load_along
    load_turn onward = ap (load_along set w ms k) (chain_unfolds recording set k) ∙ by_held (held_back set k w e) refl
      where
        by_held : (h : Hold) → held_back set k w e ≡ h
            → loaded_by ms k e (behind (chain recording set) e) (load_along set w (together ms e.marks) (left e) (behind (chain recording set) e)) (held_back set k w e)
            ≡ served_load recording set (load_on (suc n) ms k)
        by_held (held a) is = load_held a is
        by_held free is = load_free is (λ passes. onward passes is)

  -- A load takes entries up to the first that is not passed, and puts their marks together (C5).
  pub load_follows : (n : ℕ) (ms : LoadMarks) (k : Kept) → length (shown_to k.state w.bytes w.first) < 64 * n
      → load_along set w ms k (chain recording set k) ≡ served_load recording set (load_on n ms k)
  load_follows zero ms k few = absurd (omega (arith, few))
  load_follows (suc n) ms k few =
      load_turn n ms k (λ passes is.
      load_follows n (together ms (next recording set k).marks) (left (next recording set k)) (fewer_left n ms k is passes few))
