-- Laws of the load's loop: what holds at each turn, and that the load from there on answers as the whole load does.
use Rattle.std.specs.Prelude.{ℕ, zero, suc, ◌+◌, ◌*◌, ◌/◌, ◌≤◌, ◌<◌, Bool, true, false, ◌||◌, ◌≡◌, refl, List, [], length, take, Result, Ok, Err}
use Rattle.std.proofs.Math.Path.{ap}
use Rattle.std.proofs.Common.{sym, subst, ◌∙◌, arith, add-one}
use Rattle.basis.specs.Pick.{pick}
use Rattle.basis.specs.PickLaws.{on, off}
use Rattle.basis.specs.Refusals.{refuses}
use Rattle.stats.specs.Lists.{twice}
use Rattle.scan_cdp.specs.Loads.{is_passed, loaded, loaded_from, no_load_marks, replied, together}
use Rattle.scan_laws.proofs.RunLaws.{enough, fewer}
use Rattle.scan_laws.proofs.StepLaws.{PassedOn, examined_lengths, examined_passed, shown_to}
use Rattle.scan_cdp.specs.Steps.{Entry, unusable}
use Rattle.scan_cdp.specs.Windows.{examined, outside}
use Rattle.scan_laws.proofs.WindowLaws.{refused_6}
use Rattle.scan_cdp.specs.Answers.{load_answer}
use Rattle.scan_cdp.specs.declared.LoadCdp.{LoadCdp}
use Rattle.scan_cdp.specs.declared.LoadCdp.TheVariants.{Packet, Want}
use Rattle.scan_cdp.specs.declared.LoadMarks.{LoadMarks}
use Rattle.scan_cdp.specs.declared.Refusal.{Refusal}
use Rattle.scan_cdp.specs.declared.Marks.{Marks}
use Rattle.scan_cdp.specs.declared.Part.{Part}
use Rattle.scan_cdp.specs.declared.Settings.{Settings}
use Rattle.scan_cdp.specs.declared.State.{State}

one_more : (due : Bool) (n : ℕ) → pick due (n + 1) n ≤ n + 1
one_more true n = omega arith
one_more false n = omega arith

carried : (ms : LoadMarks) (m : Marks) → (together ms m).seen_carries ≤ ms.seen_carries + 1
unfolding together
carried ms m = one_more m.seen_carry ms.seen_carries

module _ (set : Settings) (ms₀ : LoadMarks) (s₀ : State) (fee_ids₀ w : List ℕ) (first : ℕ) (last : Bool) where
  -- A turn of the loop: the whole load is the load from here on, with enough examinations to come.
  pub record LoadTurn (ms : LoadMarks) (s : State) (fee_ids : List ℕ) : Type 0 where
    pub turns : ℕ
    pub same : loaded_from (length w / 64 + 1) set ms₀ s₀ fee_ids₀ w first last ≡ loaded_from (suc turns) set ms s fee_ids w first last
    pub to_come_lem : length (shown_to s w first) < 64 * suc turns
    pub once : twice (take s.progress.links_used s.links) ≡ false
    pub fee-ids : length fee_ids ≡ length fee_ids₀
    pub carries : ms.seen_carries + suc turns ≤ ms₀.seen_carries + (length w / 64 + 1)

  pub load_begins : twice (take s₀.progress.links_used s₀.links) ≡ false → LoadTurn ms₀ s₀ fee_ids₀
  load_begins once =
      record {
        turns = length w / 64;
        same = ap (λ (n : ℕ). loaded_from n set ms₀ s₀ fee_ids₀ w first last) (add-one (length w / 64));
        to_come_lem = subst (λ (n : ℕ). length (shown_to s₀ w first) < 64 * n) (add-one (length w / 64)) (enough s₀ w first);
        once = once;
        fee-ids = refl;
        carries = omega arith;
      }

  module _ (ms : LoadMarks) (s : State) (fee_ids : List ℕ) (here : LoadTurn ms s fee_ids) (e : Entry Part)
      (is : e ≡ examined set s fee_ids w first last) where
    -- the load after this examination
    turned : loaded_from (suc here.turns) set ms s fee_ids w first last
        ≡ pick (is_passed e.answer) (loaded_from here.turns set (together ms e.marks) e.state e.fee_ids w first last) (replied ms e)
    unfolding loaded_from
    turned =
        ap (λ (x : Entry Part).
        pick (is_passed x.answer) (loaded_from here.turns set (together ms x.marks) x.state x.fee_ids w first last) (replied ms x))
        (sym is)

    -- any answer but a passed header ends it
    pub load_ends : is_passed e.answer ≡ false → replied ms e ≡ loaded_from (length w / 64 + 1) set ms₀ s₀ fee_ids₀ w first last
    load_ends stops = sym (here.same ∙ turned ∙ off _ _ stops)

    -- the FEE ids are as many as at the start
    pub load_fee_ids : length e.fee_ids ≡ length fee_ids₀
    load_fee_ids =
        subst (λ (x : Entry Part). length x.fee_ids ≡ length fee_ids) (sym is) (examined_lengths set s fee_ids w first last).fee-ids
        ∙ here.fee-ids

    -- a passed header moves the byte place on
    pub load_passes : is_passed e.answer ≡ true → PassedOn s fee_ids w first e
    load_passes passes =
        subst (λ (x : Entry Part). PassedOn s fee_ids w first x) (sym is)
        (examined_passed set s fee_ids w first last (ap (λ (x : Entry Part). is_passed x.answer) (sym is) ∙ passes))

    -- and leads to the next turn
    pub load_goes_on : is_passed e.answer ≡ true → LoadTurn (together ms e.marks) e.state e.fee_ids
    load_goes_on passes =
        let on-it = load_passes passes in
        next here.turns refl
        (here.same ∙ turned ∙ on _ _ passes)
        (fewer s e.state w first here.turns on-it.starts on-it.ends on-it.least here.to_come_lem)
      where
        next : (n : ℕ) → n ≡ here.turns
            → loaded_from (length w / 64 + 1) set ms₀ s₀ fee_ids₀ w first last
            ≡ loaded_from n set (together ms e.marks) e.state e.fee_ids w first last
            → length (shown_to e.state w first) < 64 * n → LoadTurn (together ms e.marks) e.state e.fee_ids
        next zero is_zero same few = absurd (omega arith)
        next (suc n) is-suc same few =
            let on-it = load_passes passes in
            record {
              turns = n;
              same = same;
              to_come_lem = few;
              once = on-it.once;
              fee-ids = on-it.fee-ids ∙ here.fee-ids;
              carries = omega (arith, is-suc, carried ms e.marks, here.carries);
            }

-- A state that is refused is refused at once, with no marks.
pub load_refused : (set : Settings) (s : State) (fee_ids w : List ℕ) (first : ℕ) (last : Bool) → unusable s fee_ids ≡ true
    → record { answer = refuses 6 []; marks = no_load_marks; state = s; fee_ids = fee_ids } ≡ loaded set s fee_ids w first last
unfolding loaded loaded_from together
load_refused set s fee_ids w first last six =
    let refused = refused_6 set s fee_ids w first last (ap (λ (b : Bool). b || outside s.progress.place.0 first (length w)) six) in
    sym (ap (λ (n : ℕ). loaded_from n set no_load_marks s fee_ids w first last) (add-one (length w / 64))
    ∙ ap (λ (x : Entry Part).
    pick (is_passed x.answer)
    (loaded_from (length w / 64) set (together no_load_marks x.marks) x.state x.fee_ids w first last)
    (replied no_load_marks x)) refused)

-- What a load answers is never a passed header.
pub not_passed : (a : Result LoadCdp Refusal) → is_passed (load_answer a) ≡ false
not_passed (Ok (Packet packet)) = refl
not_passed (Ok (Want place size)) = refl
not_passed (Err why) = refl
