-- Each turn is one examination; the load from there on answers as the whole load does.
use Rattle.std.proofs.Common.{◌≡◌, Bool, true, false, ℕ, take, List, ap, sym, subst, refl, ◌∙◌, arith, length, Option, Some, None, Result, Ok, Err}
use Rattle.std.specs.Result.{result_transpose}
use Rattle.stats.specs.Lists.{twice}
use Rattle.scan_cdp.specs.Answers.{examined_answer, load_answer}
use Rattle.scan_cdp.specs.Loads.{is_passed, loaded, no_load_marks}
use Rattle.scan_cdp.specs.Scans.{SameScan, state_of}
use Rattle.scan_cdp.specs.Steps.{numbers_unusable}
use Rattle.scan_cdp.specs.Windows.{examined, examined_unless}
use Rattle.scan_cdp.specs.declared.LoadCdp.{LoadCdp}
use Rattle.scan_cdp.specs.declared.LoadMarks.{LoadMarks}
use Rattle.scan_cdp.specs.declared.Refusal.{Refusal}
use Rattle.scan_cdp.specs.declared.Refusal.TheVariants.{Unusable}
use Rattle.scan_cdp.specs.declared.Scan.{Scan}
use Rattle.scan_cdp.specs.declared.Settings.{Settings}
use Rattle.scan_laws.proofs.LoadTurnLaws.{LoadTurn, load_begins, load_ends, load_goes_on, load_passes, load_refused, not_passed}
use Rattle.scan_window.specs.UnusableLaws.{once_examined, twice-unusable}
use Rattle.input_scanner.specs.Replies.{load_of}
use Rattle.input_scanner.proofs.load_cdp.Goals as goal

-- What an examination answers, as the load asks for it: nothing, if the header was passed; or else what the load answers.
goes_on : (a : Result (Option LoadCdp) Refusal) → result_transpose a ≡ None → is_passed (examined_answer a) ≡ true
goes_on (Ok None) e = refl
goes_on (Ok (Some found)) e = absurd cc
goes_on (Err why) e = absurd cc

answers : (a : Result (Option LoadCdp) Refusal) (b : Result LoadCdp Refusal) → result_transpose a ≡ Some b → examined_answer a ≡ load_answer b
answers (Ok None) b e = absurd cc
answers (Ok (Some found)) b e = let same : Ok found ≡ b = cc in ap (λ (r : Result LoadCdp Refusal). load_answer r) same
answers (Err why) b e = let same : Err why ≡ b = cc in ap (λ (r : Result LoadCdp Refusal). load_answer r) same

-- The marks that a load begins with.
no_marks_yet : (ms : LoadMarks)
    → (ms.initial ≡ None) × ((ms.seen_carries ≡ 0) × ((ms.filtered_carry ≡ false) × ((ms.payload_carry ≡ false) × (ms.payload_cut ≡ false))))
    → ms ≡ no_load_marks
no_marks_yet ms (initial, (seen, (filtered, (payload, cut)))) =
    λ i. record { initial = initial i; seen_carries = seen i; filtered_carry = filtered i; payload_carry = payload i; payload_cut = cut i }

-- A step of a scan that goes on as the same one, in which no link is listed twice, is an examination with the settings at the start.
examines : (s₀ s : Scan) (w : List ℕ) (first : ℕ) (last : Bool) → SameScan s₀ s → twice (take s.progress.links_used s.links.now) ≡ false
    → examined_unless (numbers_unusable s.progress (length s.links.now) (length s.fee_ids.now)) s.set (state_of s) s.fee_ids.now w first last
    ≡ examined s₀.set (state_of s) s.fee_ids.now w first last
examines s₀ s w first last same once =
    once_examined s.set s.progress s.links.now s.triggers.now s.fee_ids.now w first last once
    ∙ ap (λ (set : Settings). examined set (state_of s) s.fee_ids.now w first last) same.set

pub returns-then-lists_link_twice-clause-loaded : goal.returns-then-lists_link_twice-clause-loaded
returns-then-lists_link_twice-clause-loaded c =
    let s = c.args.scan.now in
    let window = c.args.window in
    let six = twice-unusable (state_of s) s.fee_ids.now (sym c.lists_link_twice.ensures ∙ c.if-lists_link_twice.true) in
    ap (λ (ms : LoadMarks). load_of (record { answer = Err Unusable; marks = ms }) s) (no_marks_yet c.default-marks.result c.default-marks.ensures)
    ∙ load_refused s.set (state_of s) s.fee_ids.now window.bytes.now window.first.0 window.last six

pub loop-answer-init : goal.loop-answer-init
loop-answer-init c =
    let s = c.args.scan.now in
    let window = c.args.window in (
      record { set = refl; links = refl; triggers = refl; fee_ids = refl; links_length = refl; fee_ids_length = refl },
      subst
          (λ (ms : LoadMarks).
          LoadTurn s.set no_load_marks (state_of s) s.fee_ids.now window.bytes.now window.first.0 window.last ms (state_of s) s.fee_ids.now)
          (sym (no_marks_yet c.default-marks.result c.default-marks.ensures))
          (load_begins s.set no_load_marks (state_of s) s.fee_ids.now window.bytes.now window.first.0 window.last
          (sym c.lists_link_twice.ensures ∙ c.if-lists_link_twice.false)),
    )

pub loop-answer-smaller : goal.loop-answer-smaller
loop-answer-smaller c =
    let s₀ = c.args.scan.now in
    let s = c.loop-answer.scan in
    let window = c.args.window in
    let w = window.bytes.now in
    let (same, turn) = c.loop-answer.invariant in
    let is = c.take_step-next.ensures.examined ∙ examines s₀ s w window.first.0 window.last same turn.once in
    let passes = goes_on c.take_step-next.result.answer (sym c.transpose.ensures ∙ c.in_default.is) in
    let on-it =
    load_passes s₀.set _ (state_of s₀) s₀.fee_ids.now w window.first.0 window.last c.loop-answer.marks (state_of s) s.fee_ids.now turn _ is passes in
    omega (arith, on-it.starts, on-it.ends, on-it.least)

pub loop-answer-preserved : goal.loop-answer-preserved
loop-answer-preserved c =
    let s₀ = c.args.scan.now in
    let s = c.loop-answer.scan in
    let next = c.take_step-next.new.scan in
    let window = c.args.window in
    let w = window.bytes.now in
    let (same, turn) = c.loop-answer.invariant in
    let still = c.take_step-next.ensures.same in
    let is = c.take_step-next.ensures.examined ∙ examines s₀ s w window.first.0 window.last same turn.once in
    let passes = goes_on c.take_step-next.result.answer (sym c.transpose.ensures ∙ c.in_default.is) in (
      record {
        set = cc;
        links = cc;
        triggers = cc;
        fee_ids = cc;
        links_length = still.links_length ∙ same.links_length;
        fee_ids_length = still.fee_ids_length ∙ same.fee_ids_length;
      },
      subst
          (λ (ms : LoadMarks).
          LoadTurn s₀.set no_load_marks (state_of s₀) s₀.fee_ids.now w window.first.0 window.last ms (state_of next) next.fee_ids.now)
          (sym c.together-marks.ensures)
          (load_goes_on s₀.set _ (state_of s₀) s₀.fee_ids.now w window.first.0 window.last c.loop-answer.marks (state_of s) s.fee_ids.now turn _ is passes),
    )

pub returns-clause-loaded : goal.returns-clause-loaded
unfolding loaded
returns-clause-loaded c =
    let s₀ = c.args.scan.now in
    let s = c.loop-answer.scan in
    let next = c.take_step-next.new.scan in
    let window = c.args.window in
    let w = window.bytes.now in
    let (same, turn) = c.loop-answer.invariant in
    let is = c.take_step-next.ensures.examined ∙ examines s₀ s w window.first.0 window.last same turn.once in
    let told = answers c.take_step-next.result.answer c.in-Some.answer (sym c.transpose.ensures ∙ c.in-Some.is) in
    let stops = ap is_passed told ∙ not_passed c.in-Some.answer in
    (λ i. record { answer = sym told i; marks = c.together-marks.ensures i; state = state_of next; fee_ids = next.fee_ids.now })
    ∙ load_ends s₀.set _ (state_of s₀) s₀.fee_ids.now w window.first.0 window.last c.loop-answer.marks (state_of s) s.fee_ids.now turn _ is stops
