-- Proof of the statement on what a scan skips: an entry that is not refused has an offset that refusal 2 let through.
use Rattle.std.specs.Prelude.{ℕ, ◌+◌, Bool, true, ◌||◌, ◌≡◌, List, ◌+ℤ◌, length, drop}
use Rattle.std.proofs.Math.Bool.{false}
use Rattle.std.proofs.Common.{true≢false, ◌∙◌}
use Rattle.std.proofs.Math.Path.{ap}
use Rattle.std.proofs.Math.IntN.{pos}
use Rattle.basis.specs.PickLaws.{on}
use Rattle.basis.specs.Refusals.{Answer}
use Rattle.rdh.specs.declared.rdh_cru.RdhCru.{RdhCru}
use Rattle.scan_cdp.specs.Answers.{Found}
use Rattle.scan_cdp.specs.Loads.{is_passed}
use Rattle.scan_cdp.specs.Outcomes.{offset, skip_distance}
use Rattle.scan_cdp.specs.SkipDistanceClaims.{in_reach}
use Rattle.scan_cdp.proofs.SkipDistanceLaws.{skips_to}
use Rattle.scan_cdp.specs.Steps.{answer_in, ended, entry_of, outcome_in, place_after, position_after, progress_after}
use Rattle.scan_cdp.specs.declared.Outcome.{Outcome}
use Rattle.scan_cdp.specs.declared.Position.{Position}
use Rattle.scan_cdp.specs.declared.Settings.{Settings}
use Rattle.scan_laws.proofs.OutcomeLaws.{known_here}
use Rattle.scan_laws.proofs.RowLaws.{answer_cases}
use Rattle.scan_laws.proofs.StepLaws.{step_cases}
use Rattle.chain.specs.Chain.{Kept, is_refused, place_of}
use Rattle.chain.specs.SkipsClaims.{EachSkipsAhead, SkipsAhead}
use Rattle.chain.specs.Walk.{header_at, met}
use Rattle.chain.proofs.WalkLaws.{each_met}

module _ (recording : List ℕ) (set : Settings) (k : Kept) where
  abbrev rest : List ℕ
  rest = drop (place_of k) recording

  abbrev h : RdhCru
  h = header_at recording k

  abbrev n : ℕ
  n = offset h

  abbrev reported : ℕ
  reported = k.state.progress.position.0

  abbrev skip : Bool
  skip = set.skip_payload

  -- what an outcome and its answer lead to
  record Leads (t : Outcome) (answer : Answer (Found (List ℕ))) : Type 0 where
    reach : in_reach (skip_distance n) ≡ true
    position : pos (position_after t h reported) ≡ pos (reported + 64) +ℤ skip_distance n
    place : (is_passed answer || skip) ≡ true
        → pos (place_after skip t h (place_of k) (length rest) (length recording)) ≡ pos (place_of k + 64) +ℤ skip_distance n

  abbrev here : Outcome
  here = outcome_in set k.state.progress k.fee_ids h

  header_leads : (payload : List ℕ) (from : Position)
      → is_refused (answer_in here h payload from k.state.progress.position) ≡ false
      → Leads here (answer_in here h payload from k.state.progress.position)
  unfolding place_after
  header_leads payload from =
      answer_cases set here h from k.state.progress.position (λ t a. is_refused (a payload) ≡ false → Leads t (a payload))
      (known_here set k.state k.fee_ids h)
      (λ number values r kept goes. absurd (true≢false goes))
      (λ other goes.
      record {
        reach = other.good.reach;
        position = skips_to reported n other.good.least;
        place = λ due. skips_to (place_of k) n other.good.least;
      })
      (λ taken goes.
      record {
        reach = taken.good.reach;
        position = skips_to reported n taken.good.least;
        place = λ skips. ap pos (on _ _ skips) ∙ skips_to (place_of k) n taken.good.least;
      })

  next_skips : is_refused (met recording set k).entry.answer ≡ false → SkipsAhead set (met recording set k)
  unfolding ended entry_of progress_after
  next_skips =
      step_cases set k.state k.fee_ids rest (length recording)
      (λ e. is_refused e.answer ≡ false → SkipsAhead set (record { before = k; header = h; entry = e }))
      (λ six goes. absurd (true≢false goes))
      (λ usable short goes. absurd (true≢false goes))
      (λ usable whole goes.
      let leads = header_leads _ _ goes in
      record { reach = leads.reach; position = leads.position; place = leads.place })

pub each_skips_ahead : EachSkipsAhead
each_skips_ahead recording set =
    each_met recording set (λ m. is_refused m.entry.answer ≡ false → SkipsAhead set m) (next_skips recording set)
