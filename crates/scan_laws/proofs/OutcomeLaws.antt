-- Laws of the outcome: what it tells of its header.
use Rattle.std.specs.Prelude.{ℕ, ◌<◌, ◌≤◌, Bool, true, false, List, ◌≡◌, ltb}
use Rattle.std.proofs.Common.{ltb-false, ltb-true}
use Rattle.basis.specs.PickLaws.{by_test}
use Rattle.rdh.specs.declared.rdh_cru.RdhCru.{RdhCru}
use Rattle.scan_cdp.specs.Steps.{outcome_in}
use Rattle.scan_cdp.specs.Outcomes.{bad_offset, filtered, is_match, header_memory_size, offset, outcome_of}
use Rattle.scan_cdp.proofs.SkipDistanceLaws.{GoodOffset, good_offset}
use Rattle.scan_cdp.specs.declared.Settings.{Settings}
use Rattle.scan_cdp.specs.declared.State.{State}
use Rattle.scan_cdp.specs.declared.Outcome.{Outcome}
use Rattle.scan_cdp.specs.declared.Outcome.TheVariants.{FeeIdsFull, BadOffset, MemorySize, Passed, HandedOut}

-- A match that refusal 3 stops.
pub record TooSmall (set : Settings) (h : RdhCru) : Type 0 where
  pub good : GoodOffset (offset h)
  pub taken : is_match set h ≡ true
  pub small : header_memory_size h < 64

-- A header that the filter does not take.
pub record NotTaken (set : Settings) (h : RdhCru) : Type 0 where
  pub good : GoodOffset (offset h)
  pub other : is_match set h ≡ false

-- A match that is not refused.
pub record Taken (set : Settings) (h : RdhCru) : Type 0 where
  pub good : GoodOffset (offset h)
  pub taken : is_match set h ≡ true
  pub large : 64 ≤ header_memory_size h

-- What is known of a header by its outcome.
abbrev pub Known : Settings → RdhCru → Outcome → Type 0
Known set h FeeIdsFull = Unit {0}
Known set h BadOffset = bad_offset (offset h) ≡ true
Known set h MemorySize = TooSmall set h
Known set h Passed = NotTaken set h
Known set h HandedOut = Taken set h

filtered_known : (set : Settings) (h : RdhCru) → GoodOffset (offset h) → Known set h (filtered set h)
unfolding filtered
filtered_known set h good =
    by_test (Known set h) (is_match set h) _ _
    (λ taken. by_test (Known set h) (ltb (header_memory_size h) 64) _ _
    (λ small. record { good = good; taken = taken; small = ltb-true (header_memory_size h) 64 small })
    (λ large. record { good = good; taken = taken; large = ltb-false (header_memory_size h) 64 large }))
    (λ other. record { good = good; other = other })

pub outcome_known : (set : Settings) (first full : Bool) (h : RdhCru) → Known set h (outcome_of set first full h)
unfolding outcome_of
outcome_known set first full h =
    let good : bad_offset (offset h) ≡ false → Known set h (filtered set h) = λ e. filtered_known set h (good_offset (offset h) e) in
    by_test (Known set h) first _ _
    (λ one. by_test (Known set h) full _ _ (λ e. tt) (λ e. by_test (Known set h) (bad_offset (offset h)) _ _ (λ bad. bad) good))
    (λ later. by_test (Known set h) (bad_offset (offset h)) _ _ (λ bad. bad) (λ fine.
    by_test (Known set h) full _ _ (λ e. tt) (λ e. good fine)))

-- The outcome of the header where a scan stands.
pub known_here : (set : Settings) (s : State) (fee_ids : List ℕ) (h : RdhCru) → Known set h (outcome_in set s.progress fee_ids h)
unfolding outcome_in
known_here set s fee_ids h = outcome_known set _ _ h
