-- The statements on the chain itself: it goes on entry by entry (C1), what an entry can be (C2), that its last entry alone is refused (C3), and
-- that it ends within the number of entries that it is allowed (S11).
use Rattle.std.specs.Prelude.{ℕ, ◌+◌, ◌/◌, ◌≤◌, Bool, true, false, not, ◌≡◌, List, [], ◌∷◌, ◌++◌, eqb, length}
use Rattle.basis.specs.Pick.{pick}
use Rattle.basis.specs.Refusals.{Answer, gives, refuses}
use Rattle.scan_cdp.specs.Answers.{Found, handed, passed, wants}
use Rattle.scan_cdp.specs.Steps.{Entry, unusable}
use Rattle.scan_cdp.specs.declared.Settings.{Settings}
use Rattle.scan_laws.specs.Runs.{one_to_four}
use Rattle.chain.specs.Chain.{Kept, behind, chain, chain_of, is_refused, next}

-- The chain is the next entry and what is behind it: the chain from what that entry left, or nothing where it is refused.
abbrev pub EntryByEntry : Type 0
EntryByEntry =
    (recording : List ℕ) (set : Settings) (start : Kept)
    → chain recording set start ≡ next recording set start ∷ behind (chain recording set) (next recording set start)

abbrev pub is_none : {A : Type 0} → List A → Bool
is_none [] = true
is_none (x ∷ xs) = false

-- Wherever an entry stands in the chain, it is refused exactly if nothing is behind it.
abbrev pub RefusedLast : Type 0
RefusedLast =
    (recording : List ℕ) (set : Settings) (start : Kept) (earlier : List (Entry (List ℕ))) (e : Entry (List ℕ)) (later : List (Entry (List ℕ)))
    → chain recording set start ≡ earlier ++ (e ∷ later) → is_refused e.answer ≡ is_none later

-- What an entry can be where refusal 6 by state and list is due, or not: 6; and else passed, handed out, or refused with 1 to 4. It is never a
-- want (C2, C3).
abbrev pub is_entry : (six : Bool) → Answer (Found (List ℕ)) → Bool
is_entry six (gives passed) = not six
is_entry six (gives (handed p)) = not six
is_entry six (gives (wants place size)) = false
is_entry six (refuses number values) = pick six (eqb number 6) (one_to_four number)

abbrev pub OnlyEntries : Type 0
OnlyEntries =
    (recording : List ℕ) (set : Settings) (k : Kept) → is_entry (unusable k.state k.fee_ids) (next recording set k).answer ≡ true

-- The chain has no more entries than length / 64 + 1, and to allow more than these adds none.
pub record AllowanceIsEnough (recording : List ℕ) (set : Settings) (start : Kept) : Type 0 where
  pub most : length (chain recording set start) ≤ length recording / 64 + 1
  pub same : (n : ℕ) → length recording / 64 + 1 ≤ n → chain_of n recording set start ≡ chain recording set start

abbrev pub Allowance : Type 0
Allowance = (recording : List ℕ) (set : Settings) (start : Kept) → AllowanceIsEnough recording set start
