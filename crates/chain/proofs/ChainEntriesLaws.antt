-- Proofs of the statements on the chain itself, all from the law that it is one entry and what is behind it.
use Rattle.std.specs.Prelude.{ℕ, zero, suc, ◌+◌, ◌/◌, ◌≤◌, Bool, true, false, not, ◌≡◌, refl, List, [], ◌∷◌, ◌++◌, length, drop}
use Rattle.std.proofs.Common.{ap, subst, sym, ◌∙◌, arith}
use Rattle.basis.specs.Pick.{pick}
use Rattle.basis.specs.PickLaws.{by_test, off, on}
use Rattle.scan_cdp.specs.Steps.{Entry, ended, unusable}
use Rattle.scan_cdp.specs.declared.Settings.{Settings}
use Rattle.scan_laws.proofs.RowLaws.{header-number}
use Rattle.scan_laws.proofs.StepLaws.{entry_cases, step_cases}
use Rattle.chain.specs.Chain.{Kept, chain, chain_of, is_refused, left, next, place_of}
use Rattle.chain.specs.ChainEntriesClaims.{Allowance, EntryByEntry, OnlyEntries, RefusedLast, is_entry, is_none}
use Rattle.chain.proofs.ChainLaws.{chain_allowed, chain_induction, chain_unfolds}
use Rattle.chain.specs.Following.{entries_of}

pub entry_by_entry : EntryByEntry
entry_by_entry = chain_unfolds

-- ---- what an entry can be

pub only_entries : OnlyEntries
unfolding ended
only_entries recording set k =
    let rest = drop (place_of k) recording in
    step_cases set k.state k.fee_ids rest (length recording) (λ e. is_entry (unusable k.state k.fee_ids) e.answer ≡ true)
    (λ six. on _ _ six)
    (λ usable short. off _ _ usable)
    (λ usable whole.
    entry_cases set k.state k.fee_ids rest (length recording) (λ a. is_entry (unusable k.state k.fee_ids) a ≡ true)
    (λ number values r. off _ _ usable ∙ header-number number r)
    (λ other. ap not usable) (λ p same taken. ap not usable))

-- ---- a refused entry is the last

-- each entry is refused exactly if nothing is behind it
abbrev Ordered : List (Entry (List ℕ)) → Type 0
Ordered [] = Unit {0}
Ordered (e ∷ es) = (is_refused e.answer ≡ is_none es) × Ordered es

chain_ordered : (recording : List ℕ) (set : Settings) (start : Kept) → Ordered (chain recording set start)
chain_ordered recording set =
    chain_induction recording set (λ k. Ordered (chain recording set k)) (λ k onward.
    subst Ordered (sym (chain_unfolds recording set k)) (by_refused (next recording set k) (is_refused (next recording set k).answer) refl onward))
  where
    some : (k : Kept) → false ≡ is_none (chain recording set k)
    some k = ap is_none (sym (chain_unfolds recording set k))

    by_refused : (e : Entry (List ℕ)) (b : Bool) → is_refused e.answer ≡ b
        → (is_refused e.answer ≡ false → Ordered (chain recording set (left e)))
        → Ordered (e ∷ pick b [] (chain recording set (left e)))
    by_refused e true refused onward = (refused, tt)
    by_refused e false goes onward = (goes ∙ some (left e), onward goes)

ordered_here : (earlier : List (Entry (List ℕ))) (e : Entry (List ℕ)) (later : List (Entry (List ℕ))) → Ordered (earlier ++ (e ∷ later))
    → is_refused e.answer ≡ is_none later
ordered_here [] e later (here, others) = here
ordered_here (x ∷ earlier) e later (here, others) = ordered_here earlier e later others

pub refused_last : RefusedLast
refused_last recording set start earlier e later is = ordered_here earlier e later (subst Ordered is (chain_ordered recording set start))

-- ---- the allowance

few : (n : ℕ) (recording : List ℕ) (set : Settings) (k : Kept) → length (chain_of n recording set k) ≤ n
unfolding chain_of entries_of
few zero recording set k = omega arith
few (suc n) recording set k =
    let e = next recording set k in
    let onward = few n recording set (left e) in
    by_test (λ (es : List (Entry (List ℕ))). length (e ∷ es) ≤ suc n) (is_refused e.answer) _ _ (λ refused. omega arith) (λ goes. omega (arith, onward))

pub allowance : Allowance
unfolding chain
allowance recording set start =
    record {
      most = few (length recording / 64 + 1) recording set start;
      same = λ n more. chain_allowed n recording set start more;
    }
