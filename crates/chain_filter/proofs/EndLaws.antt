-- Laws of the end of a chain: there is one, it is behind all entries, and no position is ahead of it.
use Rattle.std.specs.Prelude.{ℕ, ◌≤◌, Bool, ◌≡◌, refl, length, drop}
use Rattle.std.proofs.Math.Bool.{true, false}
use Rattle.std.proofs.Common.{ap, sym, subst, ◌∙◌}
use mathlib.Core.List.{List, [], ◌∷◌, ◌++◌, flat_map}
use native.Mathlib.Omega.{arith}
use Rattle.basis.specs.Each.{Each}
use Rattle.basis.specs.Pick.{pick}
use Rattle.basis.specs.PickLaws.{off}
use Rattle.rdh.specs.declared.rdh_cru.RdhCru.{RdhCru}
use Rattle.scan_cdp.specs.Steps.{Entry, ended, entry_of, outcome_in, position_after, progress_after}
use Rattle.scan_cdp.specs.declared.Outcome.{Outcome}
use Rattle.scan_cdp.specs.declared.Outcome.TheVariants.{FeeIdsFull, BadOffset, MemorySize, Passed, HandedOut}
use Rattle.scan_cdp.specs.declared.Settings.{Settings}
use Rattle.scan_laws.proofs.RowLaws.{either}
use Rattle.scan_laws.proofs.StepLaws.{step_cases}
use Rattle.chain.proofs.CallsLaws.{entry_ends}
use Rattle.chain.specs.Chain.{Kept, chain, is_last, left, next, place_of}
use Rattle.chain.proofs.ChainLaws.{chain_induction, gathered_next}
use Rattle.chain.specs.OwnPositions.{position_of}
use Rattle.chain.proofs.TellingLaws.{Telling}
use Rattle.chain.specs.Walk.{header_at}
use Rattle.chain_filter.specs.FilterThinsClaims.{OneEnd}
use Rattle.chain_filter.specs.Scanned.{Ending, end_in, ending_at}

-- The end that an entry is, if it is one.
abbrev pub end_of : Entry (List ℕ) → List Ending
end_of e = end_in e.answer (left e)

-- An answer tells of the end, by what is kept after it.
pub telling_ends : Telling end_in
telling_ends = record { of_passed = λ k. refl; of_want = λ k place size. refl; of_six = λ k usable. off _ _ usable }

module _ (recording : List ℕ) (set : Settings) where
  abbrev pub ends_from : Kept → List Ending
  ends_from k = flat_map end_of (chain recording set k)

  -- The end that the next entry would be.
  abbrev pub end_next : Kept → Ending
  end_next k = ending_at (next recording set k).answer (left (next recording set k))

  by_next : (k : Kept) (b : Bool) → is_last (next recording set k) ≡ b
      → ends_from k ≡ pick b (end_next k ∷ []) [] ++ flat_map end_of (pick b [] (chain recording set (left (next recording set k))))
  by_next k b is =
      gathered_next end_of recording set k b is
      ∙ ap (λ (ends : Bool). pick ends (end_next k ∷ []) [] ++ flat_map end_of (pick b [] (chain recording set (left (next recording set k)))))
      (entry_ends recording set k ∙ is)

  -- Where the next entry is the last, it is the end; any other leaves the end where it was.
  pub end_here : (k : Kept) → is_last (next recording set k) ≡ true → ends_from k ≡ end_next k ∷ []
  unfolding flat_map
  end_here k last = by_next k true last

  pub end_onward : (k : Kept) → is_last (next recording set k) ≡ false → ends_from k ≡ ends_from (left (next recording set k))
  unfolding flat_map
  end_onward k goes = by_next k false goes

  -- So it is met once, at the last entry: what holds of one that is the end, and stays where another goes before it, holds of it.
  pub end_induction : (P : Kept → List Ending → Type 0)
      → ((k : Kept) → P k (end_next k ∷ []))
      → ((k : Kept) (ends : List Ending) → P (left (next recording set k)) ends → P k ends)
      → (k : Kept) → P k (ends_from k)
  end_induction P here onward =
      chain_induction recording set (λ k. P k (ends_from k)) (λ k from_there.
      either (is_last (next recording set k)) (λ last. subst (P k) (sym (end_here k last)) (here k)) (λ goes.
      subst (P k) (sym (end_onward k goes)) (onward k (ends_from (left (next recording set k))) (from_there goes))))

  position_grows : (k : Kept) → (position_of k).0 ≤ (position_of (left (next recording set k))).0
  unfolding ended entry_of progress_after
  position_grows k =
      step_cases set k.state k.fee_ids (drop (place_of k) recording) (length recording)
      (λ e. (position_of k).0 ≤ (position_of (left e)).0) (λ six. omega arith) (λ usable short. omega arith)
      (λ usable long. by_outcome (outcome_in set k.state.progress k.fee_ids (header_at recording k)) (header_at recording k) (position_of k).0)
    where
      by_outcome : (t : Outcome) (h : RdhCru) (position : ℕ) → position ≤ position_after t h position
      by_outcome FeeIdsFull h position = omega arith
      by_outcome BadOffset h position = omega arith
      by_outcome MemorySize h position = omega arith
      by_outcome Passed h position = omega arith
      by_outcome HandedOut h position = omega arith

  -- It has no position before one on the way.
  abbrev pub NotBefore : Kept → List Ending → Type 0
  NotBefore k = Each (λ (x : Ending). (position_of k).0 ≤ (position_of x.kept).0)

  later : (k k' : Kept) (ends : List Ending) → (position_of k).0 ≤ (position_of k').0 → NotBefore k' ends → NotBefore k ends
  later k k' [] grows each = tt
  later k k' (x ∷ xs) grows (this, others) = (omega (arith, grows, this), later k k' xs grows others)

  pub end_not_before : (k : Kept) → NotBefore k (ends_from k)
  end_not_before =
      end_induction NotBefore (λ k. (position_grows k, tt)) (λ k ends. later k (left (next recording set k)) ends (position_grows k))

pub one_end : OneEnd
one_end recording set = end_induction recording set (λ k ends. length ends ≡ 1) (λ k. refl) (λ k ends one. one)
