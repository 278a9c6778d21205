-- Two chains in step, over any `next` of each: where what the two keep is related, their next entries are alike, and both stop or both leave
-- what is related again. So they are alike entry by entry.
use Prim.Native.Nat.{ℕ, zero, suc}
use Rattle.std.specs.Prelude.{Bool, true, false, ◌≡◌, refl, List, []}
use Rattle.std.proofs.lemmas.Bool.{false≢true}
use Rattle.std.proofs.Common.{true≢false}
use Rattle.basis.specs.Pick.{pick}
use Rattle.chain.proofs.GatheredLaws.{Pairwise}
use Rattle.chain.specs.Following.{entries_of}

-- What is behind two entries that stop together.
both_behind : {A B : Type 0} (R : A → B → Type 0) (stop stop' : Bool) (xs : List A) (ys : List B) → stop ≡ stop'
    → (stop ≡ false → Pairwise R xs ys) → Pairwise R (pick stop [] xs) (pick stop' [] ys)
both_behind R true true xs ys together onward = tt
both_behind R true false xs ys together onward = absurd (true≢false together)
both_behind R false true xs ys together onward = absurd (false≢true together)
both_behind R false false xs ys together onward = onward refl

module _ {Kept Entry Kept' Entry' : Type 0} (left : Entry → Kept) (stops : Entry → Bool) (left' : Entry' → Kept') (stops' : Entry' → Bool)
    (Related : Kept → Kept' → Type 0) (Alike : Entry → Entry' → Type 0) where
  -- The next entries of the two.
  pub record BothStep (e : Entry) (e' : Entry') : Type 0 where
    pub alike : Alike e e'
    pub together : stops e ≡ stops' e'
    pub onward : stops e ≡ false → Related (left e) (left' e')

  pub in_step : (next : Kept → Entry) (next' : Kept' → Entry')
      → ((k : Kept) (k' : Kept') → Related k k' → BothStep (next k) (next' k'))
      → (n : ℕ) (k : Kept) (k' : Kept') → Related k k'
      → Pairwise Alike (entries_of left stops next n k) (entries_of left' stops' next' n k')
  unfolding entries_of
  in_step next next' steps zero k k' related = tt
  in_step next next' steps (suc n) k k' related =
      let both = steps k k' related in (
        both.alike,
        both_behind Alike (stops (next k)) (stops' (next' k')) _ _ both.together (λ goes.
            in_step next next' steps n (left (next k)) (left' (next' k')) (both.onward goes)),
      )
