-- Any reader: the chain of entries that it meets; a list of calls on it, with its replies; and the runs of entries that a chain is cut into, one
-- for each call.
use Rattle.std.specs.Prelude.{ℕ, zero, suc, Bool, false, ◌||◌, List, [], ◌∷◌}
use Rattle.basis.specs.Pick.{pick}

-- A chain of entries: what each one leaves, and whether it is the last.
module _ {Kept Entry : Type 0} (left : Entry → Kept) (stops : Entry → Bool) where
  -- What is behind an entry, of a chain that goes on from what it left.
  abbrev pub behind_of : (Kept → List Entry) → Entry → List Entry
  behind_of onward e = pick (stops e) [] (onward (left e))

  -- The chain over any `next`, which says what is met where a reader stands: at most n entries.
  unfoldable pub entries_of : (Kept → Entry) → ℕ → Kept → List Entry
  entries_of next zero k = []
  entries_of next (suc n) k =
      let e = next k in
      e ∷ behind_of (entries_of next n) e

-- A reply, and the entries that are still to come.
pub record Served (Entry Reply : Type 0) : Type 0 where
  pub reply : Reply
  pub rest : List Entry

-- What is left for the next call once these replies were given.
unfoldable pub kept_after : {Kept Reply : Type 0} → (Reply → Kept) → Kept → List Reply → Kept
kept_after kept_by k [] = k
kept_after kept_by k (r ∷ rs) = kept_after kept_by (kept_by r) rs

-- Whether one of the replies ends the chain.
unfoldable pub one_ends : {Reply : Type 0} → (Reply → Bool) → List Reply → Bool
one_ends ends [] = false
one_ends ends (r ∷ rs) = ends r || one_ends ends rs

-- The replies to a list of calls, each given what the one before left, up to and with the one that ends the chain.
module _ {Kept Call Reply : Type 0} (reply_to : Kept → Call → Reply) (kept_by : Reply → Kept) (ends : Reply → Bool) where
  unfoldable pub replies_of : Kept → List Call → List Reply
  replies_of k [] = []
  replies_of k (c ∷ cs) =
      let r = reply_to k c in
      r ∷ pick (ends r) [] (replies_of (kept_by r) cs)

-- The replies that a list of entries is cut into, one run of them for each call. Where no entry is left, the chain has ended, and nothing
-- more is said (C3).
module _ {Kept Call Entry Reply : Type 0} (served_by : Kept → Call → Entry → List Entry → Served Entry Reply) (kept_by : Reply → Kept) where
  unfoldable pub cut_into : Kept → List Call → List Entry → List Reply
  cut_into k [] es = []
  cut_into k (c ∷ cs) [] = []
  cut_into k (c ∷ cs) (e ∷ es) =
      let o = served_by k c e es in
      o.reply ∷ cut_into (kept_by o.reply) cs o.rest

  -- The entries that no call has taken.
  unfoldable pub left_over : Kept → List Call → List Entry → List Entry
  left_over k [] es = es
  left_over k (c ∷ cs) [] = []
  left_over k (c ∷ cs) (e ∷ es) =
      let o = served_by k c e es in
      left_over (kept_by o.reply) cs o.rest
