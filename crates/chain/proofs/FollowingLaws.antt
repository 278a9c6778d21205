-- The general part: a list of calls on any reader, each of which answers with a run of the chain's next entries, follows the chain.
use Rattle.std.specs.Prelude.{Bool, true, false, ◌||◌, ◌≡◌}
use Rattle.std.proofs.Math.Path.{refl, ap, sym}
use Rattle.std.proofs.Common.{◌∙◌}
use mathlib.Core.List.{List, [], ◌∷◌}
use Rattle.basis.specs.Each.{Each}
use Rattle.basis.specs.Pick.{pick}
use Rattle.basis.specs.PickLaws.{on}
use Rattle.chain.specs.Following.{Served, cut_into, kept_after, left_over, one_ends, replies_of}

-- Where the chain is an entry and what is behind it, and where each call serves that as it replies, with the chain from where it left off
-- still to come unless it ended it, all calls follow the chain.
module _ {Kept Call Entry Reply : Type 0} (chain : Kept → List Entry) (next : Kept → Entry) (behind : Kept → List Entry)
    (unfolds : (k : Kept) → chain k ≡ next k ∷ behind k)
    (reply_to : Kept → Call → Reply) (kept_by : Reply → Kept) (ends : Reply → Bool)
    (served_by : Kept → Call → Entry → List Entry → Served Entry Reply) (Fits : Call → Type 0)
    (serves : (k : Kept) (c : Call) → Fits c
    → served_by k c (next k) (behind k) ≡ record { reply = reply_to k c; rest = pick (ends (reply_to k c)) [] (chain (kept_by (reply_to k c))) }) where
  pub all_follow : (k : Kept) (cs : List Call) → Each Fits cs → replies_of reply_to kept_by ends k cs ≡ cut_into served_by kept_by k cs (chain k)
  unfolding replies_of cut_into
  all_follow k [] fits = refl
  all_follow k (c ∷ cs) (fit, fits) =
      sym (ap (cut_into served_by kept_by k (c ∷ cs)) (unfolds k)
      ∙ ap (λ (o : Served Entry Reply). o.reply ∷ cut_into served_by kept_by (kept_by o.reply) cs o.rest) (serves k c fit)
      ∙ ap (λ (rs : List Reply). reply_to k c ∷ rs) (from_there (ends (reply_to k c)) cs (all_follow (kept_by (reply_to k c)) cs fits)))
    where
      nothing_left : (cs : List Call) → cut_into served_by kept_by (kept_by (reply_to k c)) cs [] ≡ []
      nothing_left [] = refl
      nothing_left (d ∷ ds) = refl

      from_there : (b : Bool) (cs : List Call)
          → replies_of reply_to kept_by ends (kept_by (reply_to k c)) cs ≡ cut_into served_by kept_by (kept_by (reply_to k c)) cs (chain (kept_by (reply_to k c)))
          → cut_into served_by kept_by (kept_by (reply_to k c)) cs (pick b [] (chain (kept_by (reply_to k c))))
          ≡ pick b [] (replies_of reply_to kept_by ends (kept_by (reply_to k c)) cs)
      from_there true cs onward = nothing_left cs
      from_there false cs onward = sym onward

  -- What is still to come after these replies: nothing where one of them ended the chain, and else the chain from where they left off.
  abbrev pub rest_after : Kept → List Reply → List Entry
  rest_after k rs = pick (one_ends ends rs) [] (chain (kept_after kept_by k rs))

  -- That is what the calls leave over.
  pub rest_follows : (k : Kept) (cs : List Call) → Each Fits cs
      → left_over served_by kept_by k cs (chain k) ≡ rest_after k (replies_of reply_to kept_by ends k cs)
  unfolding replies_of left_over one_ends kept_after
  rest_follows k [] fits = refl
  rest_follows k (c ∷ cs) (fit, fits) =
      ap (left_over served_by kept_by k (c ∷ cs)) (unfolds k)
      ∙ ap (λ (o : Served Entry Reply). left_over served_by kept_by (kept_by o.reply) cs o.rest) (serves k c fit)
      ∙ from_there (ends r) refl cs (replies_of reply_to kept_by ends (kept_by r) cs) (rest_follows (kept_by r) cs fits)
    where
      r : Reply
      r = reply_to k c

      nothing_left : (cs : List Call) → left_over served_by kept_by (kept_by r) cs [] ≡ []
      nothing_left [] = refl
      nothing_left (d ∷ ds) = refl

      from_there : (b : Bool) → ends r ≡ b → (cs : List Call) (rs : List Reply)
          → left_over served_by kept_by (kept_by r) cs (chain (kept_by r)) ≡ rest_after (kept_by r) rs
          → left_over served_by kept_by (kept_by r) cs (pick b [] (chain (kept_by r))) ≡ rest_after k (r ∷ pick b [] rs)
      from_there true is cs rs onward = nothing_left cs ∙ sym (on _ _ (ap (λ (b : Bool). b || false) is))
      from_there false is cs rs onward =
          onward ∙ ap (λ (b : Bool). pick (b || one_ends ends rs) [] (chain (kept_after kept_by (kept_by r) rs))) (sym is)
