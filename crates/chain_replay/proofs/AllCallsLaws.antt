-- Proof that a list of what is asked leaves nothing out, nor four lists.
use Rattle.std.specs.Prelude.{ℕ, zero, suc, ◌+◌, ◌≤◌, Bool, true, false, ◌&&◌, ◌≡◌, refl, List, [], ◌∷◌, leb, length, take}
use Rattle.std.proofs.Common.{ap, sym, ◌∙◌, le-leb}
use Rattle.std.proofs.Math.Seq.{take-nil}
use Rattle.basis.specs.Pick.{pick}
use Rattle.scan_cdp.specs.declared.Settings.{Settings}
use Rattle.chain.specs.Calls.{Call, Reply, Window, WindowOf, ends_chain, examines, kept_by, loads, replies, reply_to}
use Rattle.chain.proofs.CallsFollowLaws.{calls_follow}
use Rattle.chain.specs.Chain.{Kept}
use Rattle.chain.specs.Following.{replies_of}
use Rattle.chain_replay_calls.specs.OneCall.{call_at, lent_as, window_at}
use Rattle.chain_replay_calls.specs.declared.Asked.{Asked}
use Rattle.chain_replay_calls.specs.declared.CallKind.{CallKind}
use Rattle.chain_replay_calls.specs.declared.CallKind.TheVariants.{Examination, Load}
use Rattle.chain_replay.specs.AllCallsClaims.{EachReply, EachReplyOfLists, EveryCall, EveryCallOfLists}
use Rattle.chain_replay.specs.AllCallsClaims.{all_asked, asked_by, firsts_of, kinds_of, lasts_of, sizes_of}
use Rattle.chain_replay.specs.Replays.{calls_of, chain_replies}
use Rattle.chain_replay.proofs.FourListsLaws.{asked_lists, first_asked, same_calls}
use Rattle.chain_replay.proofs.ReplaysLaws.{windows}

-- ---- every call

still_last : (b : Bool) (n m : ℕ) → (b ≡ true → n ≤ m) → (b && leb n m) ≡ b
still_last true n m reaches = le-leb n m (reaches refl)
still_last false n m reaches = refl

same_window : (recording : List ℕ) (kind : CallKind) (w : Window) → WindowOf recording w
    → window_at recording (record { kind = kind; first = w.first; size = length w.bytes; last = w.last }) ≡ w
unfolding window_at
same_window recording kind w of =
    (λ i. lent_as (sym of.bytes i) w.first (w.last && leb (length recording) (w.first + length (sym of.bytes i))))
    ∙ (λ i. lent_as w.bytes w.first (still_last w.last (length recording) (w.first + length w.bytes) of.last i))

pub every_call : EveryCall
unfolding calls_of
every_call recording [] of = refl
every_call recording (examines w ∷ cs) (of, ofs) = λ i. examines (same_window recording Examination w of i) ∷ every_call recording cs ofs i
every_call recording (loads w ∷ cs) (of, ofs) = λ i. loads (same_window recording Load w of i) ∷ every_call recording cs ofs i

-- ---- each reply

first_calls : (n : ℕ) (recording : List ℕ) (asked : List Asked) → calls_of recording (take n asked) ≡ take n (calls_of recording asked)
unfolding calls_of
first_calls zero recording asked = refl
first_calls (suc n) recording [] = refl
first_calls (suc n) recording (a ∷ rest) = ap (λ (cs : List Call). call_at recording a ∷ cs) (first_calls n recording rest)

first_replies : (n : ℕ) (set : Settings) (k : Kept) (calls : List Call) → replies set k (take n calls) ≡ take n (replies set k calls)
unfolding replies_of
first_replies zero set k calls = refl
first_replies (suc n) set k [] = refl
first_replies (suc n) set k (c ∷ cs) =
    let r = reply_to set k c in
    ap (λ (rs : List Reply). r ∷ rs) (behind (ends_chain r) _ _ (first_replies n set (kept_by r) cs))
  where
    behind : (b : Bool) (xs ys : List Reply) → xs ≡ take n ys → pick b [] xs ≡ take n (pick b [] ys)
    behind true xs ys e = sym (take-nil n)
    behind false xs ys e = e

pub each-reply : EachReply
each-reply n recording set start asked =
    let calls = calls_of recording asked in
    sym (calls_follow recording set start _ (windows recording (take n asked)))
    ∙ ap (replies set start) (first_calls n recording asked)
    ∙ first_replies n set start calls
    ∙ ap (λ (rs : List Reply). take n rs) (calls_follow recording set start calls (windows recording asked))

-- ---- four lists

all_said : (calls : List Call) → asked_lists (kinds_of calls) (firsts_of calls) (sizes_of calls) (lasts_of calls) ≡ all_asked calls
unfolding asked_lists
all_said [] = refl
all_said (examines w ∷ cs) = ap (λ (asked : List Asked). asked_by (examines w) ∷ asked) (all_said cs)
all_said (loads w ∷ cs) = ap (λ (asked : List Asked). asked_by (loads w) ∷ asked) (all_said cs)

pub every_call_of_lists : EveryCallOfLists
every_call_of_lists recording calls of =
    sym (same_calls recording (kinds_of calls) (firsts_of calls) (sizes_of calls) (lasts_of calls))
    ∙ ap (calls_of recording) (all_said calls) ∙ every_call recording calls of

pub each-reply-of-lists : EachReplyOfLists
each-reply-of-lists n recording set start kinds firsts sizes lasts =
    let said = chain_replies recording set start in
    ap said (sym (same_calls recording (take n kinds) (take n firsts) (take n sizes) (take n lasts)))
    ∙ ap (λ (asked : List Asked). said (calls_of recording asked)) (first_asked n kinds firsts sizes lasts)
    ∙ each-reply n recording set start (asked_lists kinds firsts sizes lasts)
    ∙ ap (λ (cs : List Call). take n (said cs)) (same_calls recording kinds firsts sizes lasts)
