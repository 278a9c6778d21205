-- Laws of one call: it lends a window of the recording, which is the one that is asked for, and replies what it tells.
use Rattle.std.specs.Prelude.{ℕ, zero, suc, ◌+◌, ◌-◌, ◌≤◌, ◌<◌, Bool, true, false, ◌&&◌, ◌≡◌, refl, List, [], ◌∷◌, leb, length, take, drop}
use Rattle.std.proofs.lemmas.Bool.{false≢true, lt-leb}
use Rattle.std.proofs.Common.{ap, sym, ◌∙◌, arith, le-leb, leb-false, leb-true}
use Rattle.scan_cdp.specs.Answers.{examined_answer, load_answer}
use Rattle.scan_cdp.specs.Steps.{unusable}
use Rattle.scan_cdp.specs.Windows.{bytes_at}
use Rattle.scan_cdp.specs.declared.Part.{Part}
use Rattle.chain.specs.Calls.{Reply, Window, WindowOf, window_of}
use Rattle.chain.proofs.CallsLaws.{ends_read}
use Rattle.chain.specs.Chain.{Kept}
use Rattle.chain_replay_calls.specs.OneCall.{call_on, ends_told, lent_as, stand_by, told_on, window_at}
use Rattle.chain_replay_calls.specs.declared.Asked.{Asked}
use Rattle.chain_replay_calls.specs.declared.CallKind.{CallKind}
use Rattle.chain_replay_calls.specs.declared.Told.{Told}

-- ---- its window

second : (a b : Bool) → (a && b) ≡ true → b ≡ true
second true b e = e
second false b e = absurd (false≢true e)

as_many : (n : ℕ) (l : List ℕ) → take n l ≡ take (length (take n l)) l
as_many zero l = refl
as_many (suc n) [] = refl
as_many (suc n) (x ∷ l) = ap (λ (k : List ℕ). x ∷ k) (as_many n l)

-- It is a window of the recording.
pub window_of_lem : (recording : List ℕ) (a : Asked) → WindowOf recording (window_at recording a)
unfolding window_at
window_of_lem recording a =
    let from = drop a.first recording in
    record {
      bytes = as_many a.size from;
      last = λ e. leb-true (length recording) (a.first + length (take a.size from)) (second a.last _ e);
    }

pub lends : (recording : List ℕ) (kind : CallKind) (w : Window) → WindowOf recording w → WindowOf recording (window_of (call_on kind w))
lends recording CallKind.Examination w of = of
lends recording CallKind.Load w of = of

-- The part of the recording that is lent is the window that is asked for.
pub lent_asked : (recording : List ℕ) (a : Asked) (part : Part) (w : List ℕ) (last : Bool)
    → (part.start ≡ a.first) × (part.length ≡ a.size) → w ≡ bytes_at recording part → last ≡ (a.last && leb (length recording) (a.first + length w))
    → lent_as w a.first last ≡ window_at recording a
unfolding window_at bytes_at
lent_asked recording a part w last (starts, long) is ends =
    let bytes = is ∙ (λ i. take (long i) (drop (starts i) recording)) in
    (λ i. lent_as w a.first (ends i))
    ∙ (λ i. lent_as (bytes i) a.first (a.last && leb (length recording) (a.first + length (bytes i))))

-- ---- its reply

-- A call that told a reply stands by it.
pub stands_told : (w : List ℕ) (k : Kept) (t : Told) (r : Reply) → told_on w k t ≡ r
    → record { reply = told_on w k t ∷ []; kept = k; ends = ends_told t (unusable k.state k.fee_ids) } ≡ stand_by r
stands_told w k (Told.Examination a marks) r e =
    (λ i. record {
      reply = told_on w k (Told.Examination a marks) ∷ [];
      kept = k;
      ends = ends_read w (examined_answer a) (unusable k.state k.fee_ids) i;
    })
    ∙ ap stand_by e
stands_told w k (Told.Load a marks) r e =
    (λ i. record {
      reply = told_on w k (Told.Load a marks) ∷ [];
      kept = k;
      ends = ends_read w (load_answer a) (unusable k.state k.fee_ids) i;
    })
    ∙ ap stand_by e

-- ---- where a window ends, and lists of replies

-- Whether a window reaches the end, with its size taken from the whole.
pub last_all : (last : Bool) (whole first size : ℕ) → whole ≤ size → last ≡ (last && leb whole (first + size))
last_all true whole first size long = sym (le-leb whole (first + size) (omega (arith, long)))
last_all false whole first size long = refl

pub last_rest : (last : Bool) (whole first size : ℕ) → size < whole → (last && leb (whole - size) first) ≡ (last && leb whole (first + size))
last_rest last whole first size short = ap (λ (b : Bool). last && b) (same (leb (whole - size) first) refl)
  where
    same : (b : Bool) → leb (whole - size) first ≡ b → b ≡ leb whole (first + size)
    same true e = sym (le-leb whole (first + size) (omega (arith, leb-true (whole - size) first e, short)))
    same false e = sym (lt-leb whole (first + size) (omega (arith, leb-false (whole - size) first e, short)))

-- Lists of one reply that are the same have the same reply.
only : (x y : Reply) → x ∷ [] ≡ y ∷ [] → x ≡ y
only x y e = ap (first_of x) e
  where
    first_of : Reply → List Reply → Reply
    first_of d [] = d
    first_of d (z ∷ zs) = z

abbrev some : List Reply → Bool
some [] = false
some (x ∷ xs) = true
