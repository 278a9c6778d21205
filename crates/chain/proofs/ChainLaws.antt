-- Laws of the chain: each entry that is not refused moves the byte place on, so that the chain is one entry and the chain from there on.
use Rattle.std.specs.Prelude.{ℕ, zero, suc, ◌+◌, ◌*◌, ◌/◌, ◌<◌, ◌≤◌, Bool, true, false, ◌≡◌, refl, length, drop}
use Rattle.std.proofs.Common.{true≢false, ap, sym, ◌∙◌, arith, length-drop}
use mathlib.Core.List.{List, [], ◌∷◌, ◌++◌, flat_map}
use Rattle.basis.specs.Pick.{pick}
use Rattle.basis.specs.Refusals.{refuses}
use Rattle.serde_rdh.specs.Layout.{decoded}
use Rattle.scan_cdp.specs.Steps.{Entry, unchanged, ended, entry_of, progress_after, unusable}
use Rattle.scan_cdp.specs.declared.Settings.{Settings}
use Rattle.scan_laws.proofs.OutcomeLaws.{known_here}
use Rattle.scan_laws.proofs.RowLaws.{place_moves}
use Rattle.scan_laws.proofs.StepLaws.{step_cases, step_six}
use Rattle.chain.specs.Chain.{Kept, behind, chain, chain_of, is_last, is_refused, left, next, place_of}
use Rattle.chain.specs.Following.{entries_of}

-- ---- an entry moves on

-- An entry has a whole header at the byte place, and leaves the place 64 or more further on.
record MovesOn (recording : List ℕ) (k k' : Kept) : Type 0 where
  whole : place_of k + 64 ≤ length recording
  least : place_of k + 64 ≤ place_of k'

next_moves : (recording : List ℕ) (set : Settings) (k : Kept) → is_refused (next recording set k).answer ≡ false
    → MovesOn recording k (left (next recording set k))
unfolding ended entry_of progress_after
next_moves recording set k =
    let rest = drop (place_of k) recording in
    step_cases set k.state k.fee_ids rest (length recording) (λ e. is_refused e.answer ≡ false → MovesOn recording k (left e))
    (λ six goes. absurd (true≢false goes))
    (λ usable short goes. absurd (true≢false goes))
    (λ usable whole goes.
    let inside : place_of k + 64 ≤ length recording = omega (arith, whole, length-drop (place_of k) recording) in
    record {
      whole = inside;
      least =
          place_moves set _ (decoded rest) (place_of k) (length rest) (length recording)
          (known_here set k.state k.fee_ids (decoded rest)) inside;
    })

-- ---- the chain, one entry at a time

-- So many entries are enough from here on.
record Enough (recording : List ℕ) (n : ℕ) (k : Kept) : Type 0 where
  some : 1 ≤ n
  all : length recording < place_of k + 64 * n

enough_left : (recording : List ℕ) (n : ℕ) (k k' : Kept) → Enough recording (suc n) k → MovesOn recording k k' → Enough recording n k'
enough_left recording n k k' enough moves =
    record {
      some = omega (arith, enough.all, moves.whole);
      all = omega (arith, enough.all, moves.least);
    }

chain_enough : (recording : List ℕ) (k : Kept) → Enough recording (length recording / 64 + 1) k
chain_enough recording k = record { some = omega arith; all = omega arith }

-- What holds where a scan stands if it holds behind the next entry, unless that is refused, holds everywhere: a chain ends.
pub chain_induction : (recording : List ℕ) (set : Settings) (P : Kept → Type 0)
    → ((k : Kept) → (is_refused (next recording set k).answer ≡ false → P (left (next recording set k))) → P k)
    → (k : Kept) → P k
chain_induction recording set P here k = within (length recording / 64 + 1) k (chain_enough recording k)
  where
    within : (n : ℕ) (k : Kept) → Enough recording n k → P k
    within zero k enough = absurd (omega (arith, enough.some))
    within (suc n) k enough = here k (λ goes. within n _ (enough_left recording n k _ enough (next_moves recording set k goes)))

pick_same : {A : Type 0} (b : Bool) (x y z : A) → (b ≡ false → y ≡ z) → pick b x y ≡ pick b x z
pick_same true x y z e = refl
pick_same false x y z e = e refl

-- However many entries are allowed, if they are enough, the chain is the same.
same_chain : (n m : ℕ) (recording : List ℕ) (set : Settings) (k : Kept) → Enough recording n k → Enough recording m k
    → chain_of n recording set k ≡ chain_of m recording set k
unfolding chain_of entries_of
same_chain zero m recording set k one other = absurd (omega (arith, one.some))
same_chain (suc n) zero recording set k one other = absurd (omega (arith, other.some))
same_chain (suc n) (suc m) recording set k one other =
    let e = next recording set k in
    ap (λ (es : List (Entry (List ℕ))). e ∷ es)
    (pick_same (is_refused e.answer) [] (chain_of n recording set (left e)) (chain_of m recording set (left e)) (λ goes.
    let moves = next_moves recording set k goes in
    same_chain n m recording set (left e)
    (enough_left recording n k (left e) one moves) (enough_left recording m k (left e) other moves)))

-- To allow more entries adds none.
pub chain_allowed : (n : ℕ) (recording : List ℕ) (set : Settings) (k : Kept) → length recording / 64 + 1 ≤ n
    → chain_of n recording set k ≡ chain recording set k
unfolding chain
chain_allowed n recording set k more =
    same_chain n (length recording / 64 + 1) recording set k (record { some = omega (arith, more); all = omega (arith, more) })
    (chain_enough recording k)

-- The chain is the next entry and, unless that is refused, the chain from there on.
pub chain_unfolds : (recording : List ℕ) (set : Settings) (k : Kept)
    → chain recording set k ≡ next recording set k ∷ behind (chain recording set) (next recording set k)
unfolding chain chain_of entries_of
chain_unfolds recording set k = sym (chain_allowed (suc (length recording / 64 + 1)) recording set k (omega arith))

-- Where state and list meet refusal 6, that is all of the chain.
pub chain_six : (recording : List ℕ) (set : Settings) (k : Kept) → unusable k.state k.fee_ids ≡ true
    → chain recording set k ≡ unchanged k.state k.fee_ids (refuses 6 []) ∷ []
chain_six recording set k six =
    chain_unfolds recording set k
    ∙ ap (λ (e : Entry (List ℕ)). e ∷ behind (chain recording set) e) (step_six set k.state k.fee_ids _ (length recording) six)

-- What is gathered along the chain is that of the next entry, and then that behind it.
pub gathered_next : {A : Type 0} (f : Entry (List ℕ) → List A) (recording : List ℕ) (set : Settings) (k : Kept) (last : Bool)
    → is_last (next recording set k) ≡ last
    → flat_map f (chain recording set k) ≡ f (next recording set k) ++ flat_map f (pick last [] (chain recording set (left (next recording set k))))
unfolding flat_map
gathered_next f recording set k last is =
    ap (flat_map f) (chain_unfolds recording set k)
    ∙ ap (λ (b : Bool). f (next recording set k) ++ flat_map f (pick b [] (chain recording set (left (next recording set k))))) is
