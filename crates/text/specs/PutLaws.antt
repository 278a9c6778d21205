-- Laws of putting texts into a buffer.
use Rattle.std.specs.Prelude.{ℕ, zero, suc, ◌+◌, ◌-◌, ◌≤◌, ◌<◌, ◌^◌, Bool, true, false, ◌≡◌, refl, List, [], ◌∷◌, ◌++◌, leb, length, set, replicate}
use Rattle.std.proofs.Common.{ap, sym, subst, ◌∙◌, arith, leb-true, leb-false, length-append, length-set}
use Rattle.std.proofs.lemmas.List.{length-replicate, replicate-append-replicate}
use Rattle.std.proofs.lemmas.List.Edits.{sets}
use Rattle.std.proofs.Math.Seq.{length-sets, set_out}
use Rattle.text.specs.Put.{Put, last_place}

-- storing two texts in a row is storing the one, then the other behind it
pub sets_append : (t u l : List ℕ) (i : ℕ) → sets l i (t ++ u) ≡ sets (sets l i t) (i + length t) u
sets_append [] u l i = ap (λ (k : ℕ). sets l k u) (omega arith)
sets_append (a ∷ t) u l i =
    sets_append t u (set l i a) (suc i) ∙ ap (λ (k : ℕ). sets (sets (set l i a) (suc i) t) k u) (omega arith)

-- a text stored behind the end changes nothing
pub sets_out : (t l : List ℕ) (i : ℕ) → length l ≤ i → sets l i t ≡ l
sets_out [] l i h = refl
sets_out (a ∷ t) l i h = sets_out t (set l i a) (suc i) (omega (arith, length-set l i a)) ∙ set_out l i a h

-- One text, then another: both in a row. Which text comes second matters only where the place behind the first is no
-- `last_place` that stands for one beyond it.
pub and_then_if : {l t m u n : List ℕ} {i j k : ℕ} (v : List ℕ) → Put l i t m j → (i + length t ≤ last_place → u ≡ v) → Put m j u n k
    → Put l i (t ++ v) n k
and_then_if {l} {t} {m} {u} {n} {i} {j} {k} v p same q = go (leb (i + length t) last_place) refl
  where
    go : (b : Bool) → leb (i + length t) last_place ≡ b → Put l i (t ++ v) n k
    go true e =
        let within : i + length t ≤ last_place = leb-true (i + length t) last_place e in
        let at : j ≡ i + length t = omega (arith, p.next) in
        record {
          room = p.room;
          stored =
              q.stored ∙ ap (λ (w : List ℕ). sets m j w) (same within)
              ∙ ap (λ (w : List ℕ). sets w j v) p.stored
              ∙ ap (λ (x : ℕ). sets (sets l i t) x v) at
              ∙ sym (sets_append t v l i);
          next = omega (arith, q.next, length-append t v, ap length (same within));
        }
    go false e =
        let beyond : last_place < i + length t = leb-false (i + length t) last_place e in
        let at : j ≡ last_place = omega (arith, p.next) in
        let kept : length m ≡ length l = ap length p.stored ∙ length-sets l i t in
        record {
          room = p.room;
          stored =
              q.stored ∙ sets_out u m j (omega (arith, p.room)) ∙ p.stored
              ∙ sym (sets_append t v l i ∙ sets_out v (sets l i t) (i + length t) (omega (arith, p.room, length-sets l i t)));
          next = omega (arith, q.next, length-append t v);
        }

pub and_then : {l t m u n : List ℕ} {i j k : ℕ} → Put l i t m j → Put m j u n k → Put l i (t ++ u) n k
and_then {u = u} p q = and_then_if u p (λ _. refl) q

-- the same text, written another way
pub respelled : {l t u m : List ℕ} {i j : ℕ} → t ≡ u → Put l i t m j → Put l i u m j
respelled {l = l} {m = m} {i = i} {j = j} e p = subst (λ (w : List ℕ). Put l i w m j) e p

-- a text that is put into no buffer is measured
pub measured : {t m : List ℕ} {j : ℕ} → Put [] 0 t m j → length t ≤ last_place → j ≡ length t
measured p small = omega (arith, p.next)

-- a buffer keeps its length
pub same_length : {l t m : List ℕ} {i j : ℕ} → Put l i t m j → length m ≡ length l
same_length {l = l} {t = t} {i = i} p = ap length p.stored ∙ length-sets l i t

-- no text, at a place that is no larger than the last
pub put_nothing : (l : List ℕ) (i : ℕ) → length l < 2 ^ 64 → i < 2 ^ 64 → Put l i [] l i
put_nothing l i room small = record { room = room; stored = refl; next = omega arith }

-- one byte more of the same kind
pub sets_one_more : (l : List ℕ) (i a b : ℕ) → sets l i (replicate (suc a) b) ≡ set (sets l i (replicate a b)) (i + a) b
sets_one_more l i a b =
    let one_more : suc a ≡ a + 1 = omega arith in
    ap (λ (k : ℕ). sets l i (replicate k b)) one_more
    ∙ ap (λ (t : List ℕ). sets l i t) (sym (replicate-append-replicate a 1 b))
    ∙ sets_append (replicate a b) (b ∷ []) l i
    ∙ ap (λ (k : ℕ). set (sets l i (replicate a b)) (i + k) b) (length-replicate a b)

-- of a run of one byte, what lies behind the end need not be stored
pub sets_filled : (l : List ℕ) (i a n b : ℕ) → a ≤ n → (a < n → length l ≤ i + a) → sets l i (replicate a b) ≡ sets l i (replicate n b)
sets_filled l i a n b h full =
    let parts : n ≡ a + (n - a) = omega arith in
    sym (ap (λ (k : ℕ). sets l i (replicate k b)) parts
    ∙ ap (λ (t : List ℕ). sets l i t) (sym (replicate-append-replicate a (n - a) b))
    ∙ sets_append (replicate a b) (replicate (n - a) b) l i
    ∙ go (n - a) refl)
  where
    go : (rest : ℕ) → n - a ≡ rest → sets (sets l i (replicate a b)) (i + length (replicate a b)) (replicate rest b) ≡ sets l i (replicate a b)
    go zero e = refl
    go (suc rest) e =
        sets_out (replicate (suc rest) b) (sets l i (replicate a b)) (i + length (replicate a b))
        (omega (arith, full (omega arith), length-sets l i (replicate a b), length-replicate a b))

-- no text behind a text
pub ended : {l t m : List ℕ} {i j : ℕ} → Put l i t m j → Put m j [] m j
ended {m = m} {j = j} p = put_nothing m j (omega (arith, p.room, same_length p)) (omega (arith, p.next))
