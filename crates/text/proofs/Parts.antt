-- A text of which the part that fits is stored in one go.
use Rattle.std.proofs.Common.{ℕ, ◌+◌, ◌-◌, ◌^◌, ◌<◌, ◌≤◌, min, ◌≡◌, Bool, true, false, refl, List, ◌++◌, leb, length, take, drop, replicate, ap, sym, ◌∙◌, append_assoc, arith, leb-true, leb-false}
use Rattle.std.proofs.lemmas.List.{length-replicate, take-append-drop, take-replicate, drop_all}
use Rattle.std.proofs.lemmas.List.Edits.{sets, sets-eq}
use Rattle.std.proofs.Math.Seq.{length-take-le, length-sets, drop-drop}
use borrow.Rule.Slice.PartMut.{put_mid}
use Rattle.text.specs.Put.{Put, last_place}
use Rattle.text.specs.PutLaws.{sets_append, sets_out}

-- what lies behind the end need not be stored
sets_part : (l t : List ℕ) (i k : ℕ) → k ≤ length t → (k < length t → length l ≤ i + k) → sets l i t ≡ sets l i (take k t)
sets_part l t i k within full =
    ap (λ (u : List ℕ). sets l i u) (sym (take-append-drop k t)) ∙ sets_append (take k t) (drop k t) l i
    ∙ rest (leb (length t) k) refl
  where
    at : i + length (take k t) ≡ i + k
    at = omega (arith, length-take-le k t within)

    rest : (b : Bool) → leb (length t) k ≡ b → sets (sets l i (take k t)) (i + length (take k t)) (drop k t) ≡ sets l i (take k t)
    rest true e = ap (λ (u : List ℕ). sets (sets l i (take k t)) (i + length (take k t)) u) (drop_all k t (leb-true (length t) k e))
    rest false e =
        sets_out (drop k t) (sets l i (take k t)) (i + length (take k t))
        (omega (arith, at, length-sets l i (take k t), full (leb-false (length t) k e)))

-- where the place lies behind the end, nothing is stored, at the end as well as there
sets_from : (l t : List ℕ) (i a k : ℕ) → a ≡ min i (length l) → k ≤ length l - a → sets l i (take k t) ≡ sets l a (take k t)
sets_from l t i a k start fits = go (leb i (length l)) refl
  where
    go : (b : Bool) → leb i (length l) ≡ b → sets l i (take k t) ≡ sets l a (take k t)
    go true e =
        let same : i ≡ a = omega (arith, start, leb-true i (length l) e) in
        ap (λ (n : ℕ). sets l n (take k t)) same
    go false e =
        let none : k ≡ 0 = omega (arith, start, fits, leb-false i (length l) e) in
        ap (λ (n : ℕ). sets l i (take n t)) none ∙ sym (ap (λ (n : ℕ). sets l a (take n t)) none)

-- a buffer `l` in which a copy of the text stands from `a` on, as far as it fits
pub put_part : (l t ys : List ℕ) (i a k j : ℕ) → length l < 2 ^ 64 → j ≡ min (i + length t) last_place → a ≡ min i (length l)
    → k ≡ min j (length l) - a → ys ≡ take k t → Put l i t (put_mid a k l ys) j
put_part l t ys i a k j room next start count copied =
    let within : k ≤ length t = omega (arith, room, next, start, count) in
    let long = length-take-le k t within in
    let fits : a + length (take k t) ≤ length l = omega (arith, start, count, long) in
    let end : a + length (take k t) ≡ a + k = omega (arith, long) in
    record {
      room = room;
      stored = sym (
          sets_part l t i k within (λ short. omega (arith, room, next, start, count))
          ∙ sets_from l t i a k start (omega (arith, start, count))
          ∙ sets-eq (take k t) l a fits
          ∙ append_assoc (take a l) (take k t) _
          ∙ ap (λ (u : List ℕ). take a l ++ (take k t ++ u)) (ap (λ (n : ℕ). drop n l) end ∙ sym (drop-drop k a l))
          ∙ ap (λ (u : List ℕ). take a l ++ (u ++ drop k (drop a l))) (sym copied));
      next = next;
    }

-- a run of one byte, as far as it fits
pub put_run : (l ys : List ℕ) (b n i a k j : ℕ) → length l < 2 ^ 64 → j ≡ min (i + n) last_place → a ≡ min i (length l)
    → k ≡ min j (length l) - a → ys ≡ replicate k b → Put l i (replicate n b) (put_mid a k l ys) j
put_run l ys b n i a k j room next start count filled =
    put_part l (replicate n b) ys i a k j room (omega (arith, next, length-replicate n b)) start count
    (filled ∙ sym (take-replicate k n b (omega (arith, room, next, start, count))))
