-- Laws of filling in a number's digits from the last one back: its numeral is that of the rest, then the digits that stand there.
use Rattle.std.specs.Prelude.{ℕ, zero, suc, ◌-◌, ◌/◌, ◌%◌, ◌^◌, ◌≤◌, ◌<◌, ◌≡◌, List, [], ◌∷◌, ◌++◌, map, length, set, take, drop, replicate}
use Rattle.std.proofs.Common.{ap, sym, subst, ◌∙◌, append_assoc, append-nil, arith, length-set, length-drop, drop-cons, drop-set-lt, get_or-set_same, take_all}
use Rattle.std.proofs.lemmas.List.{drop_all, length-replicate, map-append}
use Rattle.std.proofs.Math.Nat.{pow-zero}
use Rattle.text_numbers.specs.Numerals.{glyph, numeral}
use Rattle.text_numbers.specs.NumeralLaws.{numeral_last, numeral-step, quotient_below}

-- The text `t` is that of a number in a base, each byte of its digits as `spell` has it. Its last digits stand in `l`, which has
-- `most` places, from `first` on; those before them are the digits of `rest`, if it is not 0, and there is room for them.
pub record Filled (spell : ℕ → ℕ) (base most : ℕ) (t : List ℕ) (rest first : ℕ) (l : List ℕ) : Type 0 where
  pub size : length l ≡ most
  pub inside : first ≤ most
  pub room : rest < base ^ first
  pub whole : rest ≡ 0 → t ≡ drop first l
  pub others : 0 < rest → t ≡ map spell (numeral base first rest) ++ drop first l

-- A number's last digit stands in front of `u`, what was there before, and its quotient is the rest.
one_more : {t u l : List ℕ} {rest d : ℕ} (spell : ℕ → ℕ) (base most first n : ℕ) → 0 < base → length l ≡ most → first ≤ most
    → n < base ^ suc first → drop first l ≡ d ∷ u → d ≡ spell (glyph (n % base)) → rest ≡ n / base
    → t ≡ map spell (numeral base (suc first) n) ++ u → Filled spell base most t rest first l
one_more {t} {u} {l} {rest} {d} spell base most first n pos size inside room stands is left so_far =
    subst (λ (x : ℕ). Filled spell base most t x first l) (sym left)
    (record {
      size = size;
      inside = inside;
      room = quotient_below base first n pos room;
      whole = λ none. so_far ∙ ap (λ (v : List ℕ). map spell v ++ u) (numeral_last base first n pos none) ∙ sym behind;
      others = λ some.
          so_far
          ∙ ap (λ (v : List ℕ). map spell v ++ u) (numeral-step base first n pos some)
          ∙ ap (λ (v : List ℕ). v ++ u) (map-append spell (numeral base first (n / base)) (glyph (n % base) ∷ []))
          ∙ append_assoc (map spell (numeral base first (n / base))) (spell (glyph (n % base)) ∷ []) u
          ∙ ap (λ (v : List ℕ). map spell (numeral base first (n / base)) ++ v) (sym behind);
    })
  where
    behind : drop first l ≡ spell (glyph (n % base)) ∷ u
    behind = stands ∙ ap (λ (x : ℕ). x ∷ u) is

-- the last digit stands there alone
pub last_filled : {t l : List ℕ} {rest first d : ℕ} (spell : ℕ → ℕ) (base most n : ℕ) → 0 < base → length l ≡ most → first ≤ most
    → n < base ^ suc first → drop first l ≡ d ∷ [] → d ≡ spell (glyph (n % base)) → rest ≡ n / base
    → t ≡ map spell (numeral base (suc first) n) → Filled spell base most t rest first l
last_filled {first = first} spell base most n pos size inside room stands is left text =
    one_more spell base most first n pos size inside room stands is left (text ∙ sym (append-nil _))

-- a byte that is written in front of what is behind it
drop-set : (l : List ℕ) (k d : ℕ) → k < length l → drop k (set l k d) ≡ d ∷ drop (suc k) l
drop-set l k d h =
    drop-cons (set l k d) k d (omega (arith, length-set l k d))
    ∙ ap (λ (x : ℕ). x ∷ drop (suc k) (set l k d)) (get_or-set_same l k d d h)
    ∙ ap (λ (u : List ℕ). d ∷ u) (drop-set-lt (suc k) l k d (omega arith))

-- so it does in an array of zeros
pub first_filled : {rest d : ℕ} (spell : ℕ → ℕ) (base most n : ℕ) → 0 < base → 0 < most → n < base ^ most → d ≡ spell (glyph (n % base))
    → rest ≡ n / base → Filled spell base most (map spell (numeral base most n)) rest (most - 1) (set (replicate most 0) (most - 1) d)
first_filled {rest} {d} spell base most n pos some room is left =
    let here : most ≡ suc (most - 1) = omega arith in
    let long = length-replicate {A = ℕ} most 0 in
    last_filled spell base most n pos (length-set (replicate most 0) (most - 1) d ∙ long) (omega arith)
    (subst (λ (k : ℕ). n < base ^ k) here room)
    (drop-set (replicate most 0) (most - 1) d (omega (arith, long))
    ∙ ap (λ (u : List ℕ). d ∷ u) (drop_all (suc (most - 1)) (replicate most 0) (omega (arith, long))))
    is left (ap (λ (k : ℕ). map spell (numeral base k n)) here)

-- where there is a rest, there is a place in front
pub place_left : {spell : ℕ → ℕ} {base most rest first : ℕ} {t l : List ℕ} → Filled spell base most t rest first l → 0 < rest
    → 0 < first
place_left {base = base} {rest = rest} {first = first} filled some = go first filled.room
  where
    go : (k : ℕ) → rest < base ^ k → 0 < k
    go zero room = omega (arith, pow-zero base)
    go (suc k) room = omega arith

-- and the last digit of the rest goes there
pub next_filled : {spell : ℕ → ℕ} {base most rest less first d : ℕ} {t l : List ℕ} → 0 < base
    → Filled spell base most t rest first l → 0 < rest → d ≡ spell (glyph (rest % base)) → less ≡ rest / base
    → Filled spell base most t less (first - 1) (set l (first - 1) d)
next_filled {spell} {base} {most} {rest} {first = first} {d = d} {l = l} pos filled some is left =
    let here : first ≡ suc (first - 1) = omega (arith, place_left filled some) in
    let in-front : first - 1 < most = omega (arith, here, filled.inside) in
    one_more spell base most (first - 1) rest pos (length-set l (first - 1) d ∙ filled.size) (omega arith)
    (subst (λ (i : ℕ). rest < base ^ i) here filled.room) (drop-set l (first - 1) d (omega (arith, filled.size))) is left
    (filled.others some ∙ ap (λ (i : ℕ). map spell (numeral base i rest) ++ drop i l) here)

-- where there is none, what stands from `first` on is the text
pub all_filled : {spell : ℕ → ℕ} {base most rest first : ℕ} {t l : List ℕ} → Filled spell base most t rest first l → rest ≤ 0
    → take (most - first) (drop first l) ≡ t
all_filled {most = most} {first = first} {l = l} filled none =
    take_all (most - first) (drop first l) (omega (arith, length-drop first l, filled.size)) ∙ sym (filled.whole (omega arith))
