-- Laws of words in a row: the library's bytes of a word, one more word, what a buffer then holds, and that words come back from their bytes.
use Rattle.std.specs.Prelude.{◌≡◌, refl, List, [], ◌∷◌, ◌++◌, ℕ, zero, suc, ◌+◌, ◌*◌, ◌-◌, ◌/◌, ◌%◌, ◌^◌, ◌≤◌, ◌<◌, length, take, drop, get_or}
use Rattle.std.specs.Int.{w64, byte_at, bytes_low_first, to_le_bytes}
use Rattle.std.proofs.Common.{sym, ap, ap₂, ◌∙◌, arith, le-ltb, lt-ltb}
use Rattle.std.proofs.Common.{append_assoc, append-nil, length-append, take-append-drop, drop-drop, take_at, drop_at}
use Rattle.std.proofs.Math.Nat.{div-one, div-div-eq-div-mul, pow-suc}
use Rattle.basis.specs.Bytes.{bytes_of, little}
use Rattle.basis.specs.BytesLaws.{length_bytes_of, little_bytes_of}
use Rattle.basis.specs.PickLaws.{on, off}
use Rattle.serde_rdh_words.specs.WordBytes.{word_bytes, words_into}

byte_from : (i n : ℕ) → byte_at i n ≡ n / 256 ^ i % 256
byte_from zero n = ap (λ (m : ℕ). m % 256) (sym (div-one n))
byte_from (suc i) n = refl

bytes_from : (i k n : ℕ) → bytes_low_first i k n ≡ bytes_of k (n / 256 ^ i)
unfolding bytes_of
bytes_from i zero n = refl
bytes_from i (suc k) n =
    let rest : n / 256 ^ suc i ≡ n / 256 ^ i / 256 =
    ap (λ (m : ℕ). n / m) (pow-suc 256 i) ∙ sym (div-div-eq-div-mul n (256 ^ i) 256) in
    ap₂ (λ (b : ℕ) (t : List ℕ). b ∷ t) (byte_from i n) (bytes_from (suc i) k n ∙ ap (bytes_of k) rest)

-- the bytes that `to_le_bytes` gives
pub eight_bytes : (n : ℕ) → to_le_bytes w64 n ≡ bytes_of 8 n
eight_bytes n = bytes_from 0 8 n ∙ ap (bytes_of 8) (div-one n)

-- eight bytes a word
pub length_word_bytes : (ws : List ℕ) → length (word_bytes ws) ≡ 8 * length ws
unfolding word_bytes
length_word_bytes [] = refl
length_word_bytes (w ∷ ws) = omega (arith, length-append (bytes_of 8 w) (word_bytes ws), length_bytes_of 8 w, length_word_bytes ws)

-- one more word
pub one_more : (ws : List ℕ) (w : ℕ) → w < length ws → word_bytes (take (w + 1) ws) ≡ word_bytes (take w ws) ++ bytes_of 8 (get_or ws w 0)
unfolding word_bytes
one_more [] w below = absurd (omega arith)
one_more (x ∷ ws) zero below = append-nil (bytes_of 8 x)
one_more (x ∷ ws) (suc w) below =
    let one : suc w + 1 ≡ suc (w + 1) = omega arith in
    ap (λ (n : ℕ). word_bytes (take n (x ∷ ws))) one
    ∙ ap (λ (t : List ℕ). bytes_of 8 x ++ t) (one_more ws w (omega arith))
    ∙ sym (append_assoc (bytes_of 8 x) (word_bytes (take w ws)) _)

-- what is the same from a on is so from n on
pub later : (m l : List ℕ) (a n : ℕ) → a ≤ n → drop a m ≡ drop a l → drop n m ≡ drop n l
later m l a n up same =
    let from : a + (n - a) ≡ n = omega arith in
    ap (λ (k : ℕ). drop k m) (sym from)
    ∙ sym (drop-drop (n - a) a m)
    ∙ ap (drop (n - a)) same
    ∙ drop-drop (n - a) a l
    ∙ ap (λ (k : ℕ). drop k l) from

-- a buffer of fewer than 64 bytes is left
pub left : (ws l : List ℕ) → length l < 64 → l ≡ words_into ws l
unfolding words_into
left ws l few = sym (on _ _ (lt-ltb (length l) 64 few))

-- and one of 64 or more has the words in front
pub written : (ws l m : List ℕ) → 64 ≤ length l → take 64 m ≡ word_bytes ws → drop 64 m ≡ drop 64 l → m ≡ words_into ws l
unfolding words_into
written ws l m enough front behind =
    sym (take-append-drop 64 m) ∙ ap₂ (λ (s t : List ℕ). s ++ t) front behind ∙ sym (off _ _ (le-ltb (length l) 64 enough))

-- words are the same where their bytes are
abbrev pub Fit : List ℕ → Type 0
Fit ws = (k : ℕ) → k < length ws → get_or ws k 0 < 256 ^ 8

pub same-words : (v w : List ℕ) → length v ≡ length w → Fit v → Fit w → word_bytes v ≡ word_bytes w → v ≡ w
unfolding word_bytes
same-words [] [] e p q same = refl
same-words [] (y ∷ w) e p q same = absurd (omega arith)
same-words (x ∷ v) [] e p q same = absurd (omega arith)
same-words (x ∷ v) (y ∷ w) e p q same =
    let eight : (n : ℕ) → length (bytes_of 8 n) ≡ 8 = length_bytes_of 8 in
    let first : bytes_of 8 x ≡ bytes_of 8 y =
    sym (take_at (bytes_of 8 x) (word_bytes v) 8 (eight x)) ∙ ap (take 8) same ∙ take_at (bytes_of 8 y) (word_bytes w) 8 (eight y) in
    let number : x ≡ y =
    sym (little_bytes_of 8 x (p 0 (omega arith))) ∙ ap little first ∙ little_bytes_of 8 y (q 0 (omega arith)) in
    let rest : word_bytes v ≡ word_bytes w =
    sym (drop_at (bytes_of 8 x) (word_bytes v) 8 (eight x)) ∙ ap (drop 8) same ∙ drop_at (bytes_of 8 y) (word_bytes w) 8 (eight y) in
    let tail : v ≡ w =
    same-words v w (omega arith) (λ k below. p (suc k) (omega arith)) (λ k below. q (suc k) (omega arith)) rest in
    ap₂ (λ (n : ℕ) (l : List ℕ). n ∷ l) number tail
