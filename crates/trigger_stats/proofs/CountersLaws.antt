-- Laws of the counts: each has its place, and is the number of words with its bit.
use Rattle.std.specs.Prelude.{◌≡◌, refl, List, [], ◌∷◌, ◌++◌, map, ℕ, zero, suc, ◌+◌, ◌%◌, ◌^◌, ◌<◌, get_or, length}
use Rattle.std.proofs.Common.{ap, sym, ◌∙◌, le_of_suc-le-suc, arith, ext_get_or}
use Rattle.basis.specs.Bits.{bits}
use Rattle.trigger_stats.specs.Counters.{Counter, bit_of, collected, count, counted, counter_at, counters, place_of, uncounted, with_bit}
use Rattle.trigger_stats.specs.Counters.{orbit, hb, hbr, hc, pht, pp, cal, sot, eot, soc, eoc, tf, fe-rst, rt, rs}
use Rattle.trigger_stats.specs.Counters.{lhc-gap1, lhc-gap2, tpc-sync, tpc-rst, tof}

-- ---- places

-- The counters' places are in their order, from a first one on.
abbrev Placed : ℕ → List Counter → Type 0
Placed first [] = Unit {0}
Placed first (k ∷ ks) = (place_of k ≡ first) × Placed (first + 1) ks

placed : Placed 0 counters
unfolding place_of
placed = omega arith

place_in : (first : ℕ) (ks : List Counter) → Placed first ks → (place : ℕ) → place < length ks → place_of (get_or ks place orbit) ≡ first + place
place_in first [] are place below = absurd (omega arith)
place_in first (k ∷ ks) (is, are) zero below = omega (arith, is)
place_in first (k ∷ ks) (is, are) (suc place) below = omega (arith, place_in (first + 1) ks are place (le_of_suc-le-suc below))

-- the counter at a place has its count there
pub count_at : (place : ℕ) → place < 20 → (counts : List ℕ) → count (counter_at place) counts ≡ get_or counts place 0
unfolding count
count_at place below counts =
    let there : place_of (counter_at place) ≡ place = omega (arith, place_in 0 counters placed place below) in
    ap (λ (n : ℕ). get_or counts n 0) there

-- a number for each counter, at its place
number_in : (n : Counter → ℕ) (ks : List Counter) (place : ℕ) → place < length ks → get_or (map n ks) place 0 ≡ n (get_or ks place orbit)
number_in n [] place below = absurd (omega arith)
number_in n (k ∷ ks) zero below = refl
number_in n (k ∷ ks) (suc place) below = number_in n ks place (le_of_suc-le-suc below)

pub number_at : (n : Counter → ℕ) (place : ℕ) → place < 20 → get_or (map n counters) place 0 ≡ n (counter_at place)
number_at n place below = number_in n counters place below

-- counts that are equal, counter by counter, are the same
pub same_counts : (s t : List ℕ) → length s ≡ 20 → length t ≡ 20 → ((k : Counter) → count k s ≡ count k t) → s ≡ t
same_counts s t is-20 also-20 e =
    ext_get_or 0 s t (is-20 ∙ sym also-20) (λ place below.
    let inside : place < 20 = omega (arith, below, is-20) in
    sym (count_at place inside s) ∙ e (counter_at place) ∙ count_at place inside t)

-- ---- counting

-- a counter's count is the number that is made for it
count_of : (n : Counter → ℕ) (k : Counter) → count k (map n counters) ≡ n k
unfolding count place_of
count_of n orbit = refl
count_of n hb = refl
count_of n hbr = refl
count_of n hc = refl
count_of n pht = refl
count_of n pp = refl
count_of n cal = refl
count_of n sot = refl
count_of n eot = refl
count_of n soc = refl
count_of n eoc = refl
count_of n tf = refl
count_of n fe-rst = refl
count_of n rt = refl
count_of n rs = refl
count_of n lhc-gap1 = refl
count_of n lhc-gap2 = refl
count_of n tpc-sync = refl
count_of n tpc-rst = refl
count_of n tof = refl

pub count-counted : (counts : List ℕ) (word : ℕ) (k : Counter)
    → count k (counted counts word) ≡ (count k counts + bits (bit_of k) (bit_of k) word) % 2 ^ 32
unfolding counted
count-counted counts word k = count_of (λ j. (count j counts + bits (bit_of j) (bit_of j) word) % 2 ^ 32) k

pub length-counted : (counts : List ℕ) (word : ℕ) → length (counted counts word) ≡ 20
unfolding counted
length-counted counts word = refl

-- the number that is counted at a place
pub counted-at : (counts : List ℕ) (word place : ℕ) → place < 20
    → get_or (counted counts word) place 0 ≡ (get_or counts place 0 + bits (bit_of (counter_at place)) (bit_of (counter_at place)) word) % 2 ^ 32
unfolding counted
counted-at counts word place below =
    let bit = bit_of (counter_at place) in
    number_at (λ k. (count k counts + bits (bit_of k) (bit_of k) word) % 2 ^ 32) place below
    ∙ ap (λ (n : ℕ). (n + bits bit bit word) % 2 ^ 32) (count_at place below counts)

-- words are counted one list after the other
pub collected_both : (counts words others : List ℕ) → collected counts (words ++ others) ≡ collected (collected counts words) others
unfolding collected
collected_both counts [] others = refl
collected_both counts (word ∷ words) others = collected_both (counted counts word) words others

-- each count grows by the number of words that have its bit, modulo 2^32, from any start (G2)
pub counts_words : (k : Counter) (counts words : List ℕ) → count k counts < 2 ^ 32
    → count k (collected counts words) ≡ (count k counts + with_bit (bit_of k) words) % 2 ^ 32
unfolding collected with_bit
counts_words k counts [] small = omega arith
counts_words k counts (word ∷ words) small =
    let now = count-counted counts word k in
    omega (arith, counts_words k (counted counts word) words (omega arith))

-- from no words, it is just that
pub counts_all_words : (k : Counter) (words : List ℕ) → count k (collected uncounted words) ≡ with_bit (bit_of k) words % 2 ^ 32
counts_all_words k words =
    let none = count_of (λ j. 0) k in
    omega (arith, counts_words k uncounted words (omega arith))
