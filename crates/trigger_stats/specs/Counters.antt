-- The 20 trigger counts as a table, and what a trigger word does to them (G1, G2).
use Rattle.std.specs.Prelude.{List, [], ◌∷◌, map, ℕ, ◌+◌, ◌%◌, ◌^◌, ◌<◌, get_or, replicate}
use Rattle.basis.specs.Bits.{bits}

-- The counters, in the order of the Rust's fields.
pub data Counter : Type 0 where
  orbit hb hbr hc pht pp cal sot eot soc eoc tf fe-rst rt rs : Counter
  lhc-gap1 lhc-gap2 tpc-sync tpc-rst tof : Counter

abbrev pub counters : List Counter
counters =
    orbit
    ∷ hb
    ∷ hbr
    ∷ hc
    ∷ pht
    ∷ pp
    ∷ cal
    ∷ sot
    ∷ eot
    ∷ soc
    ∷ eoc
    ∷ tf
    ∷ fe-rst
    ∷ rt
    ∷ rs
    ∷ lhc-gap1
    ∷ lhc-gap2
    ∷ tpc-sync
    ∷ tpc-rst
    ∷ tof
    ∷ []

-- The counter at a place of the table, from 0 to 19.
abbrev pub counter_at : ℕ → Counter
counter_at place = get_or counters place orbit

-- The trigger bit that each one counts (G1).
unfoldable pub bit_of : Counter → ℕ
bit_of orbit = 0
bit_of hb = 1
bit_of hbr = 2
bit_of hc = 3
bit_of pht = 4
bit_of pp = 5
bit_of cal = 6
bit_of sot = 7
bit_of eot = 8
bit_of soc = 9
bit_of eoc = 10
bit_of tf = 11
bit_of fe-rst = 12
bit_of rt = 13
bit_of rs = 14
bit_of lhc-gap1 = 27
bit_of lhc-gap2 = 28
bit_of tpc-sync = 29
bit_of tpc-rst = 30
bit_of tof = 31

-- The place of each one's count in a list of 20.
unfoldable pub place_of : Counter → ℕ
place_of orbit = 0
place_of hb = 1
place_of hbr = 2
place_of hc = 3
place_of pht = 4
place_of pp = 5
place_of cal = 6
place_of sot = 7
place_of eot = 8
place_of soc = 9
place_of eoc = 10
place_of tf = 11
place_of fe-rst = 12
place_of rt = 13
place_of rs = 14
place_of lhc-gap1 = 15
place_of lhc-gap2 = 16
place_of tpc-sync = 17
place_of tpc-rst = 18
place_of tof = 19

-- A counter's count.
unfoldable pub count : Counter → List ℕ → ℕ
count k counts = get_or counts (place_of k) 0

-- Counts of no words.
abbrev pub uncounted : List ℕ
uncounted = replicate 20 0

-- What one trigger word does: each counter whose bit the word has goes up by 1, modulo 2^32 (G2).
unfoldable pub counted : List ℕ → ℕ → List ℕ
counted counts word = map (λ k. (count k counts + bits (bit_of k) (bit_of k) word) % 2 ^ 32) counters

-- What trigger words do, one after the other.
unfoldable pub collected : List ℕ → List ℕ → List ℕ
collected counts [] = counts
collected counts (word ∷ words) = collected (counted counts word) words

-- How many words have a bit (G2).
unfoldable pub with_bit : ℕ → List ℕ → ℕ
with_bit bit [] = 0
with_bit bit (word ∷ words) = bits bit bit word + with_bit bit words

-- Every count is a number of 32 bits, as in each value of the code.
abbrev pub InRange : List ℕ → Type 0
InRange counts = (k : Counter) → count k counts < 2 ^ 32
