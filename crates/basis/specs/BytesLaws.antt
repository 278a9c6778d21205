-- Laws of numbers as bytes: bytes and number determine each other, and a number is joined from the numbers of its parts.
use Rattle.std.specs.Prelude.{◌≡◌, refl, List, [], ◌∷◌, ◌++◌, ℕ, zero, suc, ◌+◌, ◌*◌, ◌/◌, ◌%◌, ◌^◌, ◌≤◌, ◌<◌, length, take, drop, get_or}
use Rattle.std.proofs.Common.{sym, ap, ap₂, ◌∙◌, suc-add, mul_assoc, arith, length-drop, take-add, take_at, drop_at, take-take, drop-drop, drop-cons, get_or-take, get_or-drop, length-take-le}
use Rattle.std.proofs.Math.Nat.{pow-succ'}
use Rattle.basis.specs.Bytes.{little, bytes_of, number_at, Bytes}

pub length_bytes_of : (width v : ℕ) → length (bytes_of width v) ≡ width
unfolding bytes_of
length_bytes_of zero v = refl
length_bytes_of (suc width) v = ap suc (length_bytes_of width (v / 256))

-- a number comes back from its bytes where it fits them
pub little_bytes_of : (width v : ℕ) → v < 256 ^ width → little (bytes_of width v) ≡ v
unfolding little bytes_of
little_bytes_of zero v h = omega arith
little_bytes_of (suc width) v h =
    let ih = little_bytes_of width (v / 256) (omega arith) in
    omega arith

-- bytes come back from their number
pub bytes_of_little : (s : List ℕ) → Bytes s → bytes_of (length s) (little s) ≡ s
unfolding little bytes_of
bytes_of_little [] h = refl
bytes_of_little (b ∷ s) h =
    let low : b < 256 = h 0 (omega arith) in
    let first : (b + 256 * little s) % 256 ≡ b = omega arith in
    let rest : (b + 256 * little s) / 256 ≡ little s = omega arith in
    ap₂ (λ (x : ℕ) (n : ℕ). x ∷ bytes_of (length s) n) first rest
    ∙ ap (λ (t : List ℕ). b ∷ t) (bytes_of_little s (λ k below. h (suc k) (omega arith)))

-- the bytes of a number are those of its low part and, behind them, those of its high part
pub bytes_of_join : (v w low high : ℕ) → low < 256 ^ v → bytes_of (v + w) (low + 256 ^ v * high) ≡ bytes_of v low ++ bytes_of w high
unfolding bytes_of
bytes_of_join zero w low high h =
    let width : zero + w ≡ w = omega arith in
    let number : low + 1 * high ≡ high = omega arith in
    ap₂ bytes_of width number
bytes_of_join (suc v) w low high h =
    let power : 256 ^ suc v * high ≡ 256 * (256 ^ v * high) =
    ap (λ (n : ℕ). n * high) (pow-succ' 256 v) ∙ mul_assoc 256 (256 ^ v) high in
    let first : (low + 256 ^ suc v * high) % 256 ≡ low % 256 = omega arith in
    let rest : (low + 256 ^ suc v * high) / 256 ≡ low / 256 + 256 ^ v * high = omega arith in
    ap (λ (n : ℕ). bytes_of n (low + 256 ^ suc v * high)) (suc-add v w)
    ∙ ap₂ (λ (b : ℕ) (n : ℕ). b ∷ bytes_of (v + w) n) first rest
    ∙ ap (λ (t : List ℕ). low % 256 ∷ t) (bytes_of_join v w (low / 256) high (omega (arith, pow-succ' 256 v)))

-- bytes in a row spell the number of the first ones and, above it, that of the others
pub little-append : (s t : List ℕ) → little (s ++ t) ≡ little s + 256 ^ length s * little t
unfolding little
little-append [] t = omega arith
little-append (b ∷ s) t =
    let ih = little-append s t in
    omega (arith, ap (λ (n : ℕ). n * little t) (pow-succ' 256 (length s)))

pub number_at_join : (s : List ℕ) (offset v w : ℕ) → offset + v ≤ length s
    → number_at s offset (v + w) ≡ number_at s offset v + 256 ^ v * number_at s (offset + v) w
unfolding number_at
number_at_join s offset v w h =
    let short : length (take v (drop offset s)) ≡ v = length-take-le v (drop offset s) (omega (arith, length-drop offset s)) in
    ap little (take-add v w (drop offset s))
    ∙ little-append (take v (drop offset s)) (take w (drop v (drop offset s)))
    ∙ ap₂ (λ (n : ℕ) (t : List ℕ). little (take v (drop offset s)) + 256 ^ n * little (take w t)) short (drop-drop v offset s)

-- one byte is its own number
pub number_at_byte : (s : List ℕ) (offset : ℕ) → offset < length s → number_at s offset 1 ≡ get_or s offset 0
unfolding number_at little
number_at_byte s offset h = ap (λ (t : List ℕ). little (take 1 t)) (drop-cons s offset 0 h) ∙ omega arith

-- a number comes back from where its bytes stand, if it fits them
pub number_at_bytes_of : (before after : List ℕ) (offset width v : ℕ) → length before ≡ offset → v < 256 ^ width
    → number_at (before ++ (bytes_of width v ++ after)) offset width ≡ v
unfolding number_at
number_at_bytes_of before after offset width v here fits =
    ap (λ (t : List ℕ). little (take width t)) (drop_at before (bytes_of width v ++ after) offset here)
    ∙ ap little (take_at (bytes_of width v) after width (length_bytes_of width v))
    ∙ little_bytes_of width v fits

-- the bytes that a number was read from
pub bytes_of_number_at : (s : List ℕ) (offset width : ℕ) → Bytes s → offset + width ≤ length s
    → bytes_of width (number_at s offset width) ≡ take width (drop offset s)
unfolding number_at
bytes_of_number_at s offset width bytes h =
    let part = take width (drop offset s) in
    let long : length part ≡ width = length-take-le width (drop offset s) (omega (arith, length-drop offset s)) in
    let low : Bytes part =
    λ k below.
    rw (get_or-take width (drop offset s) k 0 (rw long at below), get_or-drop offset s k 0)
    (bytes (offset + k) (omega arith)) in
    ap (λ (w : ℕ). bytes_of w (little part)) (sym long) ∙ bytes_of_little part low

part-take : (offset width n : ℕ) (s : List ℕ) → offset + width ≤ n → take width (drop offset (take n s)) ≡ take width (drop offset s)
part-take zero width n s h = take-take width n s (omega arith)
part-take (suc offset) width zero s h = absurd (omega arith)
part-take (suc offset) width (suc n) [] h = refl
part-take (suc offset) width (suc n) (b ∷ s) h = part-take offset width n s (omega arith)

-- a number in the first bytes of s, of which there may be fewer, is the one in s
pub number_at_take : (s : List ℕ) (n offset width : ℕ) → offset + width ≤ n → number_at (take n s) offset width ≡ number_at s offset width
unfolding number_at
number_at_take s n offset width h = ap little (part-take offset width n s h)
