-- Numbers as the library reads them from the bytes of a field are those of the table.
use Rattle.std.specs.Prelude.{◌≡◌, List, [], ◌∷◌, ℕ, zero, suc, ◌+◌, ◌*◌, ◌^◌, ◌≤◌, ◌<◌, length, take, drop, get_or}
use Rattle.std.specs.Int.{w16, w32, w64, byte_worth, sum_through, from_le_bytes}
use Rattle.std.proofs.Common.{sym, ap, ap₂, ◌∙◌, mul_comm, arith, length-drop, length-take-le, take_all}
use Rattle.std.proofs.Math.Seq.{take-suc}
use Rattle.basis.specs.Bytes.{little, number_at}
use Rattle.basis.specs.BytesLaws.{little-append, number_at_byte}

one_byte : (b : ℕ) → little (b ∷ []) ≡ b
unfolding little
one_byte b = omega arith

-- the sum of what the first k + 1 bytes are worth is the number that they spell
spelled : (k : ℕ) (bs : List ℕ) → k < length bs → sum_through (λ i. byte_worth i (get_or bs i 0)) k ≡ little (take (suc k) bs)
spelled zero [] below = absurd (omega arith)
spelled zero (b ∷ bs) below = sym (one_byte b)
spelled (suc k) bs below =
    let front : length (take (suc k) bs) ≡ suc k = length-take-le (suc k) bs (omega arith) in
    let b = get_or bs (suc k) 0 in
    let last : 256 ^ length (take (suc k) bs) * little (b ∷ []) ≡ b * 256 ^ suc k =
    ap₂ (λ (n m : ℕ). 256 ^ n * m) front (one_byte b) ∙ mul_comm (256 ^ suc k) b in
    ap₂ (λ (n m : ℕ). n + m) (spelled k bs (omega arith)) (sym last)
    ∙ sym (little-append (take (suc k) bs) (b ∷ []))
    ∙ ap little (sym (take-suc bs (suc k) 0 below))

-- for as many bytes as a number has
module _ (s bs : List ℕ) (i n : ℕ) where
  at_place : (k : ℕ) → i + suc k ≤ length s → bs ≡ take (suc k) (drop i s) → n ≡ sum_through (λ j. byte_worth j (get_or bs j 0)) k
      → n ≡ number_at s i (suc k)
  unfolding number_at
  at_place k within there is =
      let long : length bs ≡ suc k = ap length there ∙ length-take-le (suc k) (drop i s) (omega (arith, length-drop i s)) in
      is ∙ spelled k bs (omega arith) ∙ ap little (take_all (suc k) bs (omega arith) ∙ there)

  pub two_bytes : i + 2 ≤ length s → bs ≡ take 2 (drop i s) → n ≡ from_le_bytes w16 bs → n ≡ number_at s i 2
  two_bytes = at_place 1

  pub four_bytes : i + 4 ≤ length s → bs ≡ take 4 (drop i s) → n ≡ from_le_bytes w32 bs → n ≡ number_at s i 4
  four_bytes = at_place 3

  pub eight_bytes : i + 8 ≤ length s → bs ≡ take 8 (drop i s) → n ≡ from_le_bytes w64 bs → n ≡ number_at s i 8
  eight_bytes = at_place 7

-- and one byte is read where it stands
pub byte : (s : List ℕ) (i : ℕ) → i < length s → get_or s i 0 ≡ number_at s i 1
byte s i below = sym (number_at_byte s i below)
