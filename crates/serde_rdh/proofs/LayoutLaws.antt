-- Laws of the table: its fields fill the 64 bytes, decoding and encoding undo each other, and headers are the same exactly when their
-- bytes are. What holds of every field is proved over a list of fields that stand side by side.
use Rattle.std.specs.Prelude.{◌≡◌, refl, Bool, true, false, ◌↔◌, ℕ, ◌+◌, ◌≤◌, ◌<◌, eqb, ltb, ℤ, length, drop}
use Rattle.std.proofs.Math.Path.{sym, ap, subst}
use Rattle.std.proofs.Common.{◌∙◌, true≢false, arith, ltb-true, ltb-false, take-add}
use mathlib.Core.List.{List, [], ◌∷◌, ◌++◌, append_assoc, append-nil}
use Rattle.std.proofs.Math.ListN.{take, length-append}
use Rattle.basis.specs.Bytes.{Bytes, bytes_of, number_at}
use Rattle.basis.specs.BytesLaws.{length_bytes_of, bytes_of_number_at, number_at_bytes_of, number_at_take}
use Rattle.basis.specs.Pick.{pick}
use Rattle.basis.specs.PickLaws.{on, off}
use Rattle.basis.specs.Refusals.{Answer, gives, refuses}
use Rattle.rdh.specs.declared.rdh_cru.RdhCru.{RdhCru}
use Rattle.serde_rdh.specs.Layout.{Field, fields, span, value, Tiles, header, number, decode, decoded, bytes_in, encoded, InRange}
use Rattle.serde_rdh.specs.Layout.{header-id, header-size, fee-id, priority-bit, system-id, rdh0-reserved0, offset-new-packet}
use Rattle.serde_rdh.specs.Layout.{memory-size, link-id, packet-counter, cruid-dw, bc-reserved0, orbit, dataformat-reserved0}
use Rattle.serde_rdh.specs.Layout.{trigger-type, pages-counter, stop-bit, rdh2-reserved0, reserved1, detector-field, par-bit}
use Rattle.serde_rdh.specs.Layout.{rdh3-reserved0, reserved2}

-- the table covers all 64 bytes, each once
pub tiled : Tiles 0 fields 64
unfolding span
tiled = omega arith

-- ---- from the list of fields to every field: the list has them all

abbrev pub Each : (Field → Type 0) → List Field → Type 0
Each P [] = Unit
Each P (f ∷ fs) = P f × Each P fs

-- f is the field of the list that starts at its byte
Among : Field → List Field → Type 0
Among f [] = ⊥
Among f (g ∷ fs) = pick (eqb (span f).offset (span g).offset) (f ≡ g) (Among f fs)

among : (f : Field) → Among f fields
unfolding Among span
among header-id = refl
among header-size = refl
among fee-id = refl
among priority-bit = refl
among system-id = refl
among rdh0-reserved0 = refl
among offset-new-packet = refl
among memory-size = refl
among link-id = refl
among packet-counter = refl
among cruid-dw = refl
among bc-reserved0 = refl
among orbit = refl
among dataformat-reserved0 = refl
among trigger-type = refl
among pages-counter = refl
among stop-bit = refl
among rdh2-reserved0 = refl
among reserved1 = refl
among detector-field = refl
among par-bit = refl
among rdh3-reserved0 = refl
among reserved2 = refl

of_each : (P : Field → Type 0) (f : Field) (fs : List Field) → Among f fs → Each P fs → P f
unfolding Among
of_each P f [] l e = absurd l
of_each P f (g ∷ fs) l e = go (eqb (span f).offset (span g).offset) l (λ later. of_each P f fs later e.1)
  where
    go : (b : Bool) → pick b (f ≡ g) (Among f fs) → (Among f fs → P f) → P f
    go true same next = subst P (sym same) e.0
    go false later next = next later

pub every : (P : Field → Type 0) → Each P fields → (f : Field) → P f
every P e f = of_each P f fields (among f) e

-- ---- the fields of a header

value-header : (n : Field → ℕ) (f : Field) → value f (header n) ≡ n f
unfolding value header
value-header n f = every (λ g. value g (header n) ≡ n g) (omega arith) f

pub value-decoded : (s : List ℕ) (f : Field) → value f (decoded s) ≡ number s f
unfolding decoded
value-decoded s f = value-header (number s) f

-- headers with equal numbers in every field are the same
pub same_fields : (a b : RdhCru) → ((f : Field) → value f a ≡ value f b) → a ≡ b
unfolding value header
same_fields a b e = λ i. header (λ f. e f i)

-- ---- lengths

length-bytes_in : (h : RdhCru) (fs : List Field) (first end : ℕ) → Tiles first fs end → first + length (bytes_in fs h) ≡ end
unfolding bytes_in
length-bytes_in h [] first end t = omega arith
length-bytes_in h (f ∷ fs) first end t =
    let width = (span f).width in
    let own = bytes_of width (value f h) in
    omega (arith, length-bytes_in h fs (first + width) end t.1, length-append own (bytes_in fs h), length_bytes_of width (value f h))

pub length-encoded : (h : RdhCru) → length (encoded h) ≡ 64
length-encoded h = omega (arith, length-bytes_in h fields 0 64 tiled)

ordered : (fs : List Field) (first end : ℕ) → Tiles first fs end → first ≤ end
ordered [] first end t = omega arith
ordered (f ∷ fs) first end t = omega (arith, ordered fs (first + (span f).width) end t.1)

within : (fs : List Field) (first end : ℕ) → Tiles first fs end → Each (λ f. (span f).offset + (span f).width ≤ end) fs
within [] first end t = tt
within (f ∷ fs) first end t =
    let next = first + (span f).width in
    (omega (arith, ordered fs next end t.1), within fs next end t.1)

-- ---- decoding

-- bytes behind the first 64 change nothing (B4)
pub decoded-take : (n : ℕ) (s : List ℕ) → 64 ≤ n → decoded (take n s) ≡ decoded s
decoded-take n s enough =
    same_fields _ _
    (λ f.
    let inside = every (λ g. (span g).offset + (span g).width ≤ 64) (within fields 0 64 tiled) f in
    value-decoded (take n s) f
    ∙ number_at_take s n (span f).offset (span f).width (omega arith)
    ∙ sym (value-decoded s f))

module _ (h : RdhCru) (fits : InRange h) (rest : List ℕ) where
  -- behind as many bytes p as stand before them, the fields' bytes hold the header's numbers
  numbers_back : (fs : List Field) (first end : ℕ) → Tiles first fs end → (p : List ℕ) → length p ≡ first
      → Each (λ f. number (p ++ (bytes_in fs h ++ rest)) f ≡ value f h) fs
  unfolding bytes_in
  numbers_back [] first end t p long = tt
  numbers_back (f ∷ fs) first end t p long =
      let width = (span f).width in
      let own = bytes_of width (value f h) in
      let rejoin : own ++ bytes_in fs h ++ rest ≡ own ++ (bytes_in fs h ++ rest) = append_assoc own (bytes_in fs h) rest in
      let whole : p ++ own ++ (bytes_in fs h ++ rest) ≡ p ++ (own ++ bytes_in fs h ++ rest) = simp append_assoc in (
        ap (λ (l : List ℕ). number (p ++ l) f) rejoin
            ∙ number_at_bytes_of p (bytes_in fs h ++ rest) (span f).offset width (value f h) (long ∙ sym t.0) (fits f),
        subst
            (λ (l : List ℕ). Each (λ g. number l g ≡ value g h) fs)
            whole
            (numbers_back fs (first + width) end t.1 (p ++ own) (omega (arith, length-append p own, length_bytes_of width (value f h)))),
      )

  -- a header that is encoded and decoded comes back, whatever bytes follow (B5)
  pub decoded-encoded : decoded (encoded h ++ rest) ≡ h
  decoded-encoded =
      same_fields _ _
      (λ f.
      value-decoded (encoded h ++ rest) f
      ∙ every (λ g. number (encoded h ++ rest) g ≡ value g h) (numbers_back fields 0 64 tiled [] refl) f)

-- ---- encoding

module _ (s : List ℕ) (bytes : Bytes s) where
  bytes_back : (fs : List Field) (first end : ℕ) → Tiles first fs end → end ≤ length s → take first s ++ bytes_in fs (decoded s) ≡ take end s
  unfolding bytes_in
  bytes_back [] first end t fit = append-nil (take first s) ∙ ap (λ (n : ℕ). take n s) t
  bytes_back (f ∷ fs) first end t fit =
      let width = (span f).width in
      let next = first + width in
      let own : bytes_of width (value f (decoded s)) ≡ take width (drop first s) =
      ap (bytes_of width) (value-decoded s f)
      ∙ ap (λ (n : ℕ). bytes_of width (number_at s n width)) t.0
      ∙ bytes_of_number_at s first width bytes (omega (arith, ordered fs next end t.1)) in
      ap (λ (l : List ℕ). take first s ++ (l ++ bytes_in fs (decoded s))) own
      ∙ sym (append_assoc (take first s) (take width (drop first s)) (bytes_in fs (decoded s)))
      ∙ ap (λ (l : List ℕ). l ++ bytes_in fs (decoded s)) (sym (take-add first width s))
      ∙ bytes_back fs next end t.1 fit

  -- 64 bytes that are decoded and encoded come back (B5)
  pub encoded-decoded : 64 ≤ length s → encoded (decoded s) ≡ take 64 s
  encoded-decoded long = bytes_back fields 0 64 tiled long

-- equal by bytes exactly when the same header
pub same_bytes : (a b : RdhCru) → InRange a → InRange b → (encoded a ≡ encoded b) ↔ (a ≡ b)
same_bytes a b fits-a fits-b =
    (λ e. sym (decoded-encoded a fits-a []) ∙ ap (λ (s : List ℕ). decoded (s ++ [])) e ∙ decoded-encoded b fits-b [], ap encoded)

-- ---- what an answer tells of the bytes

abbrev is_given : Answer RdhCru → Bool
is_given (gives h) = true
is_given (refuses number values) = false

abbrev given_or : RdhCru → Answer RdhCru → RdhCru
given_or other (gives h) = h
given_or other (refuses number values) = other

-- Bytes that decoding refuses are too few.
pub decode-refused : (s : List ℕ) (number : ℕ) (values : List ℤ) → refuses number values ≡ decode s → length s < 64
unfolding decode
decode-refused s number values e = by_length (ltb (length s) 64) refl
  where
    by_length : (b : Bool) → ltb (length s) 64 ≡ b → length s < 64
    by_length true few = ltb-true (length s) 64 few
    by_length false enough = absurd (true≢false (sym (ap is_given (e ∙ off _ _ enough))))

-- Bytes that decoding takes are enough, and the header is what they hold.
pub decode-given : (s : List ℕ) (h : RdhCru) → gives h ≡ decode s → (64 ≤ length s) × (h ≡ decoded s)
unfolding decode
decode-given s h e = by_length (ltb (length s) 64) refl
  where
    by_length : (b : Bool) → ltb (length s) 64 ≡ b → (64 ≤ length s) × (h ≡ decoded s)
    by_length true few = absurd (true≢false (ap is_given (e ∙ on _ _ few)))
    by_length false enough = (ltb-false (length s) 64 enough, ap (given_or h) (e ∙ off _ _ enough))
