-- Laws of the round trips (B5), over what the contracts of decoding and encoding cite.
use Rattle.std.specs.Prelude.{◌≡◌, List, ◌++◌, ℕ, ◌≤◌, length, take, drop}
use Rattle.std.proofs.Common.{sym, ap, ◌∙◌, arith, le-ltb, length-append, take-append-drop}
use Rattle.basis.specs.Bytes.{Bytes}
use Rattle.basis.specs.PickLaws.{off}
use Rattle.basis.specs.Refusals.{gives}
use Rattle.rdh.specs.declared.rdh_cru.RdhCru.{RdhCru}
use Rattle.serde_rdh.specs.Layout.{decode, decoded, encoded, encoded_into, InRange}
use Rattle.serde_rdh.proofs.LayoutLaws.{decoded-encoded, encoded-decoded, decode-given, length-encoded}

-- a buffer of 64 bytes or more is written, and holds the header in front
pub written : (h : RdhCru) (out : List ℕ) → 64 ≤ length out → encoded_into h out ≡ encoded h ++ drop 64 out
unfolding encoded_into
written h out enough = off _ _ (le-ltb (length out) 64 enough)

-- 64 bytes or more are decoded
pub read : (s : List ℕ) → 64 ≤ length s → decode s ≡ gives (decoded s)
unfolding decode
read s enough = off _ _ (le-ltb (length s) 64 enough)

-- the bytes that a header was decoded from are what encoding writes
pub bytes_again : (s out : List ℕ) (h : RdhCru) → Bytes s → decode s ≡ gives h → 64 ≤ length out
    → encoded_into h out ≡ take 64 s ++ drop 64 out
bytes_again s out h bytes given enough =
    let found = decode-given s h (sym given) in
    written h out enough
    ∙ ap (λ (t : List ℕ). t ++ drop 64 out) (ap encoded found.1 ∙ encoded-decoded s bytes found.0)

-- a header that is encoded is what decoding gives, whatever the buffer held
pub header_again : (h : RdhCru) (out : List ℕ) → InRange h → 64 ≤ length out → decode (encoded_into h out) ≡ gives h
header_again h out fits enough =
    let long : 64 ≤ length (encoded h ++ drop 64 out) = omega (arith, length-append (encoded h) (drop 64 out), length-encoded h) in
    ap decode (written h out enough) ∙ read (encoded h ++ drop 64 out) long ∙ ap gives (decoded-encoded h fits (drop 64 out))

-- what is decoded and encoded where it stands leaves all bytes as they were
pub nothing_changed : (s : List ℕ) (h : RdhCru) → Bytes s → decode s ≡ gives h → encoded_into h s ≡ s
nothing_changed s h bytes given = bytes_again s s h bytes given (decode-given s h (sym given)).0 ∙ take-append-drop 64 s
