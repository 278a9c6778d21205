-- Laws of the piece of a test, which is written only where the test fails. `b` is the test's condition, as the code has it.
use Rattle.std.specs.Prelude.{ℕ, ◌<◌, ◌^◌, Bool, true, false, not, ◌≡◌, List, [], ◌∷◌, ◌++◌, length}
use Prim.Native.String.{String}
use Rattle.std.proofs.Common.{ap, sym, ◌∙◌, arith}
use Rattle.std.proofs.Math.Seq.{length-sets}
use Rattle.std.proofs.lemmas.Bool.{not-true, not-false}
use Rattle.std.proofs.lemmas.List.{append-nil}
use Rattle.basis.specs.Pick.{pick}
use Rattle.basis.specs.PickLaws.{on, off}
use Rattle.text.specs.Ascii.{ascii}
use Rattle.text_writer.specs.declared.TextWriter.{TextWriter}
use Rattle.text_writer.specs.Writer.{extended}
use Rattle.text_writer.proofs.WriterLaws.{extended_then}
use Rattle.sanity.specs.Tests.{Test, any_fails, piece_of, pieces, section, test}

module _ (v : TextWriter) {w : TextWriter} where
  respelled : (t u : List ℕ) → t ≡ u → w ≡ extended v t → w ≡ extended v u
  respelled t u same p = p ∙ ap (λ (x : List ℕ). extended v x) same

  pub passed : {b : Bool} (t : Test) → b ≡ t.fails → not b ≡ true → w ≡ extended v [] → w ≡ extended v (piece_of t)
  passed {b} t is e p = respelled _ _ (sym (off t.piece [] (sym is ∙ not-true b e))) p

  pub failed : {b : Bool} (t : Test) → b ≡ t.fails → not b ≡ false → w ≡ extended v t.piece → w ≡ extended v (piece_of t)
  failed {b} t is e p = respelled _ _ (sym (on t.piece [] (sym is ∙ not-false b e))) p

  -- either way, where the code writes the piece only if `b`
  pub tested : {b : Bool} (t : Test) → b ≡ t.fails → w ≡ extended v (pick b t.piece []) → w ≡ extended v (piece_of t)
  tested t is p = respelled _ _ (λ k. pick (is k) t.piece []) p

  -- the piece of a test of a number that is another's
  pub renumbered : {n k : ℕ} (t : ℕ → Test) → n ≡ k → w ≡ extended v (piece_of (t n)) → w ≡ extended v (piece_of (t k))
  renumbered t same p = respelled _ _ (λ x. piece_of (t (same x))) p

  -- the last piece of a list of tests
  pub last_piece : (t : Test) → w ≡ extended v (piece_of t) → w ≡ extended v (pieces (t ∷ []))
  unfolding pieces
  last_piece t p = respelled _ _ (sym (append-nil (piece_of t))) p

module _ (v : TextWriter) {w x : TextWriter} where
  -- one text, then another
  written : (t u : List ℕ) → length v.buf.now < 2 ^ 64 → w ≡ extended v t → (length w.buf.now < 2 ^ 64 → x ≡ extended w u)
      → x ≡ extended v (t ++ u)
  written t u room p q =
      extended_then v w t u room p
      (q (omega (arith, room, ap (λ (y : TextWriter). length y.buf.now) p, length-sets v.buf.now v.count t)))

  -- a piece, then the pieces of the other tests
  pub first_piece : (t : Test) (ts : List Test) → length v.buf.now < 2 ^ 64 → w ≡ extended v (piece_of t)
      → (length w.buf.now < 2 ^ 64 → x ≡ extended w (pieces ts)) → x ≡ extended v (pieces (t ∷ ts))
  unfolding pieces
  first_piece t ts = written (piece_of t) (pieces ts)

-- a word's heading and pieces, as one test
abbrev pub headed : String → List Test → Test
headed heading ts = test (any_fails ts) (ascii heading ++ pieces ts)

-- the heading, then the pieces, where any test fails
pub under : (v : TextWriter) {w x : TextWriter} {b : Bool} (heading : String) (ts : List Test) → b ≡ any_fails ts → not b ≡ false
    → length v.buf.now < 2 ^ 64 → w ≡ extended v (ascii heading) → (length w.buf.now < 2 ^ 64 → x ≡ extended w (pieces ts))
    → x ≡ extended v (section heading ts)
under v heading ts is e room p q = failed v (headed heading ts) is e (written v (ascii heading) (pieces ts) room p q)
