-- The same laws of a piece that is put at a place of a buffer, only where the test fails. `b` is the test's condition, as the code has it.
use Rattle.std.specs.Prelude.{ℕ, ◌<◌, ◌^◌, Bool, true, false, not, ◌≡◌, List, [], ◌++◌, length}
use Rattle.std.proofs.Common.{sym, ◌∙◌}
use Rattle.std.proofs.lemmas.Bool.{not-true, not-false}
use Rattle.basis.specs.Pick.{pick}
use Rattle.basis.specs.PickLaws.{on, off}
use Rattle.text.specs.Put.{Put}
use Rattle.text.specs.PutLaws.{and_then, ended, put_nothing, respelled}
use Rattle.sanity.specs.Tests.{Test, piece_of}

pub passed : {b : Bool} (t : Test) (l : List ℕ) (i : ℕ) → b ≡ t.fails → not b ≡ true → length l < 2 ^ 64 → i < 2 ^ 64
    → Put l i (piece_of t) l i
passed {b} t l i is e room small = respelled (sym (off t.piece [] (sym is ∙ not-true b e))) (put_nothing l i room small)

pub failed : {b : Bool} {l m : List ℕ} {i j : ℕ} (t : Test) → b ≡ t.fails → not b ≡ false → Put l i t.piece m j
    → Put l i (piece_of t) m j
failed {b} t is e p = respelled (sym (on t.piece [] (sym is ∙ not-false b e))) p

-- either way, where the code puts the piece only if `b`
pub tested : {b : Bool} {l m : List ℕ} {i j : ℕ} (t : Test) → b ≡ t.fails → Put l i (pick b t.piece []) m j → Put l i (piece_of t) m j
tested t is p = respelled (λ k. pick (is k) t.piece []) p

-- the piece of a test of a number that is another's
pub renumbered : {l m : List ℕ} {i j n k : ℕ} (t : ℕ → Test) → n ≡ k → Put l i (piece_of (t n)) m j → Put l i (piece_of (t k)) m j
renumbered t same p = respelled (λ x. piece_of (t (same x))) p

-- the last piece of a list of tests
pub last_piece : {t l m : List ℕ} {i j : ℕ} → Put l i t m j → Put l i (t ++ []) m j
last_piece p = and_then p (ended p)
