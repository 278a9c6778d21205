-- A comparison as the code goes through it, field by field. No public contract cites this file: `MismatchesLaws` says that it makes the
-- text of `Mismatches`.
use Rattle.std.specs.Prelude.{ℕ, List, [], eqb}
use Rattle.basis.specs.Pick.{pick}
use Rattle.text.specs.Ascii.{ascii}
use Rattle.trigger_stats.specs.Counters.{Counter, count}
use Rattle.trigger_texts.specs.Mismatches.{mismatch_of, name}

-- What is put for a field: its line, or nothing where the counts are equal.
unfoldable pub mismatch_if_any : List ℕ → ℕ → ℕ → List ℕ
mismatch_if_any field expected got = pick (eqb got expected) [] (mismatch_of field expected got)

-- What is put for a counter of two statistics.
abbrev pub counter_mismatch : List ℕ → List ℕ → Counter → List ℕ
counter_mismatch self other k = mismatch_if_any (ascii (name k)) (count k other) (count k self)
