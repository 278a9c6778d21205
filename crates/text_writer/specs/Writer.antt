-- A text writer, which holds the lent buffer and the number of bytes written, and what becomes of it (F5).
use Rattle.std.specs.Prelude.{ℕ, ◌+◌, min, List, length}
use Rattle.std.proofs.lemmas.List.Edits.{sets}
use denote.Ref.{MutBor, at_last}
use Rattle.text.specs.Put.{last_place}
use Rattle.text_writer.specs.declared.TextWriter.{TextWriter}

-- A writer of the borrow `x` that goes on behind the first `n` bytes.
abbrev pub begun : MutBor (List ℕ) → ℕ → TextWriter
begun x n = record { buf = x; count = n }

-- The writer once the text `t` is written: the same borrow, in which the bytes of `t` that fit stand behind those written before, and a
-- count of the whole text, whether it fits or not. (`at_last x l` is the reference `x` when its list is `l`.)
abbrev pub extended : TextWriter → List ℕ → TextWriter
extended w t = record { buf = at_last w.buf (sets w.buf.now w.count t); count = min (w.count + length t) last_place }
