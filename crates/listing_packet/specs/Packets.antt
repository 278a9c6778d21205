-- The lines of a packet: its row, and what is wrong with it; and what putting them promises.
use Rattle.std.specs.Prelude.{ℕ, ◌≤◌, Bool, not, ◌≡◌, List, [], ◌++◌, length}
use Rattle.basis.specs.Pick.{pick}
use Rattle.rdh.specs.declared.rdh_cru.RdhCru.{RdhCru}
use Rattle.text_writer.specs.Writer.{extended}
use Rattle.text_writer.specs.declared.TextWriter.{TextWriter}
use Rattle.rdh_row.specs.Row.{row_text}
use Rattle.validators.specs.Verdict.{settled_by, sound_to, text_of}
use Rattle.validators.specs.declared.RdhCruSanityValidator.{RdhCruSanityValidator}
use Rattle.listing_lines.specs.Lines.{line_at, room}

-- The line of a packet that is not sound to the validator, with its verdict text.
unfoldable pub verdict_line : RdhCruSanityValidator → ℕ → RdhCru → List ℕ
verdict_line v position h = pick (sound_to v h) [] (line_at position (text_of v h))

-- The lines of a packet (P2, P3).
unfoldable pub packet_lines : RdhCruSanityValidator → ℕ → RdhCru → List ℕ
packet_lines v position h = line_at position (row_text h) ++ verdict_line v position h

-- The contract of writing a packet's lines, by a validator that is lent: `after` is what is left in the validator, `told` the reply, and
-- `x` what becomes of the writer `w`. The room that lines need is bounded.
pub record Packs (v : RdhCruSanityValidator) (position : ℕ) (h : RdhCru) (w : TextWriter) (after : RdhCruSanityValidator) (told : Bool)
    (x : TextWriter) : Type 0 where
  pub validator : after ≡ settled_by v h
  pub unsound : told ≡ not (sound_to v h)
  pub lines : x ≡ extended w (packet_lines v position h)
  pub short : length (packet_lines v position h) ≤ room
