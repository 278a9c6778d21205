-- Laws of the lines: how long a line and the last lines can be.
use Rattle.std.specs.Prelude.{ℕ, ◌+◌, ◌≤◌, List, length}
use Rattle.std.proofs.Common.{arith, length-append}
use Rattle.std.proofs.lemmas.List.{length-map}
use Rattle.text.specs.Ascii.{ascii}
use Rattle.text_numbers.specs.Numerals.{decimal, numeral}
use Rattle.text_numbers.specs.NumeralLaws.{numeral_room}
use Rattle.scan_cdp.specs.declared.Counts.{Counts}
use Rattle.listing_lines.specs.Lines.{count_line, last_lines, line_at, position_text, room, upper}

-- a line has at most 21 bytes more than its text
pub length-line : (position : ℕ) (t : List ℕ) → length (line_at position t) ≤ 21 + length t
unfolding line_at position_text
length-line position t =
    simp length-append
    (omega (arith, length-map (numeral 16 16 position) upper, numeral_room 16 16 position))

length-count : (name : List ℕ) (n : ℕ) → length (count_line name n) ≤ length name + 22
unfolding count_line decimal
length-count name n = simp length-append (omega (arith, numeral_room 10 20 n))

pub short_last : (counts : Counts) (number : ℕ) → length (last_lines counts number) ≤ room
unfolding last_lines
short_last counts number =
    simp length-append
    (omega (
      arith,
      length-count (ascii "seen") counts.seen,
      length-count (ascii "filtered") counts.filtered,
      length-count (ascii "payload") counts.payload,
      length-count (ascii "end") number,
    ))
