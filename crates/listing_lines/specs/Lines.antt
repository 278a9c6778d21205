-- The lines of the listing: a line with its position, and the four last lines (P2, P3, P5).
use Rattle.std.specs.Prelude.{ℕ, ◌-◌, List, [], ◌∷◌, ◌++◌, map, ltb}
use Rattle.basis.specs.Pick.{pick}
use Rattle.text.specs.Ascii.{ascii}
use Rattle.text_numbers.specs.Numerals.{decimal, numeral}
use Rattle.scan_cdp.specs.declared.Counts.{Counts}

-- The end of a line.
abbrev pub newline : List ℕ
newline = 10 ∷ []

-- A byte in upper case: that of a letter is 32 below.
abbrev pub upper : ℕ → ℕ
upper b = pick (ltb b 97) b (b - 32)

-- A position, with upper-case digits (P2): 16 of them hold every number below 2^64.
unfoldable pub position_text : ℕ → List ℕ
position_text n = ascii "0x" ++ map upper (numeral 16 16 n)

-- A line that has a position in front of a text (P2, P3).
unfoldable pub line_at : ℕ → List ℕ → List ℕ
line_at position t = position_text position ++ ascii ": " ++ t ++ newline

-- A name and its number in decimal.
unfoldable pub count_line : List ℕ → ℕ → List ℕ
count_line name n = name ++ ascii " " ++ decimal n ++ newline

-- The last lines, with the counts and the number of the refusal (P5).
unfoldable pub last_lines : Counts → ℕ → List ℕ
last_lines counts number =
    count_line (ascii "seen") counts.seen
    ++ count_line (ascii "filtered") counts.filtered
    ++ count_line (ascii "payload") counts.payload
    ++ count_line (ascii "end") number

-- So many bytes hold the lines of any packet, and the last lines.
abbrev pub room : ℕ
room = 1024
