-- An example, which no public contract cites: the listing of the two headers of P6, computed from the definition.
use Rattle.std.specs.Prelude.{ℕ, ◌≡◌, refl, List, [], ◌∷◌, ◌++◌, replicate}
use Rattle.basis.specs.Bytes.{little, number_at}
use Rattle.serde_rdh.specs.Layout.{decoded, header, span}
use Rattle.stats.specs.Counts.{added}
use Rattle.stats.specs.Lists.{full, member, places_after, twice, used_after}
use Rattle.scan_cdp.specs.Steps.{cut, ended, entry_of, initial_of, marks_of, outcome_in, payload_of, place_after, places_listed, progress_after, raised, step, tallied, unusable, used_listed}
use Rattle.scan_cdp.specs.Outcomes.{filtered, outcome_of}
use Rattle.text.specs.Ascii.{ascii}
use Rattle.text_numbers.specs.Numerals.{decimal, hex, left, numeral, right}
use Rattle.rdh_row.specs.Row.{rdh0_text, rdh1_text, rdh2_text, row_text}
use Rattle.sanity.specs.Tests.{all_tests, any_fails, cru_tests, fee_id_tests, rdh0_tests, rdh1_tests, rdh2_tests, rdh3_tests, sound}
use Rattle.validators.specs.Verdict.{settled_by, sound_to}
use Rattle.chain.specs.Chain.{chain, chain_of}
use Rattle.chain.specs.Following.{entries_of}
use Rattle.listing_lines.specs.Lines.{count_line, last_lines, line_at, newline, position_text}
use Rattle.listing_packet.specs.Packets.{packet_lines, verdict_line}
use Rattle.listing_text.specs.ListingText.{entries_text, listing_text, program_text}

-- A header of 64 bytes with a packet counter, a pages counter and a stop bit of its own.
abbrev header_with : (counter pages stop : ℕ) → List ℕ
header_with counter pages stop =
    (7 ∷ 0x40 ∷ 0x2A ∷ 0x50 ∷ 0 ∷ 0x20 ∷ 0 ∷ 0 ∷ 0x40 ∷ 0 ∷ 0x40 ∷ 0 ∷ 2 ∷ counter ∷ 1 ∷ 0 ∷ [])
    ++ (0 ∷ 0 ∷ 0 ∷ 0 ∷ 0x10 ∷ 0 ∷ 0 ∷ 0 ∷ 2 ∷ replicate 7 0)
    ++ (0x13 ∷ 0x48 ∷ 0 ∷ 0 ∷ pages ∷ 0 ∷ stop ∷ replicate 25 0)

unfoldable pub two_headers : List ℕ
two_headers = header_with 0 0 0 ++ header_with 1 1 1

pub two_listed : program_text two_headers
    ≡ ascii "0x0: 7     64     20522  32    64      2     0         0    0x10        2          0x4813    0        0      0x0" ++ newline
    ++ ascii "0x40: 7     64     20522  32    64      2     1         0    0x10        2          0x4813    1        1      0x0" ++ newline
    ++ ascii "seen 2" ++ newline ++ ascii "filtered 0" ++ newline ++ ascii "payload 0" ++ newline ++ ascii "end 1" ++ newline
unfolding two_headers listing_text entries_text chain chain_of entries_of number_at little decoded header span unusable twice member step entry_of marks_of tallied raised added initial_of outcome_in outcome_of filtered full payload_of cut places_listed places_after used_listed used_after progress_after place_after ended packet_lines verdict_line line_at position_text last_lines count_line row_text rdh0_text rdh1_text rdh2_text decimal hex left right numeral sound_to settled_by sound any_fails all_tests cru_tests fee_id_tests rdh0_tests rdh1_tests rdh2_tests rdh3_tests
two_listed = refl
