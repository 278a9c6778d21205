-- Laws of the length of a verdict's text: 406 bytes at most, and 174 of RDH0's (V6).
use Rattle.std.specs.Prelude.{ℕ, suc, ◌+◌, ◌≤◌, ◌<◌, ◌^◌, Bool, true, false, List, [], ◌∷◌, ◌++◌, length}
use Prim.Native.String.{String}
use Rattle.std.proofs.Common.{arith}
use Rattle.std.specs.Int.Bits.{bit_and}
use Rattle.std.proofs.lemmas.Nat.{and_le_r}
use Rattle.std.proofs.Math.ListN.{length-append}
use Rattle.basis.specs.Pick.{pick}
use Rattle.rdh.specs.declared.rdh0.Rdh0.{Rdh0}
use Rattle.rdh.specs.declared.rdh_cru.RdhCru.{RdhCru}
use Rattle.serde_rdh.specs.Layout.{InRange, span, value}
use Rattle.serde_rdh.specs.Layout.Field.{header-id, header-size, priority-bit, system-id, rdh0-reserved0, trigger-type, stop-bit, rdh2-reserved0, detector-field, rdh3-reserved0}
use Rattle.rdh.specs.Subfields.{bc_of, bc_reserved_of, data_format_of, dw_of, layer_of, stave_of}
use Rattle.text.specs.Ascii.{ascii}
use Rattle.text_numbers.specs.Numerals.{decimal, hex}
use Rattle.text_numbers.specs.NumeralLaws.{length-decimal, length-hex}
use Rattle.sanity.specs.declared.Criteria.{Criteria}
use Rattle.sanity.specs.Tests.{Test, any_fails, fee_id_test, header_id_test, hex_piece, decimal_piece, pieces, section, fee_id_tests, rdh0_tests, rdh1_tests, rdh2_tests, rdh3_tests, cru_tests, failure_text}

length-pick : (b : Bool) (t : List ℕ) → length (pick b t []) ≤ length t
length-pick true t = omega arith
length-pick false t = omega arith

-- a bound for the first piece and one for the others
and_piece : (t : Test) (ts : List Test) {a b : ℕ} → length t.piece ≤ a → length (pieces ts) ≤ b → length (pieces (t ∷ ts)) ≤ a + b
unfolding pieces
and_piece t ts first others =
    omega (arith, length-append (pick t.fails t.piece []) (pieces ts), length-pick t.fails t.piece)

no_piece : length (pieces []) ≤ 0
unfolding pieces
no_piece = omega arith

under : (heading : String) (ts : List Test) {b : ℕ} → length (pieces ts) ≤ b → length (section heading ts) ≤ length (ascii heading) + b
under heading ts bound =
    omega (arith, length-pick (any_fails ts) (ascii heading ++ pieces ts), length-append (ascii heading) (pieces ts))

hex_piece_lem : (label : String) (k n : ℕ) → n < 16 ^ suc k → length (hex_piece label n) ≤ length (ascii label) + 4 + k
hex_piece_lem label k n small =
    omega (arith, length-append (ascii label ++ hex n) (ascii " "), length-append (ascii label) (hex n), length-hex k n small)

decimal_piece_lem : (label : String) (k n : ℕ) → n < 10 ^ suc k → length (decimal_piece label n) ≤ length (ascii label) + 2 + k
decimal_piece_lem label k n small =
    omega (arith, length-append (ascii label ++ decimal n) (ascii " "), length-append (ascii label) (decimal n), length-decimal k n small)

-- What the numbers of RDH0 fit.
pub record Rdh0Fits (w : Rdh0) : Type 0 where
  pub id : w.header_id < 256
  pub size : w.header_size < 256
  pub priority : w.priority_bit < 256
  pub system : w.system_id < 256
  pub reserved : w.reserved0 < 65536

fee_id_pieces : (fee : ℕ) → length (pieces (fee_id_tests fee)) ≤ 51
unfolding fee_id_tests
fee_id_pieces fee =
    and_piece _ _ (hex_piece_lem "reserved bits = " 3 (bit_and fee 0x8CC0) (omega (arith, and_le_r fee 0x8CC0)))
    (and_piece _ _ (decimal_piece_lem "stave number = " 1 (stave_of fee) (omega arith))
    (and_piece _ _ (decimal_piece_lem "layer = " 0 (layer_of fee) (omega arith)) no_piece))

fee_id_piece : (fee : ℕ) → length (fee_id_test fee).piece ≤ 63
fee_id_piece fee = simp length-append (omega (arith, fee_id_pieces fee))

header_id_piece : (criteria : Criteria) (n : ℕ) → criteria.header_id < 256 → n < 256 → length (header_id_test criteria n).piece ≤ 30
header_id_piece criteria n small fits =
    simp length-append
    (omega (arith, length-decimal 2 n (omega arith), length-decimal 2 criteria.header_id (omega arith)))

pub rdh0_section : (criteria : Criteria) (w : Rdh0) → criteria.header_id < 256 → Rdh0Fits w
    → length (section "RDH0: " (rdh0_tests criteria w)) ≤ 174
unfolding rdh0_tests
rdh0_section criteria w small fits =
    under "RDH0: " _
    (and_piece _ _ (header_id_piece criteria w.header_id small fits.id)
    (and_piece _ _ (hex_piece_lem "Header size = " 1 w.header_size (omega arith))
    (and_piece _ _ (fee_id_piece w.fee_id.0)
    (and_piece _ _ (hex_piece_lem "Priority bit = " 1 w.priority_bit (omega arith))
    (and_piece _ _ (hex_piece_lem "system_id = " 1 w.system_id (omega arith))
    (and_piece _ _ (hex_piece_lem "reserved0 = " 3 w.reserved0 (omega arith)) no_piece))))))

module _ (h : RdhCru) (fits : InRange h) where
  rdh0_fits : Rdh0Fits h.rdh0
  unfolding span value
  rdh0_fits =
      record {
        id = omega (arith, fits header-id);
        size = omega (arith, fits header-size);
        priority = omega (arith, fits priority-bit);
        system = omega (arith, fits system-id);
        reserved = omega (arith, fits rdh0-reserved0);
      }

  rdh1_section : length (section "RDH1: " (rdh1_tests h.rdh1)) ≤ 37
  unfolding rdh1_tests span value
  rdh1_section =
      let n = h.rdh1.bc_reserved0.0 in
      under "RDH1: " _
      (and_piece _ _ (hex_piece_lem "reserved0 = " 4 (bc_reserved_of n) (omega arith))
      (and_piece _ _ (hex_piece_lem "BC = " 2 (bc_of n) (omega arith)) no_piece))

  rdh2_section : length (section "RDH2: " (rdh2_tests h.rdh2)) ≤ 83
  unfolding rdh2_tests span value
  rdh2_section =
      under "RDH2: " _
      (and_piece _ _ (hex_piece_lem "reserved0 = " 1 h.rdh2.reserved0 (omega (arith, fits rdh2-reserved0)))
      (and_piece _ _ (hex_piece_lem "stop bit = " 1 h.rdh2.stop_bit (omega (arith, fits stop-bit)))
      (and_piece _ _ (hex_piece_lem "Spare bits set in trigger_type = " 7 h.rdh2.trigger_type (omega (arith, fits trigger-type))) no_piece)))

  rdh3_section : length (section "RDH3: " (rdh3_tests h.rdh3)) ≤ 53
  unfolding rdh3_tests span value
  rdh3_section =
      under "RDH3: " _
      (and_piece _ _ (hex_piece_lem "reserved0 = " 3 h.rdh3.reserved0 (omega (arith, fits rdh3-reserved0)))
      (and_piece _ _ (hex_piece_lem "detector_field = " 7 h.rdh3.detector_field (omega (arith, fits detector-field))) no_piece))

  cru_pieces : length (pieces (cru_tests h)) ≤ 28
  unfolding cru_tests span value
  cru_pieces =
      and_piece _ _ (hex_piece_lem "dw = " 0 (dw_of h.cruid_dw.0) (omega arith))
      (and_piece _ _ (hex_piece_lem "data format = " 1 (data_format_of h.dataformat_reserved0.0) (omega arith)) no_piece)

  pub longest_text : (criteria : Criteria) → criteria.header_id < 256 → length (failure_text criteria h) ≤ 406
  unfolding failure_text
  longest_text criteria small =
      simp length-append
      (omega (arith, rdh0_section criteria h.rdh0 small rdh0_fits, rdh1_section, rdh2_section, rdh3_section, cru_pieces))
