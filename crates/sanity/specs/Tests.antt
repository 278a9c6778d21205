-- The tests of a header in their order, each with its condition and the piece of text that names its failure, as the Rust writes it (V4).
use Rattle.std.specs.Prelude.{ℕ, Bool, false, not, ◌||◌, ◌&&◌, List, [], ◌∷◌, ◌++◌, eqb, ltb}
use Prim.Native.String.{String}
use Rattle.std.specs.Int.Bits.{bit_and}
use Rattle.basis.specs.Bits.{bits}
use Rattle.basis.specs.Pick.{pick}
use Rattle.its.specs.FeeIds.{highest_layer, highest_stave}
use Rattle.rdh.specs.declared.rdh0.Rdh0.{Rdh0}
use Rattle.rdh.specs.declared.rdh1.Rdh1.{Rdh1}
use Rattle.rdh.specs.declared.rdh2.Rdh2.{Rdh2}
use Rattle.rdh.specs.declared.rdh3.Rdh3.{Rdh3}
use Rattle.rdh.specs.declared.rdh_cru.RdhCru.{RdhCru}
use Rattle.rdh.specs.Subfields.{bc_of, bc_reserved_of, data_format_of, dw_of, layer_of, stave_of}
use Rattle.sanity.specs.declared.Criteria.{Criteria}
use Rattle.text.specs.Ascii.{ascii}
use Rattle.text_numbers.specs.Numerals.{decimal, hex}

-- A test: whether it fails, and the piece of text that then names the failure.
pub record Test : Type 0 where
  pub fails : Bool
  pub piece : List ℕ

abbrev pub test : Bool → List ℕ → Test
test fails piece = record { fails = fails; piece = piece }

-- `{label}{n:#x} ` and `{label}{n} `
abbrev pub hex_piece : String → ℕ → List ℕ
hex_piece label n = ascii label ++ hex n ++ ascii " "

abbrev pub decimal_piece : String → ℕ → List ℕ
decimal_piece label n = ascii label ++ decimal n ++ ascii " "

-- Whether any of the tests fails.
unfoldable pub any_fails : List Test → Bool
any_fails [] = false
any_fails (t ∷ ts) = t.fails || any_fails ts

-- The piece of a test if it fails.
abbrev pub piece_of : Test → List ℕ
piece_of t = pick t.fails t.piece []

-- The pieces of the tests that fail, in their order.
unfoldable pub pieces : List Test → List ℕ
pieces [] = []
pieces (t ∷ ts) = piece_of t ++ pieces ts

-- The pieces under their word's heading, where there are any.
abbrev pub section : String → List Test → List ℕ
section heading ts = pick (any_fails ts) (ascii heading ++ pieces ts) []

-- The tests of a FEE id: no bit of 0x8CC0; no stave and no layer above the highest (V4).
abbrev pub reserved_bits_test : ℕ → Test
reserved_bits_test n = test (not (eqb n 0)) (hex_piece "reserved bits = " n)

abbrev pub stave_test : ℕ → Test
stave_test n = test (ltb highest_stave n) (decimal_piece "stave number = " n)

abbrev pub layer_test : ℕ → Test
layer_test n = test (ltb highest_layer n) (decimal_piece "layer = " n)

unfoldable pub fee_id_tests : ℕ → List Test
fee_id_tests fee = reserved_bits_test (bit_and fee 0x8CC0) ∷ stave_test (stave_of fee) ∷ layer_test (layer_of fee) ∷ []

-- The tests of RDH0 (V4): the header ID is the one that the header is held to; the size is 64; those of the FEE id; the priority bit is 0;
-- the system id is 32, tested with ITS alone; and, as in each word, the reserved part is 0.
abbrev pub header_id_test : Criteria → ℕ → Test
header_id_test criteria n =
    test (not (eqb n criteria.header_id))
    (ascii "Header ID = " ++ decimal n ++ ascii " (expected " ++ decimal criteria.header_id ++ ascii ")")

abbrev pub header_size_test : ℕ → Test
header_size_test n = test (not (eqb n 64)) (hex_piece "Header size = " n)

abbrev pub fee_id_test : ℕ → Test
fee_id_test fee = test (any_fails (fee_id_tests fee)) (ascii "FEE ID = [" ++ pieces (fee_id_tests fee) ++ ascii "] ")

abbrev pub priority_bit_test : ℕ → Test
priority_bit_test n = test (not (eqb n 0)) (hex_piece "Priority bit = " n)

abbrev pub system_id_test : Criteria → ℕ → Test
system_id_test criteria n = test (criteria.its && not (eqb n 32)) (hex_piece "system_id = " n)

abbrev pub reserved0_test : ℕ → Test
reserved0_test n = test (not (eqb n 0)) (hex_piece "reserved0 = " n)

unfoldable pub rdh0_tests : Criteria → Rdh0 → List Test
rdh0_tests criteria w =
    header_id_test criteria w.header_id
    ∷ header_size_test w.header_size
    ∷ fee_id_test w.fee_id.0
    ∷ priority_bit_test w.priority_bit
    ∷ system_id_test criteria w.system_id
    ∷ reserved0_test w.reserved0
    ∷ []

-- The tests of RDH1: BC is at most 0xdeb (V4).
abbrev pub bc_test : ℕ → Test
bc_test n = test (ltb 0xdeb n) (hex_piece "BC = " n)

unfoldable pub rdh1_tests : Rdh1 → List Test
rdh1_tests w = reserved0_test (bc_reserved_of w.bc_reserved0.0) ∷ bc_test (bc_of w.bc_reserved0.0) ∷ []

-- The tests of RDH2: the stop bit is at most 1; the trigger type is not 0, and has no bit of 15 to 26 (V4).
abbrev pub stop_bit_test : ℕ → Test
stop_bit_test n = test (ltb 1 n) (hex_piece "stop bit = " n)

abbrev pub trigger_type_test : ℕ → Test
trigger_type_test n = test (eqb n 0 || not (eqb (bits 15 26 n) 0)) (hex_piece "Spare bits set in trigger_type = " n)

unfoldable pub rdh2_tests : Rdh2 → List Test
rdh2_tests w = reserved0_test w.reserved0 ∷ stop_bit_test w.stop_bit ∷ trigger_type_test w.trigger_type ∷ []

-- The tests of RDH3: the detector field has no bit of 12 to 23 (V4).
abbrev pub detector_field_test : ℕ → Test
detector_field_test n = test (not (eqb (bits 12 23 n) 0)) (hex_piece "detector_field = " n)

unfoldable pub rdh3_tests : Rdh3 → List Test
rdh3_tests w = reserved0_test w.reserved0 ∷ detector_field_test w.detector_field ∷ []

-- The tests of what stands under no word: dw is at most 1; the data format is at most 2 (V4).
abbrev pub dw_test : ℕ → Test
dw_test n = test (ltb 1 n) (hex_piece "dw = " n)

abbrev pub data_format_test : ℕ → Test
data_format_test n = test (ltb 2 n) (hex_piece "data format = " n)

unfoldable pub cru_tests : RdhCru → List Test
cru_tests h = dw_test (dw_of h.cruid_dw.0) ∷ data_format_test (data_format_of h.dataformat_reserved0.0) ∷ []

-- All tests there are (V3).
unfoldable pub all_tests : Criteria → RdhCru → List Test
all_tests criteria h =
    rdh0_tests criteria h.rdh0 ++ rdh1_tests h.rdh1 ++ rdh2_tests h.rdh2 ++ rdh3_tests h.rdh3 ++ cru_tests h

-- A header is sound if none fails (V3).
unfoldable pub sound : Criteria → RdhCru → Bool
sound criteria h = not (any_fails (all_tests criteria h))

-- The text that names the failures in their order, each word's under its heading (V5).
unfoldable pub failure_text : Criteria → RdhCru → List ℕ
failure_text criteria h =
    ascii "[E10] RDH sanity check failed: "
    ++ section "RDH0: " (rdh0_tests criteria h.rdh0)
    ++ section "RDH1: " (rdh1_tests h.rdh1)
    ++ section "RDH2: " (rdh2_tests h.rdh2)
    ++ section "RDH3: " (rdh3_tests h.rdh3)
    ++ pieces (cru_tests h)

-- A sound header has an empty text (V5).
unfoldable pub text_of_verdict : Criteria → RdhCru → List ℕ
text_of_verdict criteria h = pick (sound criteria h) [] (failure_text criteria h)
