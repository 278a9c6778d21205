-- Laws of the row: its columns, and its length.
use Rattle.std.specs.Prelude.{◌+◌, ◌≤◌, ◌≡◌, refl, length}
use Rattle.std.proofs.Common.{append_assoc, arith}
use Rattle.std.proofs.Math.ListN.{length-append}
use Rattle.rdh.specs.declared.rdh_cru.RdhCru.{RdhCru}
use Rattle.serde_rdh.specs.Layout.{InRange, span, value}
use Rattle.serde_rdh.specs.Layout.Field.{header-id, header-size, fee-id, system-id, offset-new-packet, link-id, packet-counter, orbit, trigger-type, pages-counter, stop-bit, detector-field}
use Rattle.rdh.specs.Subfields.{bc_of, data_format_of}
use Rattle.text_numbers.specs.Numerals.{hex}
use Rattle.text_numbers.specs.NumeralLaws.{decimal_column, hex_column, length-hex}
use Rattle.rdh_columns.specs.Columns.{columns_of, columns_text}
use Rattle.rdh_row.specs.Row.{rdh0_text, rdh1_text, rdh2_text, row_text}

-- the columns of a header are its row
pub columns_row : (h : RdhCru) → columns_text (columns_of h) ≡ row_text h
unfolding columns_of columns_text row_text rdh0_text rdh1_text rdh2_text
columns_row h = simp append_assoc refl

module _ (h : RdhCru) (fits : InRange h) where
  length_rdh0 : length (rdh0_text h.rdh0) ≡ 26
  unfolding rdh0_text span value
  length_rdh0 =
      let a = decimal_column 6 2 h.rdh0.header_id (omega (arith, fits header-id)) (omega arith) in
      let b = decimal_column 7 2 h.rdh0.header_size (omega (arith, fits header-size)) (omega arith) in
      let c = decimal_column 7 4 h.rdh0.fee_id.0 (omega (arith, fits fee-id)) (omega arith) in
      let d = decimal_column 6 2 h.rdh0.system_id (omega (arith, fits system-id)) (omega arith) in
      simp length-append (omega arith)

  length_rdh1 : length (rdh1_text h.rdh1) ≡ 17
  unfolding rdh1_text span value
  length_rdh1 =
      let a = decimal_column 5 3 (bc_of h.rdh1.bc_reserved0.0) (omega arith) (omega arith) in
      let b = hex_column 12 7 h.rdh1.orbit (omega (arith, fits orbit)) (omega arith) in
      simp length-append (omega arith)

  length_rdh2 : length (rdh2_text h.rdh2) ≡ 25
  unfolding rdh2_text span value
  length_rdh2 =
      let a = hex_column 10 7 h.rdh2.trigger_type (omega (arith, fits trigger-type)) (omega arith) in
      let b = decimal_column 9 4 h.rdh2.pages_counter (omega (arith, fits pages-counter)) (omega arith) in
      let c = decimal_column 5 2 h.rdh2.stop_bit (omega (arith, fits stop-bit)) (omega arith) in
      simp length-append (omega arith)

  -- every column has its width, so only the detector field makes rows differ in length
  pub length_row : length (row_text h) ≡ 104 + length (hex h.rdh3.detector_field)
  unfolding row_text span value
  length_row =
      let a = decimal_column 8 4 h.offset_new_packet (omega (arith, fits offset-new-packet)) (omega arith) in
      let b = decimal_column 6 2 h.link_id (omega (arith, fits link-id)) (omega arith) in
      let c = decimal_column 10 2 h.packet_counter (omega (arith, fits packet-counter)) (omega arith) in
      let d = decimal_column 11 2 (data_format_of h.dataformat_reserved0.0) (omega arith) (omega arith) in
      let e = length_rdh0 in
      let f = length_rdh1 in
      let g = length_rdh2 in
      simp length-append (omega arith)

  -- the longest row has 114 bytes (X3)
  pub longest_row : length (row_text h) ≤ 114
  unfolding span value
  longest_row = omega (arith, length_row, length-hex 7 h.rdh3.detector_field (omega (arith, fits detector-field)))
