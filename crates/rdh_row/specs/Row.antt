-- The row that Rust's `Display` writes of a header (X3). A column is filled with blanks up to its width, and a longer value runs into the
-- next; there is no blank at the end.
use Rattle.std.specs.Prelude.{ℕ, List, ◌++◌}
use Rattle.rdh.specs.declared.rdh0.Rdh0.{Rdh0}
use Rattle.rdh.specs.declared.rdh1.Rdh1.{Rdh1}
use Rattle.rdh.specs.declared.rdh2.Rdh2.{Rdh2}
use Rattle.rdh.specs.declared.rdh_cru.RdhCru.{RdhCru}
use Rattle.rdh.specs.Subfields.{bc_of, data_format_of}
use Rattle.text.specs.Ascii.{ascii}
use Rattle.text_numbers.specs.Numerals.{decimal, hex, left}

-- `Display for Rdh0`: "{:<6}{:<7}{:<7}{:<6}" of header ID, header size, FEE id and system id.
unfoldable pub rdh0_text : Rdh0 → List ℕ
rdh0_text w =
    left 6 (decimal w.header_id)
    ++ left 7 (decimal w.header_size)
    ++ left 7 (decimal w.fee_id.0)
    ++ left 6 (decimal w.system_id)

-- `Display for Rdh1`: "{:<5}{:<12}" of BC and orbit.
unfoldable pub rdh1_text : Rdh1 → List ℕ
rdh1_text w = left 5 (decimal (bc_of w.bc_reserved0.0)) ++ left 12 (hex w.orbit)

-- `Display for Rdh2`: "{:<10}{:<9}{:<5} " of trigger type, pages counter and stop bit.
unfoldable pub rdh2_text : Rdh2 → List ℕ
rdh2_text w =
    left 10 (hex w.trigger_type)
    ++ left 9 (decimal w.pages_counter)
    ++ left 5 (decimal w.stop_bit)
    ++ ascii " "

-- `Display for RdhCru`: RDH0, "{:<8}{:<6}{:<10}" of offset, link and packet counter, RDH1, "{:<11}" of the data format, RDH2, a blank,
-- and the detector field.
unfoldable pub row_text : RdhCru → List ℕ
row_text h =
    rdh0_text h.rdh0
    ++ left 8 (decimal h.offset_new_packet)
    ++ left 6 (decimal h.link_id)
    ++ left 10 (decimal h.packet_counter)
    ++ rdh1_text h.rdh1
    ++ left 11 (decimal (data_format_of h.dataformat_reserved0.0))
    ++ rdh2_text h.rdh2
    ++ ascii " "
    ++ hex h.rdh3.detector_field
