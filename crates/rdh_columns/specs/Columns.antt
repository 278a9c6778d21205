-- The row as one list of columns: what `rdh_row`'s definitions say word by word, with the values taken out of the header first.
use Rattle.std.specs.Prelude.{ℕ, List, ◌++◌}
use Rattle.rdh.specs.declared.rdh_cru.RdhCru.{RdhCru}
use Rattle.rdh.specs.Subfields.{bc_of, data_format_of}
use Rattle.text.specs.Ascii.{ascii}
use Rattle.text_numbers.specs.Numerals.{decimal, hex, left}
use Rattle.rdh_columns.specs.declared.Columns.{Columns}

unfoldable pub columns_of : RdhCru → Columns
columns_of h = record {
  header_id = h.rdh0.header_id;
  header_size = h.rdh0.header_size;
  fee_id = h.rdh0.fee_id.0;
  system_id = h.rdh0.system_id;
  offset_new_packet = h.offset_new_packet;
  link_id = h.link_id;
  packet_counter = h.packet_counter;
  bc = bc_of h.rdh1.bc_reserved0.0;
  orbit = h.rdh1.orbit;
  data_format = data_format_of h.dataformat_reserved0.0;
  trigger_type = h.rdh2.trigger_type;
  pages_counter = h.rdh2.pages_counter;
  stop_bit = h.rdh2.stop_bit;
  detector_field = h.rdh3.detector_field;
}

unfoldable pub columns_text : Columns → List ℕ
columns_text c =
    left 6 (decimal c.header_id)
    ++ left 7 (decimal c.header_size)
    ++ left 7 (decimal c.fee_id)
    ++ left 6 (decimal c.system_id)
    ++ left 8 (decimal c.offset_new_packet)
    ++ left 6 (decimal c.link_id)
    ++ left 10 (decimal c.packet_counter)
    ++ left 5 (decimal c.bc)
    ++ left 12 (hex c.orbit)
    ++ left 11 (decimal c.data_format)
    ++ left 10 (hex c.trigger_type)
    ++ left 9 (decimal c.pages_counter)
    ++ left 5 (decimal c.stop_bit)
    ++ ascii " "
    ++ ascii " "
    ++ hex c.detector_field
