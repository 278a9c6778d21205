-- What C's structs for a header and for the reply of a text mean.
use Rattle.std.specs.Prelude.{ℕ, List, [], ◌∷◌, eqb, ℤ, nat_abs, pos}
use Rattle.basis.specs.Pick.{pick}
use Rattle.basis.specs.Refusals.{Answer, gives, refuses}
use Rattle.rdh.specs.declared.rdh_cru.RdhCru.{RdhCru}
use Rattle.doors_header_structs.specs.declared.plain.PlainHeader.{PlainHeader}
use Rattle.doors_header_structs.specs.declared.plain.PlainText.{PlainText}

-- The header that C's struct is: each field is the one of its name.
abbrev pub header_of : PlainHeader → RdhCru
header_of n =
    record {
      rdh0 = record {
        header_id = n.header_id;
        header_size = n.header_size;
        fee_id = record { 0 = n.fee_id };
        priority_bit = n.priority_bit;
        system_id = n.system_id;
        reserved0 = n.rdh0_reserved0;
      };
      offset_new_packet = n.offset_new_packet;
      memory_size = n.memory_size;
      link_id = n.link_id;
      packet_counter = n.packet_counter;
      cruid_dw = record { 0 = n.cruid_dw };
      rdh1 = record { bc_reserved0 = record { 0 = n.bc_reserved0 }; orbit = n.orbit };
      dataformat_reserved0 = record { 0 = n.dataformat_reserved0 };
      rdh2 = record {
        trigger_type = n.trigger_type;
        pages_counter = n.pages_counter;
        stop_bit = n.stop_bit;
        reserved0 = n.rdh2_reserved0;
      };
      reserved1 = n.reserved1;
      rdh3 = record { detector_field = n.detector_field; par_bit = n.par_bit; reserved0 = n.rdh3_reserved0 };
      reserved2 = n.reserved2;
    }

-- C's struct for a header.
abbrev pub plain_header : RdhCru → PlainHeader
plain_header h =
    record {
      header_id = h.rdh0.header_id;
      header_size = h.rdh0.header_size;
      fee_id = h.rdh0.fee_id.0;
      priority_bit = h.rdh0.priority_bit;
      system_id = h.rdh0.system_id;
      rdh0_reserved0 = h.rdh0.reserved0;
      offset_new_packet = h.offset_new_packet;
      memory_size = h.memory_size;
      link_id = h.link_id;
      packet_counter = h.packet_counter;
      cruid_dw = h.cruid_dw.0;
      bc_reserved0 = h.rdh1.bc_reserved0.0;
      orbit = h.rdh1.orbit;
      dataformat_reserved0 = h.dataformat_reserved0.0;
      trigger_type = h.rdh2.trigger_type;
      pages_counter = h.rdh2.pages_counter;
      stop_bit = h.rdh2.stop_bit;
      rdh2_reserved0 = h.rdh2.reserved0;
      reserved1 = h.reserved1;
      detector_field = h.rdh3.detector_field;
      par_bit = h.rdh3.par_bit;
      rdh3_reserved0 = h.rdh3.reserved0;
      reserved2 = h.reserved2;
    }

-- The number of a refusal, and 0 where there is none.
abbrev pub refusal_of : {A : Type 0} → Answer A → ℕ
refusal_of (gives a) = 0
refusal_of (refuses number values) = number

-- The first value of a refusal as a length, and 0 where it has none.
abbrev pub length_needed : List ℤ → ℕ
length_needed [] = 0
length_needed (v ∷ vs) = nat_abs v

-- The reply of a text: the length written, or the refusal with the length needed.
abbrev pub plain_written : Answer ℕ → PlainText
plain_written (gives n) = record { length = n; refusal = 0 }
plain_written (refuses number values) = record { length = length_needed values; refusal = number }

-- What the reply of a text says.
abbrev pub written_of : PlainText → Answer ℕ
written_of n = pick (eqb n.refusal 0) (gives n.length) (refuses n.refusal (pos n.length ∷ []))
