-- The 64 bytes of a header as a table, and what follows from the table: the header that bytes hold, the bytes that a header is, and
-- what decoding and encoding answer (B, R9).
use Rattle.std.specs.Prelude.{◌≡◌, Bool, true, ◌↔◌, List, [], ◌∷◌, ◌++◌, ℕ, ◌+◌, ◌<◌, ◌^◌, ltb, length, drop}
use Rattle.basis.specs.Bytes.{bytes_of, number_at}
use Rattle.basis.specs.Pick.{pick}
use Rattle.basis.specs.Refusals.{Answer, gives, refuses}
use Rattle.rdh.specs.declared.rdh_cru.RdhCru.{RdhCru}

-- The fields of a header, first byte first, a line for each word of eight bytes.
pub data Field : Type 0 where
  header-id header-size fee-id priority-bit system-id rdh0-reserved0 : Field
  offset-new-packet memory-size link-id packet-counter cruid-dw : Field
  bc-reserved0 orbit : Field
  dataformat-reserved0 : Field
  trigger-type pages-counter stop-bit rdh2-reserved0 : Field
  reserved1 : Field
  detector-field par-bit rdh3-reserved0 : Field
  reserved2 : Field

abbrev pub fields : List Field
fields =
    header-id ∷ header-size ∷ fee-id ∷ priority-bit ∷ system-id ∷ rdh0-reserved0
    ∷ offset-new-packet ∷ memory-size ∷ link-id ∷ packet-counter ∷ cruid-dw
    ∷ bc-reserved0 ∷ orbit
    ∷ dataformat-reserved0
    ∷ trigger-type ∷ pages-counter ∷ stop-bit ∷ rdh2-reserved0
    ∷ reserved1
    ∷ detector-field ∷ par-bit ∷ rdh3-reserved0
    ∷ reserved2 ∷ []

-- The bytes of a field: the first one, and how many there are.
pub record Span : Type 0 where
  pub offset : ℕ
  pub width : ℕ

abbrev pub at : ℕ → ℕ → Span
at offset width = record { offset = offset; width = width }

-- The table of B2: where each field starts, and how many bytes it has. What shares a number in the header's structs is one field here.
unfoldable pub span : Field → Span
span header-id = at 0 1
span header-size = at 1 1
span fee-id = at 2 2
span priority-bit = at 4 1
span system-id = at 5 1
span rdh0-reserved0 = at 6 2
span offset-new-packet = at 8 2
span memory-size = at 10 2
span link-id = at 12 1
span packet-counter = at 13 1
span cruid-dw = at 14 2
span bc-reserved0 = at 16 4
span orbit = at 20 4
span dataformat-reserved0 = at 24 8
span trigger-type = at 32 4
span pages-counter = at 36 2
span stop-bit = at 38 1
span rdh2-reserved0 = at 39 1
span reserved1 = at 40 8
span detector-field = at 48 4
span par-bit = at 52 2
span rdh3-reserved0 = at 54 2
span reserved2 = at 56 8

-- The fields stand side by side from byte `first` on, up to byte `end`: no byte between lies in no field, or in two.
abbrev pub Tiles : ℕ → List Field → ℕ → Type 0
Tiles first [] end = first ≡ end
Tiles first (f ∷ fs) end = ((span f).offset ≡ first) × Tiles (first + (span f).width) fs end

-- The number that a header has in a field.
unfoldable pub value : Field → RdhCru → ℕ
value header-id h = h.rdh0.header_id
value header-size h = h.rdh0.header_size
value fee-id h = h.rdh0.fee_id.0
value priority-bit h = h.rdh0.priority_bit
value system-id h = h.rdh0.system_id
value rdh0-reserved0 h = h.rdh0.reserved0
value offset-new-packet h = h.offset_new_packet
value memory-size h = h.memory_size
value link-id h = h.link_id
value packet-counter h = h.packet_counter
value cruid-dw h = h.cruid_dw.0
value bc-reserved0 h = h.rdh1.bc_reserved0.0
value orbit h = h.rdh1.orbit
value dataformat-reserved0 h = h.dataformat_reserved0.0
value trigger-type h = h.rdh2.trigger_type
value pages-counter h = h.rdh2.pages_counter
value stop-bit h = h.rdh2.stop_bit
value rdh2-reserved0 h = h.rdh2.reserved0
value reserved1 h = h.reserved1
value detector-field h = h.rdh3.detector_field
value par-bit h = h.rdh3.par_bit
value rdh3-reserved0 h = h.rdh3.reserved0
value reserved2 h = h.reserved2

-- The header that has a given number in each field.
unfoldable pub header : (Field → ℕ) → RdhCru
header n =
    record {
      rdh0 = record {
        header_id = n header-id;
        header_size = n header-size;
        fee_id = record { 0 = n fee-id };
        priority_bit = n priority-bit;
        system_id = n system-id;
        reserved0 = n rdh0-reserved0;
      };
      offset_new_packet = n offset-new-packet;
      memory_size = n memory-size;
      link_id = n link-id;
      packet_counter = n packet-counter;
      cruid_dw = record { 0 = n cruid-dw };
      rdh1 = record { bc_reserved0 = record { 0 = n bc-reserved0 }; orbit = n orbit };
      dataformat_reserved0 = record { 0 = n dataformat-reserved0 };
      rdh2 = record {
        trigger_type = n trigger-type;
        pages_counter = n pages-counter;
        stop_bit = n stop-bit;
        reserved0 = n rdh2-reserved0;
      };
      reserved1 = n reserved1;
      rdh3 = record { detector_field = n detector-field; par_bit = n par-bit; reserved0 = n rdh3-reserved0 };
      reserved2 = n reserved2;
    }

-- The number in a field's bytes (B1).
abbrev pub number : List ℕ → Field → ℕ
number s f = number_at s (span f).offset (span f).width

-- The header that bytes hold. No field reaches behind the first 64 of them (B4).
unfoldable pub decoded : List ℕ → RdhCru
decoded s = header (number s)

-- The bytes of some fields of a header, in a row.
unfoldable pub bytes_in : List Field → RdhCru → List ℕ
bytes_in [] h = []
bytes_in (f ∷ fs) h = bytes_of (span f).width (value f h) ++ bytes_in fs h

-- The bytes of a header: those of its fields in the table's order.
abbrev pub encoded : RdhCru → List ℕ
encoded h = bytes_in fields h

-- Every number of the header is one that its field's bytes can hold, as is so of each header in the code.
abbrev pub InRange : RdhCru → Type 0
InRange h = (f : Field) → value f h < 256 ^ (span f).width

-- What decoding answers: refusal 9 to fewer than 64 bytes, or the header (B4, R9).
unfoldable pub decode : List ℕ → Answer RdhCru
decode s = pick (ltb (length s) 64) (refuses 9 []) (gives (decoded s))

-- What encoding answers for a lent buffer l: the same refusal, or that the header was written (B4, R9).
unfoldable pub encode : List ℕ → Answer Unit
encode l = pick (ltb (length l) 64) (refuses 9 []) (gives tt)

-- What the buffer then holds: the header, and what was behind the first 64 bytes; with the refusal all that it held (B4, R9).
unfoldable pub encoded_into : RdhCru → List ℕ → List ℕ
encoded_into h l = pick (ltb (length l) 64) l (encoded h ++ drop 64 l)

-- What equality answers (B6): true exactly when the two headers have the same bytes, which is exactly when they are the same header.
pub record Equal (a b : RdhCru) (answer : Bool) : Type 0 where
  pub by_bytes : (answer ≡ true) ↔ (encoded a ≡ encoded b)
  pub as_headers : (answer ≡ true) ↔ (a ≡ b)
