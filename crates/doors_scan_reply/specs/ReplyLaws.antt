-- Replies come back as they went: what C's structs and the header's bytes hold says all of an answer and of the marks.
use Rattle.std.specs.Prelude.{ℕ, ◌+◌, ◌≤◌, Bool, true, false, ◌≡◌, refl, List, [], ◌∷◌, ◌++◌, eqb, ℤ, pos, length, drop, Option, None, Some, Result, Ok, Err}
use Rattle.std.specs.Bool.{then_some}
use Rattle.std.specs.Option.{is_some}
use Rattle.std.proofs.Common.{ap, ◌∙◌, le-ltb}
use Rattle.basis.specs.Pick.{pick}
use Rattle.basis.specs.PickLaws.{off}
use Rattle.basis.specs.Refusals.{Answer, gives, refuses}
use Rattle.rdh.specs.declared.rdh_cru.RdhCru.{RdhCru}
use Rattle.serde_rdh.specs.Layout.{InRange, decoded, encoded, encoded_into}
use Rattle.serde_rdh.proofs.LayoutLaws.{decoded-encoded}
use Rattle.scan_cdp.specs.Answers.{Found, examined_answer, handed, passed, refusal, wants}
use Rattle.scan_cdp.specs.Loads.{no_load_marks, together}
use Rattle.scan_cdp.specs.declared.Initial.{Initial}
use Rattle.scan_cdp.specs.declared.LoadCdp.{LoadCdp}
use Rattle.scan_cdp.specs.declared.LoadCdp.TheVariants as Loads
use Rattle.scan_cdp.specs.declared.LoadMarks.{LoadMarks}
use Rattle.scan_cdp.specs.declared.Marks.{Marks}
use Rattle.scan_cdp.specs.declared.Part.{Part}
use Rattle.scan_cdp.specs.declared.Refusal.{Refusal}
use Rattle.scan_cdp.specs.declared.Refusal.TheVariants.{End, FeeIdsFull, MemorySize, OffsetToNext, Unusable}
use Rattle.doors_scan_structs.specs.PlainLaws.{given_again}
use Rattle.doors_scan_reply.specs.Replies.{header_left, initial_or0, kind_packet, kind_passed, kind_want, plain_answer, plain_marks}
use Rattle.doors_scan_reply.specs.declared.PlainAnswer.{PlainAnswer}
use Rattle.doors_scan_reply.specs.declared.PlainMarks.{PlainMarks}

-- ---- the answer

-- The values of a refusal: distance and position with 2, none with another.
abbrev pub values_in : PlainAnswer → List ℤ
values_in n = pick (eqb n.refusal 2) (n.distance ∷ pos n.position ∷ []) []

-- The answer that C's struct and the header's bytes say.
abbrev pub read_answer : PlainAnswer → List ℕ → Answer (Found Part)
read_answer n header =
    pick (eqb n.kind kind_passed) (gives passed)
    (pick (eqb n.kind kind_packet)
    (gives (handed (record {
      header = decoded header;
      payload = record { start = n.payload_start; length = n.payload_length };
      position = record { 0 = n.position };
      own = record { 0 = n.own };
    })))
    (pick (eqb n.kind kind_want) (gives (wants (record { 0 = n.want_place }) n.want_size))
    (refuses n.refusal (values_in n))))

-- A packet's header is one that 64 bytes can hold, as is so of each header in the code.
abbrev pub Writable : Result (Option LoadCdp) Refusal → Type 0
Writable (Ok None) = Unit
Writable (Ok (Some (Loads.Packet packet))) = InRange packet.rdh
Writable (Ok (Some (Loads.Want place size))) = Unit
Writable (Err why) = Unit

header_again : (h : RdhCru) (bytes : List ℕ) → InRange h → 64 ≤ length bytes → decoded (encoded_into h bytes) ≡ h
unfolding encoded_into
header_again h bytes fits long =
    ap decoded (off bytes (encoded h ++ drop 64 bytes) (le-ltb _ _ long)) ∙ decoded-encoded h fits (drop 64 bytes)

refusal_again : (why : Refusal) (header : List ℕ) → read_answer (plain_answer (refusal why)) header ≡ refusal why
refusal_again End header = refl
refusal_again (OffsetToNext distance position) header = refl
refusal_again MemorySize header = refl
refusal_again FeeIdsFull header = refl
refusal_again Unusable header = refl

-- Whatever a call answers can be read back.
pub answer_again : (a : Result (Option LoadCdp) Refusal) (bytes : List ℕ) → Writable a → 64 ≤ length bytes
    → read_answer (plain_answer (examined_answer a)) (header_left (examined_answer a) bytes) ≡ examined_answer a
answer_again (Ok None) bytes fits long = refl
answer_again (Ok (Some (Loads.Packet packet))) bytes fits long =
    ap (λ (h : RdhCru). gives (handed (record { header = h; payload = packet.payload; position = packet.position; own = packet.own })))
    (header_again packet.rdh bytes fits long)
answer_again (Ok (Some (Loads.Want place size))) bytes fits long = refl
answer_again (Err why) bytes fits long = refusal_again why bytes

-- ---- the marks

-- The marks that C's struct says: of a load ..
abbrev pub initial_in : PlainMarks → Option Initial
initial_in n = then_some n.initial (record { trigger_type = n.trigger_type; data_format = n.data_format; system_id = n.system_id })

abbrev pub read_marks : PlainMarks → LoadMarks
read_marks n =
    record {
      initial = initial_in n;
      seen_carries = n.seen_carries;
      filtered_carry = n.filtered_carry;
      payload_carry = n.payload_carry;
      payload_cut = n.payload_cut;
    }

-- .. and of an examination.
abbrev pub read_one : PlainMarks → Marks
read_one n =
    record {
      initial = initial_in n;
      seen_carry = eqb n.seen_carries 1;
      filtered_carry = n.filtered_carry;
      payload_carry = n.payload_carry;
      payload_cut = n.payload_cut;
    }

pub marks_again : (m : LoadMarks) → read_marks (plain_marks m) ≡ m
marks_again m =
    λ i. record {
      initial = given_again m.initial (initial_or0 None) i;
      seen_carries = m.seen_carries;
      filtered_carry = m.filtered_carry;
      payload_carry = m.payload_carry;
      payload_cut = m.payload_cut;
    }

carry_again : (carry : Bool) → eqb (pick carry (0 + 1) 0) 1 ≡ carry
carry_again true = refl
carry_again false = refl

pub marks_of_one_again : (m : Marks) → read_one (plain_marks (together no_load_marks m)) ≡ m
unfolding together
marks_of_one_again m =
    λ i. record {
      initial = given_again m.initial (initial_or0 None) i;
      seen_carry = carry_again m.seen_carry i;
      filtered_carry = m.filtered_carry;
      payload_carry = m.payload_carry;
      payload_cut = m.payload_cut;
    }

initial_again : (i : Option Initial)
    → then_some (is_some i)
    (record {
      trigger_type = (initial_or0 i).trigger_type;
      data_format = (initial_or0 i).data_format;
      system_id = (initial_or0 i).system_id;
    })
    ≡ i
initial_again i = given_again i (initial_or0 None)
