-- The reply of a call, as structs that C has too.
use Rattle.std.specs.Prelude.{ℕ, List, [], ◌∷◌, ℤ, nat_abs, pos, Option}
use Rattle.std.specs.Option.{is_some, unwrap_or}
use Rattle.basis.specs.Refusals.{Answer, gives, refuses}
use Rattle.serde_rdh.specs.Layout.{encoded_into}
use Rattle.scan_cdp.specs.Answers.{Found, handed, passed, refusal, wants}
use Rattle.scan_cdp.specs.declared.Initial.{Initial}
use Rattle.scan_cdp.specs.declared.LoadMarks.{LoadMarks}
use Rattle.scan_cdp.specs.declared.Part.{Part}
use Rattle.scan_cdp.specs.declared.Progress.{Progress}
use Rattle.scan_cdp.specs.declared.Refusal.{Refusal}
use Rattle.doors_scan_structs.specs.Plain.{plain_state}
use Rattle.doors_scan_reply.specs.declared.PlainAnswer.{PlainAnswer}
use Rattle.doors_scan_reply.specs.declared.PlainMarks.{PlainMarks}
use Rattle.doors_scan_reply.specs.declared.PlainReply.{PlainReply}

-- ---- the answer

-- The kinds of an answer.
abbrev pub kind_passed : ℕ
kind_passed = 0

abbrev pub kind_packet : ℕ
kind_packet = 1

abbrev pub kind_want : ℕ
kind_want = 2

abbrev pub kind_refused : ℕ
kind_refused = 3

-- An answer of a kind, with what kinds have: a position; a packet's own; place and size of a want; start and length of a payload; number
-- and distance of a refusal.
abbrev pub answer_with : (kind position own place size start length number : ℕ) → (distance : ℤ) → PlainAnswer
answer_with kind position own place size start length number distance =
    record {
      position = position;
      own = own;
      want_place = place;
      want_size = size;
      payload_start = start;
      payload_length = length;
      kind = kind;
      refusal = number;
      distance = distance;
    }

-- A refusal by its number, with a distance and a position.
abbrev pub refused_with : ℕ → ℤ → ℕ → PlainAnswer
refused_with number distance position = answer_with kind_refused position 0 0 0 0 0 number distance

-- The first and the second value of a refusal, 0 where it has none.
abbrev pub first_of : List ℤ → ℤ
first_of [] = pos 0
first_of (v ∷ vs) = v

abbrev pub second_of : List ℤ → ℤ
second_of [] = pos 0
second_of (v ∷ vs) = first_of vs

-- C's struct for an answer: its kind, and what that kind has; all else is 0.
abbrev pub plain_answer : Answer (Found Part) → PlainAnswer
plain_answer (gives passed) = answer_with kind_passed 0 0 0 0 0 0 0 (pos 0)
plain_answer (gives (handed p)) = answer_with kind_packet p.position.0 p.own.0 0 0 p.payload.start p.payload.length 0 (pos 0)
plain_answer (gives (wants place size)) = answer_with kind_want 0 0 place.0 size 0 0 0 (pos 0)
plain_answer (refuses number values) = refused_with number (first_of values) (nat_abs (second_of values))

abbrev pub refusal_answer : Refusal → PlainAnswer
refusal_answer why = plain_answer (refusal why)

-- ---- the marks

-- The three values of an initial mark, 0 where there is none.
abbrev pub initial_or0 : Option Initial → Initial
initial_or0 initial = unwrap_or initial (record { trigger_type = 0; data_format = 0; system_id = 0 })

-- C's struct for the marks of a call.
abbrev pub plain_marks : LoadMarks → PlainMarks
plain_marks m =
    record {
      seen_carries = m.seen_carries;
      trigger_type = (initial_or0 m.initial).trigger_type;
      data_format = (initial_or0 m.initial).data_format;
      system_id = (initial_or0 m.initial).system_id;
      initial = is_some m.initial;
      filtered_carry = m.filtered_carry;
      payload_carry = m.payload_carry;
      payload_cut = m.payload_cut;
    }

-- ---- the reply

-- C's struct for a reply.
abbrev pub reply_of : Answer (Found Part) → LoadMarks → Progress → PlainReply
reply_of a m p = record { answer = plain_answer a; marks = plain_marks m; state = plain_state p }

-- The header of a packet is written; any other answer leaves what was there.
abbrev pub header_left : Answer (Found Part) → List ℕ → List ℕ
header_left (gives passed) bytes = bytes
header_left (gives (handed p)) bytes = encoded_into p.header bytes
header_left (gives (wants place size)) bytes = bytes
header_left (refuses number values) bytes = bytes
