-- What a call leaves says all that it replies.
use Rattle.std.specs.Prelude.{ℕ, ◌≤◌, Bool, false, List, ◌≡◌, length, Option, Result}
use Rattle.std.proofs.Common.{true≢false, sym, subst, arith}
use Rattle.basis.specs.Refusals.{Answer, gives, refuses}
use Rattle.scan_cdp.specs.Answers.{Found, examined_answer, handed, passed, wants}
use Rattle.scan_cdp.specs.Loads.{Loaded, is_passed, loaded, no_load_marks, replied}
use Rattle.scan_cdp.specs.Steps.{Entry}
use Rattle.scan_cdp.specs.declared.LoadCdp.{LoadCdp}
use Rattle.scan_cdp.specs.declared.Refusal.{Refusal}
use Rattle.scan_cdp.specs.declared.Part.{Part}
use Rattle.scan_laws.proofs.RunLaws.{loaded-answers}
use Rattle.doors_scan.specs.Doors.{Left, left_by, loaded_through}
use Rattle.doors_scan_structs.specs.Plain.{settings_of, state_of}
use Rattle.doors_scan_structs.specs.PlainLaws.{state_again}
use Rattle.doors_scan_reply.specs.Replies.{header_left, kind_packet, plain_answer}
use Rattle.doors_scan_reply.specs.ReplyLaws.{Writable, answer_again, marks_again, marks_of_one_again, read_answer, read_marks, read_one}
use Rattle.doors_scan_structs.specs.declared.PlainSettings.{PlainSettings}
use Rattle.doors_scan_structs.specs.declared.PlainState.{PlainState}

-- The reply of a load that is left ..
abbrev pub read_load : Left → Loaded Part
read_load l =
    record {
      answer = read_answer l.reply.answer l.header;
      marks = read_marks l.reply.marks;
      state = state_of l.reply.state l.links l.triggers;
      fee_ids = l.fee_ids;
    }

-- .. and that of an examination.
abbrev pub read_examination : Left → Entry Part
read_examination l =
    record {
      answer = read_answer l.reply.answer l.header;
      marks = read_one l.reply.marks;
      state = state_of l.reply.state l.links l.triggers;
      fee_ids = l.fee_ids;
    }

-- An answer of the code, with a header of the code if it has one, and a lent array for the header's bytes.
module _ (a : Result (Option LoadCdp) Refusal) (writable : Writable a) (header : List ℕ) (long : 64 ≤ length header) where
  read_back : (answer : Answer (Found Part)) → answer ≡ examined_answer a → read_answer (plain_answer answer) (header_left answer header) ≡ answer
  read_back answer is =
      subst (λ (x : Answer (Found Part)). read_answer (plain_answer x) (header_left x header) ≡ x) (sym is) (answer_again a header writable long)

  pub load_again : (l : Loaded Part) → l.answer ≡ examined_answer a → read_load (left_by l header) ≡ l
  load_again l is =
      λ i. record {
        answer = read_back l.answer is i;
        marks = marks_again l.marks i;
        state = state_again l.state i;
        fee_ids = l.fee_ids;
      }

  pub examination_again : (e : Entry Part) → e.answer ≡ examined_answer a → read_examination (left_by (replied no_load_marks e) header) ≡ e
  examination_again e is =
      λ i. record {
        answer = read_back e.answer is i;
        marks = marks_of_one_again e.marks i;
        state = state_again e.state i;
        fee_ids = e.fee_ids;
      }

-- The kind of an answer but passed is that of a packet, of a want or of a refusal ..
found_kind : (a : Answer (Found Part)) → is_passed a ≡ false → kind_packet ≤ (plain_answer a).kind
found_kind (gives passed) e = absurd (true≢false e)
found_kind (gives (handed p)) e = omega arith
found_kind (gives (wants place size)) e = omega arith
found_kind (refuses number values) e = omega arith

-- .. and a load has no other.
pub never_passed : (settings : PlainSettings) (state : PlainState) (links triggers fee_ids w : List ℕ) (first : ℕ) (last : Bool) (header : List ℕ)
    → kind_packet ≤ (loaded_through settings state links triggers fee_ids w first last header).reply.answer.kind
unfolding loaded_through
never_passed settings state links triggers fee_ids w first last header =
    let set = settings_of settings in
    let s = state_of state links triggers in
    found_kind (loaded set s fee_ids w first last).answer (loaded-answers set s fee_ids w first last)
