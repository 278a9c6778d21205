-- The entry of a header over another recording: it may have another payload, E100 mark and byte place, and has all else as it was.
use Rattle.std.specs.Prelude.{ℕ, Bool, List}
use Rattle.basis.specs.Refusals.{Answer}
use Rattle.scan_cdp.specs.Answers.{Found}
use Rattle.scan_cdp.specs.Steps.{Entry, with_place}
use Rattle.scan_cdp.specs.declared.Marks.{Marks}

-- Marks with E100 or without it, and with all else as it was.
abbrev pub with_cut : Bool → Marks → Marks
with_cut cut m =
    record {
      initial = m.initial;
      seen_carry = m.seen_carry;
      filtered_carry = m.filtered_carry;
      payload_carry = m.payload_carry;
      payload_cut = cut;
    }

abbrev pub elsewhere : Answer (Found (List ℕ)) → (cut : Bool) → (place : ℕ) → Entry (List ℕ) → Entry (List ℕ)
elsewhere answer cut place e =
    record { answer = answer; marks = with_cut cut e.marks; state = with_place place e.state; fee_ids = e.fee_ids }
