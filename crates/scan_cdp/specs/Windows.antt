-- One examination on a window: the step on what the window shows, or a want where the recording may go on behind it (W5 to W9).
use Rattle.std.specs.Prelude.{ℕ, ◌+◌, ◌-◌, Bool, not, ◌||◌, ◌&&◌, List, [], eqb, ltb, length, take, drop}
use Rattle.basis.specs.Pick.{pick}
use Rattle.basis.specs.Refusals.{Answer, gives, refuses}
use Rattle.rdh.specs.declared.rdh_cru.RdhCru.{RdhCru}
use Rattle.serde_rdh.specs.Layout.{decoded}
use Rattle.scan_cdp.specs.Answers.{Found, answer_as, wants}
use Rattle.scan_cdp.specs.Steps.{Entry, entry_as, limit, step_unless, unchanged, unusable}
use Rattle.scan_cdp.specs.Outcomes.{payload_size}
use Rattle.scan_cdp.specs.declared.Part.{Part}
use Rattle.scan_cdp.specs.declared.Settings.{Settings}
use Rattle.scan_cdp.specs.declared.State.{State}

-- Refusal 6 by the window: it starts behind the byte place, or its end is above 2^60 (R6).
unfoldable pub outside : ℕ → ℕ → ℕ → Bool
outside place first size = ltb place first || ltb limit (first + size)

-- The bytes from a byte place on that a window shows (W5).
abbrev pub shown : ℕ → ℕ → List ℕ → List ℕ
shown place first w = drop (place - first) w

-- The part of a window that n bytes take from a start on. An empty part is at the window's start (W9).
unfoldable pub part_at : ℕ → ℕ → Part
part_at start n = pick (eqb n 0) (record { start = 0; length = 0 }) (record { start = start; length = n })

-- The bytes of a part of a window.
unfoldable pub bytes_at : List ℕ → Part → List ℕ
bytes_at w part = take part.length (drop part.start w)

-- An answer whose payload is said as the part of the window that it is.
abbrev pub placed : ℕ → Answer (Found (List ℕ)) → Answer (Found Part)
placed start = answer_as (λ (payload : List ℕ). part_at start (length payload))

abbrev pub located : ℕ → Entry (List ℕ) → Entry Part
located start = entry_as (λ (payload : List ℕ). part_at start (length payload))

-- A want for so many bytes from the byte place on, which changes nothing (W6).
abbrev pub wanting : {P : Type 0} → State → List ℕ → ℕ → Entry P
wanting s fee_ids size = unchanged s fee_ids (gives (wants s.progress.place size))

-- What is replied where the step finds a header (W7): on a window that is not last a want, if the step would find the payload cut; and else
-- the step's entry. The payload starts at `start` in the window.
abbrev pub reply_for : (last : Bool) → State → List ℕ → RdhCru → (start : ℕ) → Entry (List ℕ) → Entry Part
reply_for last s fee_ids h start e = pick (not last && e.marks.payload_cut) (wanting s fee_ids (64 + payload_size h)) (located start e)

-- Refusal 6 where it is due, by the window, too; on a window that is not last a want, for the header or for its payload; and else the step.
abbrev pub examined_unless : (six : Bool) → Settings → State → List ℕ → (w : List ℕ) → (first : ℕ) → (last : Bool) → Entry Part
examined_unless six set s fee_ids w first last =
    let place = s.progress.place.0 in
    let rest = shown place first w in
    pick (six || outside place first (length w)) (unchanged s fee_ids (refuses 6 []))
    (pick (not last && ltb (length rest) 64) (wanting s fee_ids 64)
    (reply_for last s fee_ids (decoded rest) (place + 64 - first) (step_unless six set s fee_ids rest (first + length w))))

-- An examination: refusal 6 is due by state and list.
unfoldable pub examined : Settings → State → List ℕ → (w : List ℕ) → (first : ℕ) → (last : Bool) → Entry Part
examined set s fee_ids w first last = examined_unless (unusable s fee_ids) set s fee_ids w first last
