-- What one load adds to the listing: its lines, whether it is a packet that is not sound, and the validator after it. The settings are those
-- of the caller. A payload that is cut adds nothing (P4).
use Rattle.std.specs.Prelude.{ℕ, ◌≤◌, Bool, false, not, ◌≡◌, List, [], ◌∷◌, length}
use Rattle.basis.specs.Refusals.{Answer, gives, refuses}
use Rattle.text_writer.specs.Writer.{extended}
use Rattle.text_writer.specs.declared.TextWriter.{TextWriter}
use Rattle.validators.specs.Verdict.{settled_by, sound_to}
use Rattle.validators.specs.declared.RdhCruSanityValidator.{RdhCruSanityValidator}
use Rattle.scan_cdp.specs.Answers.{Found, handed, passed, wants}
use Rattle.scan_cdp.specs.Loads.{Loaded}
use Rattle.scan_cdp.specs.declared.Counts.{Counts}
use Rattle.scan_cdp.specs.declared.Part.{Part}
use Rattle.scan_cdp.specs.declared.Scan.{Scan}
use Rattle.input_scanner.specs.Replies.{load_of}
use Rattle.listing_lines.specs.Lines.{last_lines, room}
use Rattle.listing_packet.specs.Packets.{packet_lines}
use Rattle.listing_load.specs.declared.Listed.{Listed}

-- The lines of an answer: a packet's, or the last ones with the counts as they stand after the refusal. A want has none, and a header that is
-- passed has none (P2, P3, P5).
abbrev pub answer_lines : {P : Type 0} → RdhCruSanityValidator → Answer (Found P) → Counts → List ℕ
answer_lines v (gives passed) counts = []
answer_lines v (gives (handed p)) counts = packet_lines v p.own.0 p.header
answer_lines v (gives (wants place size)) counts = []
answer_lines v (refuses number values) counts = last_lines counts number

-- The lines of what a load answered.
abbrev pub lines_of : RdhCruSanityValidator → Answer (Found Part) → Loaded Part → List ℕ
lines_of v answer l = answer_lines v answer l.state.progress.counts

-- The validator after an answer: every packet is checked, and nothing else (P3).
abbrev pub validator_of : {P : Type 0} → RdhCruSanityValidator → Answer (Found P) → RdhCruSanityValidator
validator_of v (gives passed) = v
validator_of v (gives (handed p)) = settled_by v p.header
validator_of v (gives (wants place size)) = v
validator_of v (refuses number values) = v

-- Whether it is a packet that is not sound to the validator.
abbrev pub unsound_in : RdhCruSanityValidator → Answer (Found Part) → Bool
unsound_in v (gives passed) = false
unsound_in v (gives (handed p)) = not (sound_to v p.header)
unsound_in v (gives (wants place size)) = false
unsound_in v (refuses number values) = false

-- A writer with a text written, and as it was where there is none.
abbrev pub written : TextWriter → List ℕ → TextWriter
written w [] = w
written w (b ∷ t) = extended w (b ∷ t)

-- The contract of a call that makes one load, whose answer is `l`, and writes its lines with the writer `w`: `r` is its reply, and `scan`,
-- `after` and `x` are what it leaves of the scan, the validator and the writer.
pub record Lists (l : Loaded Part) (v : RdhCruSanityValidator) (w : TextWriter) (r : Listed) (scan : Scan) (after : RdhCruSanityValidator)
    (x : TextWriter) : Type 0 where
  pub load : load_of r.load scan ≡ l
  pub validator : after ≡ validator_of v l.answer
  pub unsound : r.unsound ≡ unsound_in v l.answer
  pub lines : x ≡ written w (lines_of v l.answer l)
  pub short : length (lines_of v l.answer l) ≤ room
