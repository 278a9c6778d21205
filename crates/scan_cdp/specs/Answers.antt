-- What a scan answers (W8), and the numbers and values of its refusals (R1 to R4, R6).
use Rattle.std.specs.Prelude.{ℕ, List, [], ◌∷◌, ℤ, pos, Option, None, Some, Result, Ok, Err}
use Rattle.basis.specs.Refusals.{Answer, gives, refuses}
use Rattle.rdh.specs.declared.rdh_cru.RdhCru.{RdhCru}
use Rattle.scan_cdp.specs.declared.BytePlace.{BytePlace}
use Rattle.scan_cdp.specs.declared.Position.{Position}
use Rattle.scan_cdp.specs.declared.Packet.{Packet}
use Rattle.scan_cdp.specs.declared.Part.{Part}
use Rattle.scan_cdp.specs.declared.Refusal.{Refusal}
use Rattle.scan_cdp.specs.declared.Refusal.TheVariants.{End, OffsetToNext, MemorySize, FeeIdsFull, Unusable}
use Rattle.scan_cdp.specs.declared.LoadCdp.{LoadCdp}
use Rattle.scan_cdp.specs.declared.LoadCdp.TheVariants as Loads

-- What is handed out (S5): a header, its payload, the position at which its load started, and its own, which the scan reported when it
-- examined that header. On the chain a payload is bytes, in a reply it is a part of the window.
pub record Handed (P : Type 0) : Type 0 where
  pub header : RdhCru
  pub payload : P
  pub position : Position
  pub own : Position

-- What is found at a byte place: a header that is passed; one that is handed out; or, on a window, a want for so many bytes from a byte
-- place on.
pub data Found (P : Type 0) : Type 0 where
  passed : Found P
  handed : Handed P → Found P
  wants : (place : BytePlace) → (size : ℕ) → Found P

-- What is handed out, or answered, with the payload said in another way.
abbrev pub handed_as : {P Q : Type 0} → (P → Q) → Handed P → Handed Q
handed_as f p = record { header = p.header; payload = f p.payload; position = p.position; own = p.own }

abbrev pub answer_as : {P Q : Type 0} → (P → Q) → Answer (Found P) → Answer (Found Q)
answer_as f (gives passed) = gives passed
answer_as f (gives (handed p)) = gives (handed (handed_as f p))
answer_as f (gives (wants place size)) = gives (wants place size)
answer_as f (refuses number values) = refuses number values

-- The number of each refusal ..
abbrev pub number_of : Refusal → ℕ
number_of End = 1
number_of (OffsetToNext distance position) = 2
number_of MemorySize = 3
number_of FeeIdsFull = 4
number_of Unusable = 6

-- .. and the values returned with it.
abbrev pub values_of : Refusal → List ℤ
values_of End = []
values_of (OffsetToNext distance position) = distance ∷ pos position.0 ∷ []
values_of MemorySize = []
values_of FeeIdsFull = []
values_of Unusable = []

abbrev pub refusal : {A : Type 0} → Refusal → Answer A
refusal why = refuses (number_of why) (values_of why)

-- The code's packet.
abbrev pub handed_by : Packet → Handed Part
handed_by packet = record { header = packet.rdh; payload = packet.payload; position = packet.position; own = packet.own }

-- What a load that is not refused finds.
abbrev pub found_by : LoadCdp → Found Part
found_by (Loads.Packet packet) = handed (handed_by packet)
found_by (Loads.Want place size) = wants place size

-- What a load answers.
abbrev pub load_answer : Result LoadCdp Refusal → Answer (Found Part)
load_answer (Ok found) = gives (found_by found)
load_answer (Err why) = refusal why

-- What an examination answers.
abbrev pub examined_answer : Result (Option LoadCdp) Refusal → Answer (Found Part)
examined_answer (Ok None) = gives passed
examined_answer (Ok (Some found)) = gives (found_by found)
examined_answer (Err why) = refusal why
