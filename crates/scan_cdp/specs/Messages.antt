-- What is written of a scan's refusals (R1 to R4, R6).
use Rattle.std.specs.Prelude.{ℕ, List, codes}
use Rattle.scan_cdp.specs.declared.Refusal.{Refusal}
use Rattle.scan_cdp.specs.declared.Refusal.TheVariants.{End, OffsetToNext, MemorySize, FeeIdsFull, Unusable}

-- The values of refusal 2 are not in its text.
abbrev pub refusal_text : Refusal → List ℕ
refusal_text End = codes "the recording ends before the next header"
refusal_text (OffsetToNext distance position) = codes "the offset to the next header is outside 64 to 10064"
refusal_text MemorySize = codes "the memory size is below 64"
refusal_text FeeIdsFull = codes "the list of FEE ids is full"
refusal_text Unusable = codes "no scan leaves such a state, or the window does not fit it"
