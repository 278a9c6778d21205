-- What becomes of one header: steps 2 to 4 of an examination (S2 to S4), in their order.
use Rattle.std.specs.Prelude.{ℕ, Bool, true, false, ◌||◌, ltb, ℤ}
use Rattle.std.proofs.Math.IntN.{sub_ℕ}
use Rattle.basis.specs.Pick.{pick}
use Rattle.filter.specs.Filter.{matches, target_of}
pub use Rattle.rdh.specs.PayloadSize.{payload_size}
use Rattle.rdh.specs.declared.rdh_cru.RdhCru.{RdhCru}
use Rattle.scan_cdp.specs.declared.Settings.{Settings}
use Rattle.scan_cdp.specs.declared.Outcome.{Outcome}
use Rattle.scan_cdp.specs.declared.Outcome.TheVariants.{FeeIdsFull, BadOffset, MemorySize, Passed, HandedOut}

-- The header's fields by the names that the rules have for them (T2).
abbrev pub offset : RdhCru → ℕ
offset h = h.offset_new_packet

abbrev pub header_memory_size : RdhCru → ℕ
header_memory_size h = h.memory_size

abbrev pub header_fee_id : RdhCru → ℕ
header_fee_id h = h.rdh0.fee_id.0

abbrev pub header_trigger_type : RdhCru → ℕ
header_trigger_type h = h.rdh2.trigger_type

-- Whether a header matches the filter (T3, S3).
abbrev pub is_match : Settings → RdhCru → Bool
is_match set h = matches (target_of set.filter) h.link_id (header_fee_id h)

-- Whether an offset is outside 64 to 10,064 (R2).
abbrev pub bad_offset : ℕ → Bool
bad_offset n = ltb n 64 || ltb 10064 n

-- The distance to skip, from behind a header to the next one: its offset less 64, signed (R2).
abbrev pub skip_distance : ℕ → ℤ
skip_distance n = sub_ℕ n 64

-- Whether a memory size is too small for the header alone (R3).
abbrev pub bad_memory_size : ℕ → Bool
bad_memory_size n = ltb n 64

-- Steps 3 and 4. A mismatch is passed; a match is handed out, unless it has refusal 3.
unfoldable pub filtered : Settings → RdhCru → Outcome
filtered set h = pick (is_match set h) (pick (bad_memory_size (header_memory_size h)) MemorySize HandedOut) Passed

-- Step 2, then the others. A first header meets refusal 4 before 2, a later one 2 before 4 (S2).
unfoldable pub outcome_of : Settings → (first full : Bool) → RdhCru → Outcome
outcome_of set first full h =
    pick first
    (pick full FeeIdsFull (pick (bad_offset (offset h)) BadOffset (filtered set h)))
    (pick (bad_offset (offset h)) BadOffset (pick full FeeIdsFull (filtered set h)))

-- Whether step 2 counted the header: a later one that has refusal 2 was not counted (R2).
abbrev pub is_counted : Bool → Outcome → Bool
is_counted first FeeIdsFull = true
is_counted first BadOffset = first
is_counted first MemorySize = true
is_counted first Passed = true
is_counted first HandedOut = true

-- Whether step 4 took the header as a match.
abbrev pub matched : Outcome → Bool
matched FeeIdsFull = false
matched BadOffset = false
matched MemorySize = true
matched Passed = false
matched HandedOut = true

-- Whether step 5 hands the header out.
abbrev pub hands_out : Outcome → Bool
hands_out FeeIdsFull = false
hands_out BadOffset = false
hands_out MemorySize = false
hands_out Passed = false
hands_out HandedOut = true
