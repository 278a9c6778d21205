-- The listing of a recording (P), from its chain and with no window in it; and the lines that loads through windows put.
use Rattle.std.specs.Prelude.{ℕ, Bool, false, ◌||◌, List, [], ◌∷◌, ◌++◌, replicate}
use Rattle.basis.specs.Pick.{pick}
use Rattle.validators.specs.declared.RdhCruSanityValidator.{RdhCruSanityValidator}
use Rattle.scan_cdp.specs.Loads.{Loaded, loaded}
use Rattle.scan_cdp.specs.Steps.{Entry, new_state}
use Rattle.scan_cdp.specs.declared.Part.{Part}
use Rattle.scan_cdp.specs.declared.Settings.{Settings}
use Rattle.chain.specs.Calls.{Window}
use Rattle.chain.specs.Chain.{Kept, chain, is_refused}
use Rattle.listing_load.specs.LoadLines.{answer_lines, lines_of, validator_of}
use Rattle.listing_start.specs.Start.{list_settings, new_validator}

-- ---- the text of a recording

-- The lines of entries, one after the other: each packet's with the validator that the packets before it left (P2, P3), and those of the
-- refusal, which is the last (P5).
unfoldable pub entries_text : RdhCruSanityValidator → List (Entry (List ℕ)) → List ℕ
entries_text v [] = []
entries_text v (e ∷ es) = answer_lines v e.answer e.state.progress.counts ++ entries_text (validator_of v e.answer) es

-- The listing of a recording, by these settings and this validator, from what is kept on.
unfoldable pub listing_text : List ℕ → Settings → RdhCruSanityValidator → Kept → List ℕ
listing_text recording set v k = entries_text v (chain recording set k)

-- What the program keeps as it starts (P1).
abbrev pub program_start : Kept
program_start = record { state = new_state; fee_ids = replicate 4096 0 }

-- The listing that the program writes (P1).
abbrev pub program_text : List ℕ → List ℕ
program_text recording = listing_text recording list_settings new_validator program_start

-- ---- what loads put

-- A load on a window, as the contract of `list_cdp` has it.
abbrev pub load_on : Settings → Kept → Window → Loaded Part
load_on set k w = loaded set k.state k.fee_ids w.bytes w.first w.last

-- What it leaves for the next one.
abbrev pub kept_after : Loaded Part → Kept
kept_after l = record { state = l.state; fee_ids = l.fee_ids }

-- The lines of successive loads, each through a window of its own, on what the one before left. The first refusal ends them.
unfoldable pub loads_text : Settings → RdhCruSanityValidator → Kept → List Window → List ℕ
loads_text set v k [] = []
loads_text set v k (w ∷ ws) =
    let l = load_on set k w in
    lines_of v l.answer l ++ pick (is_refused l.answer) [] (loads_text set (validator_of v l.answer) (kept_after l) ws)

-- Whether a refusal ended them.
unfoldable pub are_refused : Settings → Kept → List Window → Bool
are_refused set k [] = false
are_refused set k (w ∷ ws) =
    let l = load_on set k w in
    is_refused l.answer || are_refused set (kept_after l) ws

-- What is to come of the listing: nothing behind a refusal, and else the listing of what the last load left.
unfoldable pub text_to_come : List ℕ → Settings → RdhCruSanityValidator → Kept → List Window → List ℕ
text_to_come recording set v k [] = listing_text recording set v k
text_to_come recording set v k (w ∷ ws) =
    let l = load_on set k w in
    pick (is_refused l.answer) [] (text_to_come recording set (validator_of v l.answer) (kept_after l) ws)
