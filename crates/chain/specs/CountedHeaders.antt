-- The headers that a scan counts (K1, G2), by the walk: each of them is counted as seen, and its trigger word with it.
use Rattle.std.specs.Prelude.{ℕ, ◌+◌, Bool, true, false, ◌||◌, ◌&&◌, eqb}
use mathlib.Core.List.{List, [], ◌∷◌, flat_map, map}
use Rattle.basis.specs.Pick.{pick}
use Rattle.basis.specs.Refusals.{Answer, gives, refuses}
use Rattle.rdh.specs.declared.rdh_cru.RdhCru.{RdhCru}
use Rattle.scan_cdp.specs.Answers.{Found, handed, passed, wants}
use Rattle.scan_cdp.specs.Outcomes.{header_trigger_type}
use Rattle.scan_cdp.specs.Steps.{is_first}
use Rattle.scan_cdp.specs.declared.Settings.{Settings}
use Rattle.chain.specs.Calls.{Reply, examination, load}
use Rattle.chain.specs.Chain.{Kept}
use Rattle.chain.specs.OwnPositions.{open_at}
use Rattle.chain.specs.Walk.{Met}

-- Whether a header with this answer was counted, as the first of its load or as a later one: it is passed, handed out, or refused with 3 or
-- 4, or, as a first one, with 2. Refusals 1 and 6 look at no header.
abbrev pub is_counted_by : (first : Bool) → Answer (Found (List ℕ)) → Bool
is_counted_by first (gives passed) = true
is_counted_by first (gives (handed p)) = true
is_counted_by first (gives (wants place size)) = false
is_counted_by first (refuses number values) = eqb number 3 || eqb number 4 || (eqb number 2 && first)

-- The header that is counted at a step of a walk, with statistics on, if one is.
abbrev pub counted_in : Settings → Met → List RdhCru
counted_in set m = pick (set.stats && is_counted_by (is_first (open_at m.before)) m.entry.answer) (m.header ∷ []) []

-- Those along a walk, in their order, and their trigger words.
abbrev pub counted_headers : Settings → List Met → List RdhCru
counted_headers set = flat_map (counted_in set)

abbrev pub counted_words : Settings → List Met → List ℕ
counted_words set ms = map header_trigger_type (counted_headers set ms)

-- What a scan keeps of them: the count of seen headers, and the 20 trigger counts.
abbrev pub seen_of : Kept → ℕ
seen_of k = k.state.progress.counts.seen

abbrev pub triggers_of : Kept → List ℕ
triggers_of k = k.state.triggers

-- How often seen started again, as the marks of a reply tell it, and those of several.
abbrev pub carries_in : Reply → ℕ
carries_in (examination e) = pick e.marks.seen_carry 1 0
carries_in (load r) = r.marks.seen_carries

unfoldable pub carries_of : List Reply → ℕ
carries_of [] = 0
carries_of (r ∷ rs) = carries_in r + carries_of rs
