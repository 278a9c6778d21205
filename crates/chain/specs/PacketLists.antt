-- Packets alone: those that entries and replies hand out, the headers that are due to be handed out, and calls that are held back.
use Rattle.std.specs.Prelude.{ℕ, Bool, true, not, ◌||◌, ◌&&◌}
use mathlib.Core.List.{List, [], ◌∷◌, flat_map, map}
use Rattle.basis.specs.Pick.{pick}
use Rattle.basis.specs.Refusals.{Answer, gives, refuses}
use Rattle.rdh.specs.declared.rdh_cru.RdhCru.{RdhCru}
use Rattle.scan_cdp.specs.Answers.{Found, Handed, handed, passed, wants}
use Rattle.scan_cdp.specs.Outcomes.{is_match}
use Rattle.scan_cdp.specs.Steps.{Entry}
use Rattle.scan_cdp.specs.declared.Settings.{Settings}
use Rattle.scan_laws.specs.Runs.{is_want}
use Rattle.chain.specs.Calls.{Reply, ends_chain, reply_answer}
use Rattle.chain.specs.Chain.{Kept, is_refused}
use Rattle.chain.specs.Walk.{Met, walk}

-- A packet as the chain hands it out.
abbrev pub Packet : Type 0
Packet = Handed (List ℕ)

-- The packet that an answer hands out, if any.
abbrev pub packet_in : Answer (Found (List ℕ)) → List Packet
packet_in (gives passed) = []
packet_in (gives (handed p)) = p ∷ []
packet_in (gives (wants place size)) = []
packet_in (refuses number values) = []

-- The packets of entries, and those of replies, in their order.
abbrev pub packets_in : List (Entry (List ℕ)) → List Packet
packets_in = flat_map (λ (e : Entry (List ℕ)). packet_in e.answer)

abbrev pub packets_of : List Reply → List Packet
packets_of = flat_map (λ (r : Reply). packet_in (reply_answer r))

abbrev pub headers_of : List Packet → List RdhCru
headers_of = map (λ (p : Packet). p.header)

-- The headers on the chain that match the filter and are not refused, in their order (D3.2).
abbrev pub match_in : Settings → Met → List RdhCru
match_in set m = pick (not (is_refused m.entry.answer) && is_match set m.header) (m.header ∷ []) []

unfoldable pub matching : List ℕ → Settings → Kept → List RdhCru
matching recording set start = flat_map (match_in set) (walk recording set start)

-- Whether a call ended before the next entry: with a want, or with a 6 by the window.
abbrev pub is_held : Reply → Bool
is_held r = is_want (reply_answer r) || (is_refused (reply_answer r) && not (ends_chain r))

unfoldable pub none_held : List Reply → Bool
none_held [] = true
none_held (r ∷ rs) = not (is_held r) && none_held rs
