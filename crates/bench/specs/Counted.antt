-- How many packets loads find in a recording that is one window, and what they count.
use Rattle.std.specs.Prelude.{ℕ, zero, suc, ◌+◌, ◌-◌, ◌^◌, Bool, true, false, ◌≡◌, List, None}
use Rattle.basis.specs.Pick.{pick}
use Rattle.basis.specs.Refusals.{Answer, gives, refuses}
use Rattle.scan_cdp.specs.Answers.{Found, handed, passed, wants}
use Rattle.scan_cdp.specs.Loads.{loaded}
use Rattle.scan_cdp.specs.Steps.{new_state, with_lent}
use Rattle.scan_cdp.specs.declared.Part.{Part}
use Rattle.scan_cdp.specs.Scans.{state_of}
use Rattle.scan_cdp.specs.declared.Scan.{Scan}
use Rattle.scan_cdp.specs.declared.Settings.{Settings}
use Rattle.scan_cdp.specs.declared.State.{State}
use Rattle.listing_window.specs.declared.Held.{Held}

-- No filter.
abbrev pub settings_of : (skip stats : Bool) → Settings
settings_of skip stats =
    record {
      filter = record { filter_link = None; filter_fee = None; filter_its_stave = None };
      skip_payload = skip;
      stats = stats;
    }

-- A buffer of so many bytes that is the whole recording.
abbrev pub all : ℕ → Held
all n = record { first = record { 0 = 0 }; length = n; last = true }

abbrev pub is_packet : Answer (Found Part) → Bool
is_packet (gives passed) = false
is_packet (gives (handed p)) = true
is_packet (gives (wants place size)) = false
is_packet (refuses number values) = false

-- The packets of at most n loads on the recording `w`, each on what the one before left, up to the first answer that is none.
unfoldable pub packets_from : ℕ → Settings → State → (fee_ids w : List ℕ) → ℕ
packets_from zero set s fee_ids w = 0
packets_from (suc n) set s fee_ids w =
    let l = loaded set s fee_ids w 0 true in
    pick (is_packet l.answer) (packets_from n set l.state l.fee_ids w + 1) 0

-- What they leave of the state.
unfoldable pub left_from : ℕ → Settings → State → (fee_ids w : List ℕ) → State
left_from zero set s fee_ids w = s
left_from (suc n) set s fee_ids w =
    let l = loaded set s fee_ids w 0 true in
    pick (is_packet l.answer) (left_from n set l.state l.fee_ids w) l.state

-- A scan that has not begun, but has these trigger counts.
abbrev pub begun : List ℕ → State
begun triggers = with_lent new_state.progress new_state.links triggers

-- As many loads as 64 bits can count.
abbrev pub most : ℕ
most = 2 ^ 64 - 1

-- The packets of a recording, and the trigger counts that were lent, raised by its headers.
pub record CountsAll (set : Settings) (before fee_ids w : List ℕ) (n : ℕ) (after : List ℕ) : Type 0 where
  pub packets : n ≡ packets_from most set (begun before) fee_ids w
  pub triggers : after ≡ (left_from most set (begun before) fee_ids w).triggers

-- All packets of the recording `w` are counted by a scan that goes on from one state, and the other is what they leave of it.
pub record AllCounted (before : Scan) (w : List ℕ) (n : ℕ) (after : Scan) : Type 0 where
  pub packets : n ≡ packets_from most before.set (state_of before) before.fee_ids.now w
  pub state : state_of after ≡ left_from most before.set (state_of before) before.fee_ids.now w
