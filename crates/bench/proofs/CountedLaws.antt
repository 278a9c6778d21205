-- Laws of the loop: the packets so far and those that are still to come are all.
use Prim.Native.Nat.{ℕ, suc, ◌+◌, ◌-◌, ◌≤◌, ◌<◌}
use Rattle.std.specs.Prelude.{Bool, true, false, ◌≡◌, List, length, take}
use Rattle.std.proofs.Common.{true≢false, sym, ◌∙◌, take_all}
use Rattle.std.proofs.Math.Path.{ap}
use native.Mathlib.Omega.{arith}
use Rattle.basis.specs.Pick.{pick}
use Rattle.basis.specs.PickLaws.{off, on}
use Rattle.scan_cdp.specs.Loads.{Loaded}
use Rattle.scan_cdp.specs.Loads.{loaded}
use Rattle.scan_cdp.specs.declared.BytePlace.{BytePlace}
use Rattle.scan_cdp.specs.declared.Part.{Part}
use Rattle.scan_cdp.specs.declared.Settings.{Settings}
use Rattle.scan_cdp.specs.declared.State.{State}
use Rattle.scan_laws.proofs.RunLaws.{loaded_wants}
use Rattle.scan_laws.specs.Runs.{is_want}
use Rattle.listing_window.specs.Held.{nothing}
use Rattle.listing_window.specs.declared.Held.{Held}
use Rattle.bench.specs.Counted.{CountsAll, all, begun, is_packet, left_from, most, packets_from}

-- What holds at each turn where the recording is in memory: `w` is the recording, `total` the number of its packets, and `final` the state that is
-- left behind them.
pub record Turn (set : Settings) (w : List ℕ) (total : ℕ) (final : State) (buffer fee_ids : List ℕ) (s : State) (h : Held) (packets done : ℕ)
    : Type 0 where
  pub same : buffer ≡ w
  pub window : h ≡ all (length w)
  pub sum : packets + packets_from (most - done) set s fee_ids w ≡ total
  pub left : left_from (most - done) set s fee_ids w ≡ final

-- All packets are counted, and the state is the one behind them.
pub record Counted (total : ℕ) (final : State) (n : ℕ) (s : State) : Type 0 where
  pub packets : n ≡ total
  pub state : s ≡ final

-- no turn is left
pub none_left : {set : Settings} {w : List ℕ} {total : ℕ} {final : State} {buffer fee_ids : List ℕ} {s : State} {h : Held} {packets done : ℕ}
    → Turn set w total final buffer fee_ids s h packets done → most ≤ done → Counted total final packets s
unfolding packets_from left_from
none_left {set} {w} {total} {final} {buffer} {fee_ids} {s} {h} {packets} {done} t few =
    let none : most - done ≡ 0 = omega (arith, few) in
    record {
      packets = omega (arith, t.sum, ap (λ (n : ℕ). packets_from n set s fee_ids w) none);
      state = sym (ap (λ (n : ℕ). left_from n set s fee_ids w) none) ∙ t.left;
    }

-- One turn: the load's window is the part of the buffer that is held.
module _ {set : Settings} {w : List ℕ} {total : ℕ} {final : State} {buffer fee_ids : List ℕ} {s : State} {h : Held} {packets done : ℕ}
    (t : Turn set w total final buffer fee_ids s h packets done) (some : done < most)
    (got : Loaded Part) (part : List ℕ) (first : BytePlace) (last : Bool) (loads : got ≡ loaded set s fee_ids part first.0 last)
    (bytes : part ≡ take h.length buffer) (from : first ≡ h.first) (ends : last ≡ h.last) where
  there : got ≡ loaded set s fee_ids w 0 true
  there =
      let held = t.window in
      let all_there : part ≡ w =
      bytes ∙ take_all h.length buffer (omega (arith, ap (λ (x : Held). x.length) held, ap length t.same)) ∙ t.same in
      let start : first.0 ≡ 0 = ap (λ (x : BytePlace). x.0) from ∙ ap (λ (x : Held). x.first.0) held in
      let to_end : last ≡ true = ends ∙ ap (λ (x : Held). x.last) held in
      loads ∙ (λ i. loaded set s fee_ids (all_there i) (start i) (to_end i))

  unfolded : packets + pick (is_packet got.answer) (packets_from (most - (done + 1)) set got.state got.fee_ids w + 1) 0 ≡ total
  unfolding packets_from
  unfolded =
      let one : suc (most - (done + 1)) ≡ most - done = omega (arith, some) in
      ap (λ (l : Loaded Part). packets + pick (is_packet l.answer) (packets_from (most - (done + 1)) set l.state l.fee_ids w + 1) 0) there
      ∙ ap (λ (n : ℕ). packets + packets_from n set s fee_ids w) one
      ∙ t.sum

  left_there : pick (is_packet got.answer) (left_from (most - (done + 1)) set got.state got.fee_ids w) got.state ≡ final
  unfolding left_from
  left_there =
      let one : suc (most - (done + 1)) ≡ most - done = omega (arith, some) in
      ap (λ (l : Loaded Part). pick (is_packet l.answer) (left_from (most - (done + 1)) set l.state l.fee_ids w) l.state) there
      ∙ ap (λ (n : ℕ). left_from n set s fee_ids w) one
      ∙ t.left

  pub one_more : is_packet got.answer ≡ true → Turn set w total final buffer got.fee_ids got.state h (packets + 1) (done + 1)
  one_more is =
      record {
        same = t.same;
        window = t.window;
        sum = omega (arith, unfolded, on (packets_from (most - (done + 1)) set got.state got.fee_ids w + 1) 0 is);
        left = sym (on _ _ is) ∙ left_there;
      }

  pub none_more : is_packet got.answer ≡ false → Counted total final packets got.state
  none_more is =
      record {
        packets = omega (arith, unfolded, off (packets_from (most - (done + 1)) set got.state got.fee_ids w + 1) 0 is);
        state = sym (off _ _ is) ∙ left_there;
      }

  -- nothing is wanted of a last window
  pub no_want : is_want got.answer ≡ true → ⊥
  no_want wants =
      true≢false (loaded_wants set s fee_ids w 0 true (ap (λ (l : Loaded Part). is_want l.answer) (sym there) ∙ wants))

-- ---- the whole

-- what is held at the start stands in the buffer
pub starts_within : (whole : Bool) (n : ℕ) (h : Held) → h ≡ pick whole (all n) nothing → h.length ≤ n
starts_within true n h is = omega (arith, ap (λ (x : Held). x.length) is)
starts_within false n h is = omega (arith, ap (λ (x : Held). x.length) is)

-- all packets are counted by the settings that were asked for
pub counts_all : {set set' : Settings} {triggers fee_ids w : List ℕ} {n : ℕ} {s : State} → set ≡ set'
    → Counted (packets_from most set (begun triggers) fee_ids w) (left_from most set (begun triggers) fee_ids w) n s
    → CountsAll set' triggers fee_ids w n s.triggers
counts_all {triggers = triggers} {fee_ids = fee_ids} {w = w} same all =
    record {
      packets = all.packets ∙ ap (λ (x : Settings). packets_from most x (begun triggers) fee_ids w) same;
      triggers =
          ap (λ (x : State). x.triggers) all.state ∙ ap (λ (x : Settings). (left_from most x (begun triggers) fee_ids w).triggers) same;
    }
