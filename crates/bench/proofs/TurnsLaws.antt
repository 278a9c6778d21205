-- Laws of the loop by the turns that are left, however many these are: the packets so far and those that are still to come are all.
use Prim.Native.Nat.{ℕ, suc, ◌+◌, ◌-◌, ◌≤◌, ◌<◌}
use Rattle.std.specs.Prelude.{Bool, true, false, ◌≡◌, refl, List, drop, length, take}
use Rattle.std.proofs.Common.{true≢false, sym, ◌∙◌, take_all}
use Rattle.std.proofs.Math.Path.{ap}
use native.Mathlib.Omega.{arith}
use Rattle.basis.specs.Pick.{pick}
use Rattle.basis.specs.PickLaws.{off, on}
use Rattle.scan_cdp.specs.Loads.{Loaded, loaded}
use Rattle.scan_cdp.specs.Steps.{new_state, with_lent}
use Rattle.scan_cdp.specs.declared.Part.{Part}
use Rattle.scan_cdp.specs.declared.Settings.{Settings}
use Rattle.scan_cdp.specs.declared.State.{State}
use Rattle.scan_laws.proofs.RunLaws.{loaded_wants}
use Rattle.scan_laws.specs.Runs.{is_want}
use Rattle.listing_window.specs.Held.{nothing}
use Rattle.listing_window.specs.declared.Held.{Held}
use Rattle.bench.specs.Counted.{all, begun, is_packet, left_from, most, packets_from}
use Rattle.bench.proofs.CountedLaws.{Counted}

-- What holds where so many turns are left, for a recording `w` in memory that has `total` packets and leaves the state `final` behind them.
pub record Turn (set : Settings) (w : List ℕ) (total : ℕ) (final : State) (buffer fee_ids : List ℕ) (s : State) (h : Held) (packets turns : ℕ)
    : Type 0 where
  pub same : buffer ≡ w
  pub window : h ≡ all (length w)
  pub sum : packets + packets_from turns set s fee_ids w ≡ total
  pub left : left_from turns set s fee_ids w ≡ final

-- at the start as many are left as 64 bits can count
pub starts : (set : Settings) (w fee_ids triggers : List ℕ) (s : State) (h : Held) (whole : Bool) → s ≡ new_state
    → h ≡ pick whole (all (length w)) nothing → whole ≡ true
    → Turn set w (packets_from most set (begun triggers) fee_ids w) (left_from most set (begun triggers) fee_ids w) w fee_ids
    (with_lent s.progress s.links triggers) h 0 most
starts set w fee_ids triggers s h whole new held is =
    let there : with_lent s.progress s.links triggers ≡ begun triggers = ap (λ (x : State). with_lent x.progress x.links triggers) new in
    record {
      same = refl;
      window = held ∙ on _ _ is;
      sum = omega (arith, ap (λ (x : State). packets_from most set x fee_ids w) there);
      left = ap (λ (x : State). left_from most set x fee_ids w) there;
    }

-- no turn is left
pub none_left : {set : Settings} {w : List ℕ} {total : ℕ} {final : State} {buffer fee_ids : List ℕ} {s : State} {h : Held} {packets turns : ℕ}
    → Turn set w total final buffer fee_ids s h packets turns → turns ≤ 0 → Counted total final packets s
unfolding packets_from left_from
none_left {set} {w} {total} {final} {buffer} {fee_ids} {s} {h} {packets} {turns} t few =
    let none : turns ≡ 0 = omega (arith, few) in
    record {
      packets = omega (arith, t.sum, ap (λ (n : ℕ). packets_from n set s fee_ids w) none);
      state = sym (ap (λ (n : ℕ). left_from n set s fee_ids w) none) ∙ t.left;
    }

-- One turn: the load's window is the part of the buffer that is held.
module _ {set : Settings} {w : List ℕ} {total : ℕ} {final : State} {buffer fee_ids : List ℕ} {s : State} {h : Held} {packets turns : ℕ}
    (t : Turn set w total final buffer fee_ids s h packets turns) (some : 0 < turns)
    (got : Loaded Part) (loads : got ≡ loaded set s fee_ids (take (h.length - 0) (drop 0 buffer)) h.first.0 h.last) where
  there : got ≡ loaded set s fee_ids w 0 true
  there =
      let held = t.window in
      let part = take_all (h.length - 0) buffer (omega (arith, ap (λ (x : Held). x.length) held, ap length t.same)) in
      loads
      ∙ (λ i. loaded set s fee_ids (part i) (held i).first.0 (held i).last)
      ∙ ap (λ (b : List ℕ). loaded set s fee_ids b 0 true) t.same

  unfolded : packets + pick (is_packet got.answer) (packets_from (turns - 1) set got.state got.fee_ids w + 1) 0 ≡ total
  unfolding packets_from
  unfolded =
      let one : suc (turns - 1) ≡ turns = omega arith in
      ap (λ (l : Loaded Part). packets + pick (is_packet l.answer) (packets_from (turns - 1) set l.state l.fee_ids w + 1) 0) there
      ∙ ap (λ (n : ℕ). packets + packets_from n set s fee_ids w) one
      ∙ t.sum

  left_there : pick (is_packet got.answer) (left_from (turns - 1) set got.state got.fee_ids w) got.state ≡ final
  unfolding left_from
  left_there =
      let one : suc (turns - 1) ≡ turns = omega arith in
      ap (λ (l : Loaded Part). pick (is_packet l.answer) (left_from (turns - 1) set l.state l.fee_ids w) l.state) there
      ∙ ap (λ (n : ℕ). left_from n set s fee_ids w) one
      ∙ t.left

  pub one_more : is_packet got.answer ≡ true → Turn set w total final buffer got.fee_ids got.state h (packets + 1) (turns - 1)
  one_more is =
      record {
        same = t.same;
        window = t.window;
        sum = omega (arith, unfolded, on (packets_from (turns - 1) set got.state got.fee_ids w + 1) 0 is);
        left = sym (on _ _ is) ∙ left_there;
      }

  pub none_more : is_packet got.answer ≡ false → Counted total final packets got.state
  none_more is =
      record {
        packets = omega (arith, unfolded, off (packets_from (turns - 1) set got.state got.fee_ids w + 1) 0 is);
        state = sym (off _ _ is) ∙ left_there;
      }

  -- nothing is wanted of a last window
  pub no_want : is_want got.answer ≡ true → ⊥
  no_want wants =
      true≢false (loaded_wants set s fee_ids w 0 true (ap (λ (l : Loaded Part). is_want l.answer) (sym there) ∙ wants))
