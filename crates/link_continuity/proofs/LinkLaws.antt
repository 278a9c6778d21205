-- Laws of what a header yields behind the last one: how the distance and the packet counter's flag hang together (M4).
use Rattle.std.specs.Prelude.{◌≡◌, ℕ, ◌+◌, ◌%◌, ◌<◌, Bool, true, false, not, ◌==◌, refl}
use Rattle.std.proofs.Math.Path.{ap}
use Rattle.std.proofs.Common.{sym, eq-eqb, eqb-true, ne_eqb}
use native.Mathlib.Omega.{arith}
use Rattle.std.proofs.lemmas.Bool.{eqb-false}
use Rattle.link_continuity.specs.Link.{behind, next_packet_counter}
use Rattle.link_continuity.specs.declared.LastHeader.{LastHeader}

-- Two tests that hold together are the same.
pub same_test : (a b c d : ℕ) → (a ≡ b → c ≡ d) → (c ≡ d → a ≡ b) → (a == b) ≡ (c == d)
same_test a b c d there back = met (a == b) refl
  where
    met : (t : Bool) → (a == b) ≡ t → t ≡ (c == d)
    met true e = sym (eq-eqb c d (there (eqb-true a b e)))
    met false e = sym (ne_eqb c d (λ same. eqb-false a b e (back same)))

module _ (l h : LastHeader) where
  -- the distance leads from the expected packet counter to the one that came
  pub distance_leads : h.packet_counter < 256 → (next_packet_counter l + (behind l h).distance) % 256 ≡ h.packet_counter
  unfolding behind
  distance_leads byte = omega (arith, byte)

  pub distance_byte : (behind l h).distance < 256
  unfolding behind
  distance_byte = omega arith

  -- and the flag is up exactly if it is not 0
  pub flag_by_distance : h.packet_counter < 256 → (behind l h).packet_counter ≡ not ((behind l h).distance == 0)
  unfolding behind
  flag_by_distance byte =
      ap (λ (t : Bool). not t)
      (same_test h.packet_counter (next_packet_counter l) (behind l h).distance 0 (λ e. omega (arith, byte, e)) (λ e. omega (arith, byte, e)))
