-- What a check tells that has room for any text, said of the verdict's line.
use Rattle.std.specs.Prelude.{ℕ, ◌≤◌, true, false, not, ◌≡◌, List, [], take, Result, Ok}
use Rattle.std.proofs.Common.{ap, sym, ◌∙◌}
use Rattle.basis.specs.PickLaws.{on, off}
use Rattle.rdh.specs.declared.rdh_cru.RdhCru.{RdhCru}
use Rattle.text.specs.declared.TooShort.{TooShort}
use Rattle.validators.specs.Verdict.{sound_to}
use Rattle.validators.specs.declared.RdhCruSanityValidator.{RdhCruSanityValidator}
use Rattle.validators.specs.declared.Verdict.{Verdict}
use Rattle.validators.specs.declared.Verdict.TheVariants.{Sound, NotSound}
use Rattle.listing_lines.specs.Lines.{line_at}
use Rattle.listing_packet.specs.Packets.{verdict_line}
use Rattle.listing_packet.specs.VerdictLineLaws.{Told}

module _ {v : RdhCruSanityValidator} {h : RdhCru} {r : Result Verdict TooShort} {after : RdhCruSanityValidator} {m : List ℕ}
    (tells : Told v h r after m) (position : ℕ) where
  -- a sound header is told to be one, and has no line
  pub sound_to_lem : r ≡ Ok Sound → sound_to v h ≡ true
  sound_to_lem = tells.sound

  pub sound_told : r ≡ Ok Sound → false ≡ not (sound_to v h)
  sound_told is = sym (ap not (sound_to_lem is))

  pub sound-line : r ≡ Ok Sound → verdict_line v position h ≡ []
  unfolding verdict_line
  sound-line is = on _ _ (sound_to_lem is)

  -- one that is not sound is told to be none, and has the line with its text, which stands at the buffer's start
  pub flawed_to : (n : ℕ) → r ≡ Ok (NotSound n) → sound_to v h ≡ false
  flawed_to n is = (tells.flawed n is).0

  pub flawed_told : (n : ℕ) → r ≡ Ok (NotSound n) → true ≡ not (sound_to v h)
  flawed_told n is = sym (ap not (flawed_to n is))

  pub flawed_within : (n : ℕ) → r ≡ Ok (NotSound n) → n ≤ 512
  flawed_within n is = (tells.flawed n is).2

  pub flawed_line : (n : ℕ) → r ≡ Ok (NotSound n) → line_at position (take n m) ≡ verdict_line v position h
  unfolding verdict_line
  flawed_line n is = ap (λ (t : List ℕ). line_at position t) (tells.flawed n is).1 ∙ sym (off _ _ (flawed_to n is))
