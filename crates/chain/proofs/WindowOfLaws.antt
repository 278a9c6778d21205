-- Laws of a window of a recording: what it shows is the recording's, and where it is the last one, all of it.
use Rattle.std.specs.Prelude.{ℕ, zero, suc, ◌+◌, ◌-◌, ◌≤◌, max, min, true, ◌≡◌, List, [], ◌∷◌, length, take, drop}
use Rattle.std.proofs.Common.{ap, sym, ◌∙◌, arith, length-drop, length-take, drop-drop, take_all, take-take}
use Rattle.std.proofs.Math.Seq.{take-nil}
use Rattle.serde_rdh.specs.Layout.{decoded}
use Rattle.serde_rdh.proofs.LayoutLaws.{decoded-take}
use Rattle.scan_cdp.specs.Windows.{shown}
use Rattle.chain.specs.Calls.{Window, WindowOf}

drop-take : (d n : ℕ) (l : List ℕ) → drop d (take n l) ≡ take (n - d) (drop d l)
drop-take zero n l = let same : n ≡ n - 0 = omega arith in ap (λ (k : ℕ). take k l) same
drop-take (suc d) zero l = let none : 0 ≡ 0 - suc d = omega arith in ap (λ (k : ℕ). take k (drop (suc d) l)) none
drop-take (suc d) (suc n) [] = sym (take-nil (suc n - suc d))
drop-take (suc d) (suc n) (x ∷ l) =
    let same : n - d ≡ suc n - suc d = omega arith in
    drop-take d n l ∙ ap (λ (k : ℕ). take k (drop d l)) same

module _ (recording : List ℕ) (w : Window) (of : WindowOf recording w) (place : ℕ) (starts : w.first ≤ place) where
  -- how many bytes the window could show from the place on
  abbrev pub reach : ℕ
  reach = length w.bytes - (place - w.first)

  -- What the window shows are the next bytes of the recording.
  pub shown_is : shown place w.first w.bytes ≡ take reach (drop place recording)
  shown_is =
      let to-place : w.first + (place - w.first) ≡ place = omega (arith, starts) in
      ap (λ (l : List ℕ). drop (place - w.first) l) of.bytes
      ∙ drop-take (place - w.first) (length w.bytes) (drop w.first recording)
      ∙ ap (λ (l : List ℕ). take reach l)
      (drop-drop (place - w.first) w.first recording ∙ ap (λ (k : ℕ). drop k recording) to-place)

  length-shown : length (shown place w.first w.bytes) ≡ min reach (length (drop place recording))
  length-shown = ap (λ (l : List ℕ). length l) shown_is ∙ length-take reach (drop place recording)

  -- They are no more than the recording has.
  pub shown_fits : length (shown place w.first w.bytes) ≤ length (drop place recording)
  shown_fits = omega (arith, length-shown)

  -- A last window shows all that the recording has.
  pub shown-all : w.last ≡ true → shown place w.first w.bytes ≡ drop place recording
  shown-all last =
      let end = of.last last in
      shown_is ∙ take_all reach (drop place recording) (omega (arith, end, starts, length-drop place recording))

  -- A header that it shows is the recording's.
  pub same_header : 64 ≤ length (shown place w.first w.bytes) → decoded (shown place w.first w.bytes) ≡ decoded (drop place recording)
  same_header whole =
      ap decoded shown_is ∙ decoded-take reach (drop place recording) (omega (arith, whole, length-shown))

  -- So are the bytes behind the header that it shows.
  pub same_payload : (size : ℕ) → 64 + size ≤ length (shown place w.first w.bytes)
      → take size (drop 64 (shown place w.first w.bytes)) ≡ take size (drop 64 (drop place recording))
  same_payload size whole =
      ap (λ (l : List ℕ). take size (drop 64 l)) shown_is
      ∙ ap (λ (l : List ℕ). take size l) (drop-take 64 reach (drop place recording))
      ∙ take-take size (reach - 64) (drop 64 (drop place recording)) (omega (arith, whole, length-shown))

  -- A last window with a header at the place ends where the recording ends.
  pub same_end : w.last ≡ true → 64 ≤ length (shown place w.first w.bytes) → w.first + length w.bytes ≡ length recording
  same_end last whole =
      let end = of.last last in
      let size = ap (λ (l : List ℕ). length l) of.bytes ∙ length-take (length w.bytes) (drop w.first recording) in
      omega (arith, end, whole, size, length-drop w.first recording, length-drop (place - w.first) w.bytes)

  -- The greater of the place and the end is the same, wherever a last window ends.
  pub same_greater : w.last ≡ true → max place (w.first + length w.bytes) ≡ max place (length recording)
  same_greater last =
      let end = of.last last in
      let size = ap (λ (l : List ℕ). length l) of.bytes ∙ length-take (length w.bytes) (drop w.first recording) in
      omega (arith, end, starts, size, length-drop w.first recording)
