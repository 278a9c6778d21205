-- What the loop leaves is the listing that the definition has.
use Rattle.std.specs.Prelude.{ℕ, ◌+◌, ◌≤◌, ◌<◌, Bool, ◌≡◌, List, ◌++◌, length, drop, Ok}
use Rattle.std.proofs.Common.{ap, ◌∙◌, arith, le-ltb, lt-ltb}
use Rattle.std.proofs.Math.Path.{sym}
use Rattle.std.proofs.lemmas.List.Edits.{sets, sets-eq}
use Rattle.basis.specs.PickLaws.{off, on}
use Rattle.validators.specs.declared.RdhCruSanityValidator.{RdhCruSanityValidator}
use Rattle.scan_cdp.specs.declared.Scan.{Scan}
use Rattle.scan_cdp.specs.declared.Settings.{Settings}
use Rattle.scan_cdp.specs.declared.State.{State}
use Rattle.listing_lines.specs.Lines.{room}
use Rattle.listing_batch.specs.Batches.{Batched, Batches, batched}
use Rattle.listing_batch.specs.Listings.{left_by, listed_into, listing_of, refused}
use Rattle.listing_batch.specs.declared.Batch.{Batch}

-- A text that fits stands at the buffer's start, before what was there.
text_first : (text out left : List ℕ) → left ≡ sets out 0 text → length text ≤ length out → left ≡ text ++ drop (length text) out
text_first text out left stored fits =
    let start : 0 + length text ≡ length text = omega arith in
    stored ∙ sets-eq text out 0 (omega (arith, fits)) ∙ ap (λ (n : ℕ). text ++ drop n out) start

left_there : (b : Batched) (out : List ℕ) (r : Batch) (scan : Scan) (after : RdhCruSanityValidator) (left : List ℕ)
    → Batches b out r scan after left
    → listing_of (Ok r) scan after left ≡ left_by b out
left_there b out r scan after left x =
    λ i. record {
      stop = x.stop i;
      state = x.state i;
      validator = x.validator i;
      bytes = x.bytes i;
      unsound = x.unsound i;
      fee_ids = x.fee-ids i;
      out = text_first b.text out left x.stored x.fits i;
    }

module _ (set : Settings) (v : RdhCruSanityValidator) (s : State) (fee_ids w : List ℕ) (first : ℕ) (last : Bool) (out : List ℕ) where
  -- a buffer that is too short is refused
  pub listed_refused : length out < room → refused v s fee_ids out ≡ listed_into out set v s fee_ids w first last
  unfolding listed_into
  listed_refused short = sym (on _ _ (lt-ltb _ _ short))

  -- into any other the loop lists
  pub listed_there : {r : Batch} {scan : Scan} {after : RdhCruSanityValidator} {left : List ℕ}
      → Batches (batched set v s fee_ids w first last (length out)) out r scan after left → room ≤ length out
      → listing_of (Ok r) scan after left ≡ listed_into out set v s fee_ids w first last
  unfolding listed_into
  listed_there {r} {scan} {after} {left} x long =
      left_there (batched set v s fee_ids w first last (length out)) out r scan after left x ∙ sym (off _ _ (le-ltb _ _ long))
