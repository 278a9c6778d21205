-- How many bytes of a payload are handed out, whatever they are.
use Rattle.std.specs.Prelude.{ℕ, Bool, List, ◌≡◌, length}
use Rattle.rdh.specs.declared.rdh_cru.RdhCru.{RdhCru}
use Rattle.scan_cdp.specs.Steps.{payload_of}
use Rattle.scan_cdp.specs.declared.Outcome.TheVariants.{HandedOut}

-- n bytes of the payload are handed out with a header that has `left` bytes from its first one on.
abbrev pub Reads : (skip : Bool) → RdhCru → (left n : ℕ) → Type 0
Reads skip h left n = (rest : List ℕ) → length rest ≡ left → n ≡ length (payload_of skip HandedOut h rest)
