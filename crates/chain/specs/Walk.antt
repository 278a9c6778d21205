-- The walk along a chain (C): for each entry what the scan kept before it, the header there, and the entry.
use Rattle.std.specs.Prelude.{ℕ, List, [], ◌∷◌, drop}
use Rattle.rdh.specs.declared.rdh_cru.RdhCru.{RdhCru}
use Rattle.serde_rdh.specs.Layout.{decoded}
use Rattle.scan_cdp.specs.Steps.{Entry}
use Rattle.scan_cdp.specs.declared.Settings.{Settings}
use Rattle.chain.specs.Chain.{Kept, chain, left, next, place_of}

-- Refusals 1 and 6 look at no header: what stands there with such an entry says nothing.
pub record Met : Type 0 where
  pub before : Kept
  pub header : RdhCru
  pub entry : Entry (List ℕ)

-- The header at the byte place of a scan.
abbrev pub header_at : List ℕ → Kept → RdhCru
header_at recording k = decoded (drop (place_of k) recording)

-- What is met next.
abbrev pub met : List ℕ → Settings → Kept → Met
met recording set k = record { before = k; header = header_at recording k; entry = next recording set k }

-- What is met along entries, each of which finds what the one before left.
unfoldable pub walk_along : List ℕ → Kept → List (Entry (List ℕ)) → List Met
walk_along recording k [] = []
walk_along recording k (e ∷ es) = record { before = k; header = header_at recording k; entry = e } ∷ walk_along recording (left e) es

-- The walk along the whole chain.
unfoldable pub walk : List ℕ → Settings → Kept → List Met
walk recording set start = walk_along recording start (chain recording set start)
