-- What the five arrays say that are lent for the links, and what a header leaves in them (M1).
use Rattle.std.specs.Prelude.{ℕ, List, ◌==◌, slice_index, slice_set, Option, Some, None}
use Rattle.basis.specs.Pick.{pick}
use Rattle.rdh.specs.declared.rdh_cru.RdhCru.{RdhCru}
use Rattle.link_continuity.specs.Links.{Links}
use Rattle.link_continuity.specs.declared.LastHeader.{LastHeader}

-- Each array has an entry for each link.
pub record LinkArrays : Type 0 where
  pub seen : List ℕ
  pub packet_counters : List ℕ
  pub pages_counters : List ℕ
  pub orbits : List ℕ
  pub stop_bits : List ℕ

abbrev pub arrays : (seen packet_counters pages_counters orbits stop_bits : List ℕ) → LinkArrays
arrays seen packet_counters pages_counters orbits stop_bits =
    record { seen = seen; packet_counters = packet_counters; pages_counters = pages_counters; orbits = orbits; stop_bits = stop_bits }

-- Where the first array has 0, nothing is kept of the link.
unfoldable pub kept_of : ℕ → LastHeader → Option LastHeader
kept_of seen l = pick (seen == 0) None (Some l)

-- What they say of each link.
abbrev pub links_of : LinkArrays → Links
links_of a link =
    kept_of (slice_index a.seen link)
    (record {
      packet_counter = slice_index a.packet_counters link;
      pages_counter = slice_index a.pages_counters link;
      orbit = slice_index a.orbits link;
      stop_bit = slice_index a.stop_bits link;
    })

-- A header is written at its link's place, with 1 for seen; every other entry stays as it is.
unfoldable pub arrays_after : LinkArrays → RdhCru → LinkArrays
arrays_after a h =
    arrays
    (slice_set a.seen h.link_id 1)
    (slice_set a.packet_counters h.link_id h.packet_counter)
    (slice_set a.pages_counters h.link_id h.rdh2.pages_counter)
    (slice_set a.orbits h.link_id h.rdh1.orbit)
    (slice_set a.stop_bits h.link_id h.rdh2.stop_bit)
