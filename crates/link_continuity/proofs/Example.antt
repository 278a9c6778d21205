-- Examples, which no public contract cites: what a header yields behind another one, at every wrap and at every stop, computed; and two links in
-- turns, of which one lost a packet, computed and by the laws.
use Rattle.std.specs.Prelude.{◌≡◌, ℕ, Bool, true, false, List, [], ◌∷◌, map, refl, Some, None}
use Rattle.std.proofs.Common.{ap}
use Rattle.rdh.specs.declared.rdh_cru.RdhCru.{RdhCru}
use Rattle.link_continuity.proofs.ApartLaws.{links_apart}
use Rattle.link_continuity.specs.ContinuityClaims.{Apart, RunsOn, ToldOnce, flagged}
use Rattle.link_continuity.proofs.InOrderLaws.{on_unflagged, one_lost_told}
use Rattle.link_continuity.specs.Link.{behind, no_flag, yields}
use Rattle.link_continuity.specs.Links.{Links, headers_on, links_after, links_after_all, yielded, yielded_on}
use Rattle.link_continuity.specs.declared.LastHeader.{LastHeader}
use Rattle.link_continuity.specs.declared.LinkCheck.{LinkCheck}

-- ---- two headers

-- Packet counter, pages counter, orbit and stop bit.
abbrev header : ℕ → ℕ → ℕ → ℕ → LastHeader
header packet pages orbit stop = record { packet_counter = packet; pages_counter = pages; orbit = orbit; stop_bit = stop }

-- The flags of packet counter, pages counter and orbit, and the distance.
abbrev flags : Bool → Bool → Bool → ℕ → LinkCheck
flags packet pages orbit distance = record { packet_counter = packet; pages_counter = pages; orbit = orbit; distance = distance }

-- The last header and the new one, and what that yields.
abbrev Row : Type 0
Row = LastHeader × LastHeader × LinkCheck

abbrev pub rows : List Row
rows =
    -- the packet counter: 254, 255, 0, and no other behind any of them
    (header 254 7 9 0, header 255 8 9 0, no_flag)
    ∷ (header 255 7 9 0, header 0 8 9 0, no_flag)
    ∷ (header 255 7 9 0, header 255 8 9 0, flags true false false 255)
    ∷ (header 255 7 9 0, header 1 8 9 0, flags true false false 1)
    ∷ (header 0 7 9 0, header 0 8 9 0, flags true false false 255)
    ∷ (header 0 7 9 0, header 255 8 9 0, flags true false false 254)
    -- the pages counter: 65,534, 65,535, 0
    ∷ (header 3 65534 9 0, header 4 65535 9 0, no_flag)
    ∷ (header 3 65535 9 0, header 4 0 9 0, no_flag)
    ∷ (header 3 65535 9 0, header 4 65535 9 0, flags false true false 0)
    ∷ (header 3 7 9 0, header 4 0 9 0, flags false true false 0)
    -- behind a stop, whatever bit it is, the page is 0 and the orbit free
    ∷ (header 3 7 9 1, header 4 0 10 0, no_flag)
    ∷ (header 3 7 9 2, header 4 0 9 0, no_flag)
    ∷ (header 3 7 9 255, header 4 0 0 1, no_flag)
    ∷ (header 3 7 9 1, header 4 8 9 0, flags false true false 0)
    ∷ (header 3 7 9 2, header 4 8 10 0, flags false true false 0)
    ∷ (header 3 65535 9 255, header 4 65535 9 0, flags false true false 0)
    -- without one the orbit stays, at its own wrap too
    ∷ (header 3 7 9 0, header 4 8 10 0, flags false false true 0)
    ∷ (header 3 7 4294967295 0, header 4 8 0 0, flags false false true 0)
    -- a packet lost, one that came twice, and all at once
    ∷ (header 3 7 9 0, header 5 9 9 0, flags true true false 1)
    ∷ (header 3 7 9 0, header 3 7 9 0, flags true true false 255)
    ∷ (header 3 7 9 0, header 9 3 8 0, flags true true true 5)
    ∷ []

pub computed : map (λ (r : Row). behind r.0 r.1) rows ≡ map (λ (r : Row). r.2) rows
unfolding behind
computed = refl

-- ---- two links

-- A header of a link with these values, and 0 in every other field.
abbrev on : ℕ → LastHeader → RdhCru
on link l =
    record {
      rdh0 = record {
        header_id = 0;
        header_size = 0;
        fee_id = record { 0 = 0 };
        priority_bit = 0;
        system_id = 0;
        reserved0 = 0;
      };
      offset_new_packet = 0;
      memory_size = 0;
      link_id = link;
      packet_counter = l.packet_counter;
      cruid_dw = record { 0 = 0 };
      rdh1 = record { bc_reserved0 = record { 0 = 0 }; orbit = l.orbit };
      dataformat_reserved0 = record { 0 = 0 };
      rdh2 = record { trigger_type = 0; pages_counter = l.pages_counter; stop_bit = l.stop_bit; reserved0 = 0 };
      reserved1 = 0;
      rdh3 = record { detector_field = 0; par_bit = 0; reserved0 = 0 };
      reserved2 = 0;
    }

-- Of link 2, whose packet 255 is to be lost.
abbrev before : RdhCru
before = on 2 (header 254 5 3 0)

abbrev lost : RdhCru
lost = on 2 (header 255 6 3 0)

abbrev next : RdhCru
next = on 2 (header 0 7 3 0)

-- Links 1 and 2 in turns. Link 1 has a stop, and goes on with another orbit.
abbrev pub turns : List RdhCru
turns = on 1 (header 7 0 9 0) ∷ before ∷ on 1 (header 8 1 9 1) ∷ next ∷ on 1 (header 9 0 10 0) ∷ []

abbrev nothing_kept : Links
nothing_kept link = None

-- What all five yield, and the two of link 2 among them; and what is kept then of link 1 and, with no header on it, of link 3.
pub all_yield : yielded nothing_kept turns ≡ no_flag ∷ no_flag ∷ no_flag ∷ flags true true false 1 ∷ no_flag ∷ []
unfolding yielded yields behind links_after
all_yield = refl

pub link_2_yields : yielded_on 2 nothing_kept turns ≡ no_flag ∷ flags true true false 1 ∷ []
unfolding yielded_on yields behind links_after
link_2_yields = refl

pub then_kept : (links_after_all nothing_kept turns 1 ≡ Some (header 9 0 10 0)) × (links_after_all nothing_kept turns 3 ≡ None)
unfolding links_after_all links_after
then_kept = (refl, refl)

-- Alone, from values that link 1 may have kept, link 2 yields the same.
pub link_2_apart : Apart 2 nothing_kept (links_after nothing_kept (on 1 (header 4 4 4 4))) turns
unfolding links_after
link_2_apart = links_apart 2 nothing_kept (links_after nothing_kept (on 1 (header 4 4 4 4))) turns refl

-- The law on a lost packet: with it link 2 would be in order.
runs : (l h : LastHeader) → behind l h ≡ no_flag → RunsOn l h
runs l h low = on_unflagged l h (ap flagged low)

pub told : ToldOnce true 1 1 0 (yielded_on 2 nothing_kept turns)
unfolding headers_on behind
told =
    one_lost_told 2 nothing_kept turns (before ∷ []) lost next []
    (record {
      left = refl;
      before = [];
      one = header 254 5 3 0;
      one_before = refl;
      in_order = (runs (header 254 5 3 0) (header 255 6 3 0) refl, (runs (header 255 6 3 0) (header 0 7 3 0) refl, tt));
    })
