-- One link: what it keeps of its last header, and what the next header on it yields (M1 to M4).
use Rattle.std.specs.Prelude.{ℕ, ◌+◌, ◌-◌, ◌%◌, Bool, false, not, ◌&&◌, ◌==◌, Option, Some, None}
use Rattle.basis.specs.Pick.{pick}
use Rattle.rdh.specs.declared.rdh_cru.RdhCru.{RdhCru}
use Rattle.link_continuity.specs.declared.LastHeader.{LastHeader}
use Rattle.link_continuity.specs.declared.LinkCheck.{LinkCheck}

-- ---- what is kept

-- The four values of a header that its link keeps (M1).
abbrev pub last_of : RdhCru → LastHeader
last_of h =
    record {
      packet_counter = h.packet_counter;
      pages_counter = h.rdh2.pages_counter;
      orbit = h.rdh1.orbit;
      stop_bit = h.rdh2.stop_bit;
    }

-- A header that is put becomes the last one of its link, whatever was kept (M1).
abbrev pub keeps : RdhCru → Option LastHeader
keeps h = Some (last_of h)

-- ---- what must follow

-- Behind 255 comes 0 (M2).
abbrev pub next_packet_counter : LastHeader → ℕ
next_packet_counter l = (l.packet_counter + 1) % 256

-- Any stop bit but 0 is a stop (M3).
abbrev pub stops : LastHeader → Bool
stops l = not (l.stop_bit == 0)

-- Behind 65,535 comes 0; behind a stop, 0 as well (M3).
abbrev pub next_pages_counter : LastHeader → ℕ
next_pages_counter l = pick (stops l) 0 ((l.pages_counter + 1) % 65536)

-- ---- what a header yields

-- Behind a last header: a flag for each value that is not as it must be, of the orbit only where no stop lies between (M3), and the packet
-- counter minus the expected one, modulo 256 (M4).
unfoldable pub behind : LastHeader → LastHeader → LinkCheck
behind l h =
    record {
      packet_counter = not (h.packet_counter == next_packet_counter l);
      pages_counter = not (h.pages_counter == next_pages_counter l);
      orbit = not (stops l) && not (h.orbit == l.orbit);
      distance = (h.packet_counter + (256 - next_packet_counter l)) % 256;
    }

-- No flag, and no distance.
abbrev pub no_flag : LinkCheck
no_flag = record { packet_counter = false; pages_counter = false; orbit = false; distance = 0 }

-- The first header on a link is taken as it comes (M4).
unfoldable pub yields : Option LastHeader → RdhCru → LinkCheck
yields None h = no_flag
yields (Some l) h = behind l (last_of h)
