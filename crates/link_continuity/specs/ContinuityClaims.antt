-- The statements on the links' packets: each link by itself (M5), what it keeps (M6), when it has no flag (M7), and what is told of packets
-- that were lost (M8).
use Rattle.std.specs.Prelude.{◌≡◌, ℕ, ◌+◌, ◌%◌, ◌<◌, Bool, true, false, not, ◌||◌, List, [], ◌∷◌, ◌++◌, map, length, replicate, ◌==◌, Option, Some, None}
use Rattle.basis.specs.Each.{Each}
use Rattle.rdh.specs.declared.rdh_cru.RdhCru.{RdhCru}
use Rattle.link_continuity.specs.Link.{keeps, last_of, no_flag}
use Rattle.link_continuity.specs.Links.{Links, headers_on, links_after_all, yielded, yielded_on}
use Rattle.link_continuity.specs.declared.LastHeader.{LastHeader}
use Rattle.link_continuity.specs.declared.LinkCheck.{LinkCheck}

-- ---- each link by itself

-- The headers of a link yield among those of other links what they yield alone, and leave the same to be kept of it.
pub record Apart (link : ℕ) (links others : Links) (headers : List RdhCru) : Type 0 where
  pub yields : yielded_on link links headers ≡ yielded others (headers_on link headers)
  pub keeps : links_after_all links headers link ≡ links_after_all others (headers_on link headers) link

-- So it is for any list of headers, from any two sets of kept values that agree on the link (M5) ..
abbrev pub LinksApart : Type 0
LinksApart = (link : ℕ) (links others : Links) (headers : List RdhCru) → links link ≡ others link → Apart link links others headers

-- .. and so any two lists that have the same headers on the link, in their order, yield the same on it, and leave the same to be kept of it.
pub record Alike (link : ℕ) (links others : Links) (headers headers' : List RdhCru) : Type 0 where
  pub yields : yielded_on link links headers ≡ yielded_on link others headers'
  pub keeps : links_after_all links headers link ≡ links_after_all others headers' link

abbrev pub OwnHeadersAlone : Type 0
OwnHeadersAlone =
    (link : ℕ) (links others : Links) (headers headers' : List RdhCru) → links link ≡ others link
    → headers_on link headers ≡ headers_on link headers' → Alike link links others headers headers'

-- After a list a link keeps the values of its last header or, with no header on it in the list, what it kept before (M6).
pub record KeepsLast (link : ℕ) (links : Links) (headers : List RdhCru) : Type 0 where
  pub last : (earlier : List RdhCru) (h : RdhCru) → headers_on link headers ≡ earlier ++ (h ∷ []) → links_after_all links headers link ≡ keeps h
  pub none : headers_on link headers ≡ [] → links_after_all links headers link ≡ links link

abbrev pub LastIsKept : Type 0
LastIsKept = (link : ℕ) (links : Links) (headers : List RdhCru) → KeepsLast link links headers

-- ---- in order

-- How the values of a header must run on behind those of the last one (M2, M3).
pub record RunsOn (l h : LastHeader) : Type 0 where
  pub packet : h.packet_counter ≡ (l.packet_counter + 1) % 256
  pub page : l.stop_bit ≡ 0 → h.pages_counter ≡ (l.pages_counter + 1) % 65536
  pub page_behind_stop : 0 < l.stop_bit → h.pages_counter ≡ 0
  pub same_orbit : l.stop_bit ≡ 0 → h.orbit ≡ l.orbit

-- A relation holds of each two neighbours of a list.
abbrev pub OnwardFrom : {A : Type 0} → (A → A → Type 0) → A → List A → Type 0
OnwardFrom R x [] = Unit {0}
OnwardFrom R x (y ∷ ys) = R x y × OnwardFrom R y ys

abbrev pub Neighbours : {A : Type 0} → (A → A → Type 0) → List A → Type 0
Neighbours R [] = Unit {0}
Neighbours R (x ∷ xs) = OnwardFrom R x xs

-- The values of a link's headers in their order, with those that are kept, if any, before the first.
abbrev pub kept_first : Option LastHeader → List LastHeader
kept_first None = []
kept_first (Some l) = l ∷ []

abbrev pub in_turn : Option LastHeader → List RdhCru → List LastHeader
in_turn kept headers = kept_first kept ++ map last_of headers

-- They run on, each behind the one before it.
abbrev pub InOrder : Option LastHeader → List RdhCru → Type 0
InOrder kept headers = Neighbours RunsOn (in_turn kept headers)

-- Whether a header has any flag.
abbrev pub flagged : LinkCheck → Bool
flagged c = c.packet_counter || (c.pages_counter || c.orbit)

-- No header of a link has a flag exactly if they are in order; each distance is then 0 (M7).
pub record UnflaggedExactly (link : ℕ) (links : Links) (headers : List RdhCru) : Type 0 where
  pub if_unflagged : Each (λ (c : LinkCheck). flagged c ≡ false) (yielded_on link links headers) → InOrder (links link) (headers_on link headers)
  pub if_in_order : InOrder (links link) (headers_on link headers)
      → yielded_on link links headers ≡ replicate (length (headers_on link headers)) no_flag

abbrev pub UnflaggedIfInOrder : Type 0
UnflaggedIfInOrder = (link : ℕ) (links : Links) (headers : List RdhCru) → UnflaggedExactly link links headers

-- ---- lost packets

-- Of all that is yielded, one check has the packet counter's flag as said, and this distance; those before it and those behind it have no flag.
pub record ToldOnce (flag : Bool) (distance before behind : ℕ) (checks : List LinkCheck) : Type 0 where
  pub check : LinkCheck
  pub all : checks ≡ replicate before no_flag ++ (check ∷ replicate behind no_flag)
  pub flags : check.packet_counter ≡ flag
  pub far : check.distance ≡ distance

-- A link's headers were in order, of which some were lost: those between `earlier` and h, with one before them, which is the last of
-- `earlier` or is kept.
pub record Lost (link : ℕ) (links : Links) (headers earlier lost : List RdhCru) (h : RdhCru) (later : List RdhCru) : Type 0 where
  pub left : headers_on link headers ≡ earlier ++ (h ∷ later)
  pub before : List LastHeader
  pub one : LastHeader
  pub one_before : in_turn (links link) earlier ≡ before ++ (one ∷ [])
  pub in_order : InOrder (links link) (earlier ++ (lost ++ (h ∷ later)))

-- If one packet was lost, the header behind it is flagged by its packet counter, with distance 1 (M8).
abbrev pub OneLostTold : Type 0
OneLostTold =
    (link : ℕ) (links : Links) (headers earlier : List RdhCru) (lost h : RdhCru) (later : List RdhCru)
    → Lost link links headers earlier (lost ∷ []) h later → ToldOnce true 1 (length earlier) (length later) (yielded_on link links headers)

-- However many were lost, the distance tells it modulo 256: a multiple of 256 is not flagged by the packet counter (M8).
abbrev pub LostTold : Type 0
LostTold =
    (link : ℕ) (links : Links) (headers earlier lost : List RdhCru) (h : RdhCru) (later : List RdhCru)
    → Lost link links headers earlier lost h later
    → ToldOnce (not (length lost % 256 == 0)) (length lost % 256) (length earlier) (length later) (yielded_on link links headers)
