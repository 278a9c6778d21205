-- All links: what they keep, what a header yields on its own, and lists of headers (M1, M5).
use Rattle.std.specs.Prelude.{ℕ, List, [], ◌∷◌, ◌++◌, ◌==◌, Option}
use Rattle.basis.specs.Pick.{pick}
use Rattle.rdh.specs.declared.rdh_cru.RdhCru.{RdhCru}
use Rattle.link_continuity.specs.Link.{keeps, yields}
use Rattle.link_continuity.specs.declared.LinkCheck.{LinkCheck}
use Rattle.link_continuity.specs.declared.LastHeader.{LastHeader}

-- What is kept of each link, by its number.
abbrev pub Links : Type 0
Links = ℕ → Option LastHeader

-- ---- one header

-- A header yields what its own link makes of it.
abbrev pub yields_on : Links → RdhCru → LinkCheck
yields_on links h = yields (links h.link_id) h

-- It becomes the last one of its link, and no other link changes (M1).
unfoldable pub links_after : Links → RdhCru → Links
links_after links h link = pick (h.link_id == link) (keeps h) (links link)

-- ---- a list of headers

-- What each yields, in their order.
unfoldable pub yielded : Links → List RdhCru → List LinkCheck
yielded links [] = []
yielded links (h ∷ hs) = yields_on links h ∷ yielded (links_after links h) hs

-- What is kept after them.
unfoldable pub links_after_all : Links → List RdhCru → Links
links_after_all links [] = links
links_after_all links (h ∷ hs) = links_after_all (links_after links h) hs

-- Something of a header, if it is one of this link.
abbrev pub if_on : {A : Type 0} → ℕ → RdhCru → A → List A
if_on link h a = pick (h.link_id == link) (a ∷ []) []

-- The headers of one link, in their order.
unfoldable pub headers_on : ℕ → List RdhCru → List RdhCru
headers_on link [] = []
headers_on link (h ∷ hs) = if_on link h h ++ headers_on link hs

-- What the headers of one link yield, in their order, among those of the other links.
unfoldable pub yielded_on : ℕ → Links → List RdhCru → List LinkCheck
yielded_on link links [] = []
yielded_on link links (h ∷ hs) = if_on link h (yields_on links h) ++ yielded_on link (links_after links h) hs
