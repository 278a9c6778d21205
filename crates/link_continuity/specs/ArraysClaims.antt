-- The statement that calls on the lent arrays, one after the other, yield and keep what the definition of all links says (M1, M5).
use Rattle.std.specs.Prelude.{◌≡◌, ℕ, ◌<◌, List, [], ◌∷◌, length}
use Rattle.basis.specs.Each.{Each}
use Rattle.rdh.specs.declared.rdh_cru.RdhCru.{RdhCru}
use Rattle.link_continuity.specs.Arrays.{LinkArrays, arrays_after, links_of}
use Rattle.link_continuity.specs.Links.{links_after_all, yielded, yields_on}
use Rattle.link_continuity.specs.declared.LinkCheck.{LinkCheck}

-- Each array has an entry for each link, as its type in the code says; and so a link's number, which is a byte, is below 256.
pub record ForAllLinks (a : LinkArrays) : Type 0 where
  pub seen : length a.seen ≡ 256
  pub packet-counters : length a.packet_counters ≡ 256
  pub pages-counters : length a.pages_counters ≡ 256
  pub orbits : length a.orbits ≡ 256
  pub stop-bits : length a.stop_bits ≡ 256

abbrev pub OnALink : RdhCru → Type 0
OnALink h = h.link_id < 256

-- What calls with these headers reply by their contract, each on the arrays as the one before left them, and how they leave the arrays.
unfoldable pub replies : LinkArrays → List RdhCru → List LinkCheck
replies a [] = []
replies a (h ∷ hs) = yields_on (links_of a) h ∷ replies (arrays_after a h) hs

unfoldable pub arrays_left : LinkArrays → List RdhCru → LinkArrays
arrays_left a [] = a
arrays_left a (h ∷ hs) = arrays_left (arrays_after a h) hs

-- They yield what the headers yield, and keep what is kept after them, of every link.
pub record AsDefined (a : LinkArrays) (headers : List RdhCru) : Type 0 where
  pub yields : replies a headers ≡ yielded (links_of a) headers
  pub keeps : (link : ℕ) → links_of (arrays_left a headers) link ≡ links_after_all (links_of a) headers link

abbrev pub CallsAsDefined : Type 0
CallsAsDefined = (a : LinkArrays) (headers : List RdhCru) → ForAllLinks a → Each OnALink headers → AsDefined a headers
