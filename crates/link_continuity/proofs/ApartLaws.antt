-- Proof that each link is by itself: what its headers yield, and what it then keeps, is that of one link alone.
use Rattle.std.specs.Prelude.{◌≡◌, ℕ, Bool, true, false, List, [], ◌∷◌, ◌++◌, ◌==◌, nat_eq, refl, Option}
use Rattle.std.proofs.Common.{ap, ap₂, sym, ◌∙◌, eqb-true}
use Rattle.basis.specs.Pick.{pick}
use Rattle.basis.specs.PickLaws.{off, on}
use Rattle.rdh.specs.declared.rdh_cru.RdhCru.{RdhCru}
use Rattle.link_continuity.specs.ContinuityClaims.{LastIsKept, LinksApart, OwnHeadersAlone}
use Rattle.link_continuity.specs.Link.{keeps, yields}
use Rattle.link_continuity.specs.Links.{Links, headers_on, links_after, links_after_all, yielded, yielded_on, yields_on}
use Rattle.link_continuity.specs.declared.LinkCheck.{LinkCheck}
use Rattle.link_continuity.specs.declared.LastHeader.{LastHeader}

-- ---- one link alone

-- What headers yield on a link of which this is kept, and what it then keeps.
abbrev pub alone : Option LastHeader → List RdhCru → List LinkCheck
alone kept [] = []
alone kept (h ∷ hs) = yields kept h ∷ alone (keeps h) hs

abbrev pub kept_alone : Option LastHeader → List RdhCru → Option LastHeader
kept_alone kept [] = kept
kept_alone kept (h ∷ hs) = kept_alone (keeps h) hs

-- ---- a header of the link, or of another one

module _ (link : ℕ) (links : Links) (h : RdhCru) where
  renewed : nat_eq h.link_id link ≡ true → links_after links h link ≡ keeps h
  unfolding links_after
  renewed own = on _ _ own

  untouched : nat_eq h.link_id link ≡ false → links_after links h link ≡ links link
  unfolding links_after
  untouched other = off _ _ other

  own_yields : nat_eq h.link_id link ≡ true → yields_on links h ≡ yields (links link) h
  own_yields own = ap (λ (n : ℕ). yields (links n) h) (eqb-true h.link_id link own)

-- ---- among the others

-- a link's headers yield among the others what they yield on the link alone
pub yields_alone : (link : ℕ) (links : Links) (hs : List RdhCru) → yielded_on link links hs ≡ alone (links link) (headers_on link hs)
unfolding yielded_on headers_on
yields_alone link links [] = refl
yields_alone link links (h ∷ hs) = met (yields_alone link (links_after links h) hs) (h.link_id == link) refl
  where
    met : yielded_on link (links_after links h) hs ≡ alone (links_after links h link) (headers_on link hs) → (b : Bool)
        → (h.link_id == link) ≡ b
        → pick b (yields_on links h ∷ []) [] ++ yielded_on link (links_after links h) hs ≡ alone (links link) (pick b (h ∷ []) [] ++ headers_on link hs)
    met after true own =
        ap₂ (λ (c : LinkCheck) (cs : List LinkCheck). c ∷ cs) (own_yields link links h own)
        (after ∙ ap (λ (k : Option LastHeader). alone k (headers_on link hs)) (renewed link links h own))
    met after false other = after ∙ ap (λ (k : Option LastHeader). alone k (headers_on link hs)) (untouched link links h other)

-- and leave what they leave there
pub keeps_alone : (link : ℕ) (links : Links) (hs : List RdhCru) → links_after_all links hs link ≡ kept_alone (links link) (headers_on link hs)
unfolding links_after_all headers_on
keeps_alone link links [] = refl
keeps_alone link links (h ∷ hs) = met (keeps_alone link (links_after links h) hs) (h.link_id == link) refl
  where
    met : links_after_all (links_after links h) hs link ≡ kept_alone (links_after links h link) (headers_on link hs) → (b : Bool)
        → (h.link_id == link) ≡ b
        → links_after_all (links_after links h) hs link ≡ kept_alone (links link) (pick b (h ∷ []) [] ++ headers_on link hs)
    met after true own = after ∙ ap (λ (k : Option LastHeader). kept_alone k (headers_on link hs)) (renewed link links h own)
    met after false other = after ∙ ap (λ (k : Option LastHeader). kept_alone k (headers_on link hs)) (untouched link links h other)

-- ---- without the others

-- where all headers are of one link, each yields on it
own_alone : (link : ℕ) (links : Links) (hs : List RdhCru) → yielded links (headers_on link hs) ≡ alone (links link) (headers_on link hs)
unfolding yielded headers_on
own_alone link links [] = refl
own_alone link links (h ∷ hs) = met (λ (now : Links). own_alone link now hs) (h.link_id == link) refl
  where
    met : ((now : Links) → yielded now (headers_on link hs) ≡ alone (now link) (headers_on link hs)) → (b : Bool) → (h.link_id == link) ≡ b
        → yielded links (pick b (h ∷ []) [] ++ headers_on link hs) ≡ alone (links link) (pick b (h ∷ []) [] ++ headers_on link hs)
    met from true own =
        ap₂ (λ (c : LinkCheck) (cs : List LinkCheck). c ∷ cs) (own_yields link links h own)
        (from (links_after links h) ∙ ap (λ (k : Option LastHeader). alone k (headers_on link hs)) (renewed link links h own))
    met from false other = from links

-- a link's headers picked out once more are the same
own_again : (link : ℕ) (hs : List RdhCru) → headers_on link (headers_on link hs) ≡ headers_on link hs
unfolding headers_on
own_again link [] = refl
own_again link (h ∷ hs) = met (own_again link hs) (h.link_id == link) refl
  where
    met : headers_on link (headers_on link hs) ≡ headers_on link hs → (b : Bool) → (h.link_id == link) ≡ b → headers_on link (pick b (h ∷ []) [] ++ headers_on link hs) ≡ pick b (h ∷ []) [] ++ headers_on link hs
    met again true own = ap₂ (λ (first rest : List RdhCru). first ++ rest) (on _ _ own) again
    met again false other = again

-- ---- the statements

pub links_apart : LinksApart
links_apart link links others headers same =
    record {
      yields = yields_alone link links headers
          ∙ ap (λ (k : Option LastHeader). alone k (headers_on link headers)) same
          ∙ sym (own_alone link others headers);
      keeps = keeps_alone link links headers
          ∙ ap (λ (k : Option LastHeader). kept_alone k (headers_on link headers)) same
          ∙ sym (keeps_alone link others (headers_on link headers) ∙ ap (kept_alone (others link)) (own_again link headers));
    }

pub own_headers_alone : OwnHeadersAlone
own_headers_alone link links others headers headers' same own =
    record {
      yields = yields_alone link links headers ∙ ap₂ alone same own ∙ sym (yields_alone link others headers');
      keeps = keeps_alone link links headers ∙ ap₂ kept_alone same own ∙ sym (keeps_alone link others headers');
    }

-- the last of a list is what is kept after it
pub keeps_the_last : (kept : Option LastHeader) (earlier : List RdhCru) (h : RdhCru) → kept_alone kept (earlier ++ (h ∷ [])) ≡ keeps h
keeps_the_last kept [] h = refl
keeps_the_last kept (e ∷ es) h = keeps_the_last (keeps e) es h

pub last_is_kept : LastIsKept
last_is_kept link links headers =
    record {
      last = λ earlier h own. keeps_alone link links headers ∙ ap (kept_alone (links link)) own ∙ keeps_the_last (links link) earlier h;
      none = λ own. keeps_alone link links headers ∙ ap (kept_alone (links link)) own;
    }
