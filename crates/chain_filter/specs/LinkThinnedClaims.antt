-- The statement that a filter by link tells of that link's packets what the whole scan tells (M9).
use Rattle.std.specs.Prelude.{ℕ, ◌≡◌, eqb}
use Rattle.rdh.specs.declared.rdh_cru.RdhCru.{RdhCru}
use Rattle.link_continuity.specs.Links.{Links, links_after_all, yielded, yielded_on}
use Rattle.chain.specs.PacketLists.{headers_of}
use Rattle.chain_filter.specs.FilterThinsClaims.{ThinsOut}
use Rattle.chain_filter.specs.Scanned.{Scanned}

-- What a link yields over the headers that the whole scan hands out, and then keeps, is what the scan of its packets alone comes to.
pub record ToldAlike (link : ℕ) (links others : Links) (whole few : Scanned) : Type 0 where
  pub yields : yielded_on link links (headers_of whole.packets) ≡ yielded others (headers_of few.packets)
  pub keeps : links_after_all links (headers_of whole.packets) link ≡ links_after_all others (headers_of few.packets) link

-- So it is where a filter by that link thins out the scan, as it does on a quick look (C7), from the same kept values of the link.
abbrev pub LinkThinned : Type 0
LinkThinned =
    (link : ℕ) (links others : Links) (whole few : Scanned) → links link ≡ others link
    → ThinsOut (λ (h : RdhCru). eqb h.link_id link) whole few → ToldAlike link links others whole few
