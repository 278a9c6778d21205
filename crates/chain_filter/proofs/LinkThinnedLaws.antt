-- Proof that a filter by link tells of that link's packets what the whole scan tells: the headers that are left are the link's own.
use Rattle.std.specs.Prelude.{ℕ, Bool, true, false, ◌≡◌, refl, List, [], ◌∷◌, ◌++◌, map, eqb}
use Rattle.std.proofs.Common.{ap, sym, ◌∙◌}
use Rattle.basis.specs.Pick.{pick}
use Rattle.rdh.specs.declared.rdh_cru.RdhCru.{RdhCru}
use Rattle.link_continuity.proofs.ApartLaws.{links_apart}
use Rattle.link_continuity.specs.Links.{headers_on, links_after_all, yielded}
use Rattle.chain.specs.PacketLists.{Packet, headers_of}
use Rattle.chain_filter.specs.LinkThinnedClaims.{LinkThinned}
use Rattle.chain_filter.specs.Scanned.{Scanned, except_start, taken_of}

-- the start of a packet's load is no part of its header
same_headers : (ps : List Packet) → headers_of (map except_start ps) ≡ headers_of ps
same_headers [] = refl
same_headers (p ∷ ps) = ap (λ (hs : List RdhCru). p.header ∷ hs) (same_headers ps)

-- the headers of the packets that the filter takes are those of the link
own_taken : (link : ℕ) (ps : List Packet) → headers_of (taken_of (λ (h : RdhCru). eqb h.link_id link) ps) ≡ headers_on link (headers_of ps)
unfolding taken_of headers_on
own_taken link [] = refl
own_taken link (p ∷ ps) = met (own_taken link ps) (eqb p.header.link_id link)
  where
    met : headers_of (taken_of (λ (h : RdhCru). eqb h.link_id link) ps) ≡ headers_on link (headers_of ps) → (b : Bool)
        → headers_of (pick b (p ∷ []) [] ++ taken_of (λ (h : RdhCru). eqb h.link_id link) ps)
        ≡ pick b (p.header ∷ []) [] ++ headers_on link (headers_of ps)
    met onward true = ap (λ (hs : List RdhCru). p.header ∷ hs) onward
    met onward false = onward

pub link_thinned : LinkThinned
link_thinned link links others whole few same thins =
    let left : headers_of few.packets ≡ headers_on link (headers_of whole.packets) =
    sym (same_headers few.packets)
    ∙ ap (λ (s : Scanned). headers_of s.packets) thins
    ∙ same_headers (taken_of (λ (h : RdhCru). eqb h.link_id link) whole.packets)
    ∙ own_taken link whole.packets in
    let apart = links_apart link links others (headers_of whole.packets) same in
    record {
      yields = apart.yields ∙ ap (yielded others) (sym left);
      keeps = apart.keeps ∙ ap (λ (hs : List RdhCru). links_after_all others hs link) (sym left);
    }
