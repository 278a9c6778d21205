-- Proof that calls on the lent arrays follow the definition of all links: a header is written where its link's entries are read, and nowhere else.
use Rattle.std.specs.Prelude.{◌≡◌, ℕ, Bool, true, false, List, [], ◌∷◌, ◌==◌}
use Rattle.std.proofs.Math.Path.{refl, sym, subst}
use Rattle.std.proofs.Common.{ap, ◌∙◌, arith}
use borrow.Author.Tests.{eqb-false, eqb-true}
use Rattle.std.proofs.Math.ListN.{length-set}
use Rattle.std.proofs.Math.Seq.{get_or-set_other, get_or-set_same}
use Rattle.basis.specs.PickLaws.{off, on}
use Rattle.rdh.specs.declared.rdh_cru.RdhCru.{RdhCru}
use Rattle.link_continuity.specs.Arrays.{LinkArrays, arrays_after, kept_of, links_of}
use Rattle.link_continuity.specs.ArraysClaims.{CallsAsDefined, ForAllLinks, OnALink, arrays_left, replies}
use Rattle.link_continuity.specs.Link.{keeps}
use Rattle.link_continuity.specs.Links.{Links, links_after, links_after_all, yielded, yields_on}
use Rattle.link_continuity.specs.declared.LinkCheck.{LinkCheck}

module _ (a : LinkArrays) (h : RdhCru) where
  -- the arrays are as long as before
  pub as_long : ForAllLinks a → ForAllLinks (arrays_after a h)
  unfolding arrays_after
  as_long long =
      let n = h.link_id in
      record {
        seen = length-set a.seen n 1 ∙ long.seen;
        packet-counters = length-set a.packet_counters n h.packet_counter ∙ long.packet-counters;
        pages-counters = length-set a.pages_counters n h.rdh2.pages_counter ∙ long.pages-counters;
        orbits = length-set a.orbits n h.rdh1.orbit ∙ long.orbits;
        stop-bits = length-set a.stop_bits n h.rdh2.stop_bit ∙ long.stop-bits;
      }

  -- at the header's own link they have its values
  own_entries : ForAllLinks a → OnALink h → links_of (arrays_after a h) h.link_id ≡ keeps h
  unfolding arrays_after kept_of
  own_entries long below =
      let n = h.link_id in
      λ i. kept_of (get_or-set_same a.seen n 1 0 (omega (arith, below, long.seen)) i)
      (record {
        packet_counter = get_or-set_same a.packet_counters n h.packet_counter 0 (omega (arith, below, long.packet-counters)) i;
        pages_counter = get_or-set_same a.pages_counters n h.rdh2.pages_counter 0 (omega (arith, below, long.pages-counters)) i;
        orbit = get_or-set_same a.orbits n h.rdh1.orbit 0 (omega (arith, below, long.orbits)) i;
        stop_bit = get_or-set_same a.stop_bits n h.rdh2.stop_bit 0 (omega (arith, below, long.stop-bits)) i;
      })

  -- at any other link they are as they were
  other_entries : (link : ℕ) → (link ≡ h.link_id → ⊥) → links_of (arrays_after a h) link ≡ links_of a link
  unfolding arrays_after
  other_entries link apart =
      let n = h.link_id in
      λ i. kept_of (get_or-set_other a.seen n link 1 0 apart i)
      (record {
        packet_counter = get_or-set_other a.packet_counters n link h.packet_counter 0 apart i;
        pages_counter = get_or-set_other a.pages_counters n link h.rdh2.pages_counter 0 apart i;
        orbit = get_or-set_other a.orbits n link h.rdh1.orbit 0 apart i;
        stop_bit = get_or-set_other a.stop_bits n link h.rdh2.stop_bit 0 apart i;
      })

  -- so that they say after a header what all links then keep
  pub says_after : ForAllLinks a → OnALink h → (link : ℕ) → links_of (arrays_after a h) link ≡ links_after (links_of a) h link
  unfolding links_after
  says_after long below link = met (h.link_id == link) refl
    where
      met : (b : Bool) → (h.link_id == link) ≡ b → links_of (arrays_after a h) link ≡ links_after (links_of a) h link
      met true own =
          subst (λ (n : ℕ). links_of (arrays_after a h) n ≡ keeps h) (eqb-true h.link_id link own) (own_entries long below) ∙ sym (on _ _ own)
      met false other = other_entries link (λ same. eqb-false h.link_id link other (sym same)) ∙ sym (off _ _ other)

pub calls_as_defined : CallsAsDefined
unfolding replies arrays_left yielded links_after_all
calls_as_defined a [] long each = record { yields = refl; keeps = λ link. refl }
calls_as_defined a (h ∷ hs) long (below, each) =
    let onward = calls_as_defined (arrays_after a h) hs (as_long a h long) each in
    let after : links_of (arrays_after a h) ≡ links_after (links_of a) h = λ i link. says_after a h long below link i in
    record {
      yields = ap (λ (cs : List LinkCheck). yields_on (links_of a) h ∷ cs) (onward.yields ∙ ap (λ (links : Links). yielded links hs) after);
      keeps = λ link. onward.keeps link ∙ ap (λ (links : Links). links_after_all links hs link) after;
    }
