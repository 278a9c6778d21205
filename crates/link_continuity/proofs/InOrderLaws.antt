-- Proof that a link has no flag exactly if its headers are in order, and that packets which were lost are told at the header behind them.
use Rattle.std.specs.Prelude.{◌≡◌, ℕ, ◌+◌, ◌-◌, ◌%◌, ◌<◌, Bool, true, false, not, ◌&&◌, List, [], ◌∷◌, ◌++◌, map, length, replicate, ◌==◌, ◌≢◌, Option, Some, None}
use Rattle.std.proofs.Math.Path.{refl, ap}
use Rattle.std.proofs.Common.{ap₂, sym, subst, ◌∙◌, arith, eq-eqb, eqb-true, ne_eqb}
use Rattle.std.proofs.lemmas.Bool.{eqb-false, not-false}
use Rattle.basis.specs.Each.{Each}
use Rattle.basis.specs.PickLaws.{neither, off, on}
use Rattle.rdh.specs.declared.rdh_cru.RdhCru.{RdhCru}
use Rattle.link_continuity.proofs.ApartLaws.{alone, kept_alone, yields_alone}
use Rattle.link_continuity.specs.ContinuityClaims.{InOrder, LostTold, OneLostTold, OnwardFrom, RunsOn, UnflaggedIfInOrder, flagged, in_turn}
use Rattle.link_continuity.specs.Link.{behind, keeps, last_of, next_packet_counter, next_pages_counter, no_flag, yields}
use Rattle.link_continuity.proofs.LinkLaws.{same_test}
use Rattle.link_continuity.specs.Links.{headers_on}
use Rattle.link_continuity.specs.declared.LastHeader.{LastHeader}
use Rattle.link_continuity.specs.declared.LinkCheck.{LinkCheck}

-- ---- two headers

module _ (l h : LastHeader) where
  -- What must come for the pages counter, without and with a stop between the two.
  goes_on : l.stop_bit ≡ 0 → next_pages_counter l ≡ (l.pages_counter + 1) % 65536
  goes_on none = off _ _ (ap (λ (b : Bool). not b) (eq-eqb l.stop_bit 0 none))

  begins : 0 < l.stop_bit → next_pages_counter l ≡ 0
  begins stop = on _ _ (ap (λ (b : Bool). not b) (ne_eqb l.stop_bit 0 (λ none. omega (arith, none, stop))))

  -- A flag is up where its two numbers differ.
  lowered : (a b : ℕ) → a ≡ b → not (a == b) ≡ false
  lowered a b same = ap (λ (t : Bool). not t) (eq-eqb a b same)

  equal : (a b : ℕ) → not (a == b) ≡ false → a ≡ b
  equal a b low = eqb-true a b (not-false (a == b) low)

  pages_lowered : RunsOn l h → (b : Bool) → (l.stop_bit == 0) ≡ b → not (h.pages_counter == next_pages_counter l) ≡ false
  pages_lowered r true none =
      let none_is = eqb-true l.stop_bit 0 none in
      lowered h.pages_counter (next_pages_counter l) (r.page none_is ∙ sym (goes_on none_is))
  pages_lowered r false stop =
      let some : 0 < l.stop_bit = above l.stop_bit (eqb-false l.stop_bit 0 stop) in
      lowered h.pages_counter (next_pages_counter l) (r.page_behind_stop some ∙ sym (begins some))
    where
      above : (n : ℕ) → (n ≢ 0) → 0 < n
      above n none = omega (arith, none)

  orbit_lowered : RunsOn l h → (b : Bool) → (l.stop_bit == 0) ≡ b → (not (not b) && not (h.orbit == l.orbit)) ≡ false
  orbit_lowered r true none = lowered h.orbit l.orbit (r.same_orbit (eqb-true l.stop_bit 0 none))
  orbit_lowered r false stop = refl

  -- A header that runs on has no flag ..
  pub unflagged_on : RunsOn l h → behind l h ≡ no_flag
  unfolding behind
  unflagged_on r =
      let next : (h.packet_counter + (256 - next_packet_counter l)) % 256 ≡ 0 = omega (arith, r.packet) in
      λ i. record {
        packet_counter = lowered h.packet_counter (next_packet_counter l) r.packet i;
        pages_counter = pages_lowered r (l.stop_bit == 0) refl i;
        orbit = orbit_lowered r (l.stop_bit == 0) refl i;
        distance = next i;
      }

  -- .. and one without a flag runs on.
  pub on_unflagged : flagged (behind l h) ≡ false → RunsOn l h
  unfolding behind
  on_unflagged low =
      let (packet, others) = neither (behind l h).packet_counter _ low in
      let (pages, orbit) = neither (behind l h).pages_counter (behind l h).orbit others in
      let page : h.pages_counter ≡ next_pages_counter l = equal h.pages_counter (next_pages_counter l) pages in
      record {
        packet = equal h.packet_counter (next_packet_counter l) packet;
        page = λ none. page ∙ goes_on none;
        page_behind_stop = λ stop. page ∙ begins stop;
        same_orbit = λ none.
            equal h.orbit l.orbit
            (ap (λ (b : Bool). not (not b) && not (h.orbit == l.orbit)) (sym (eq-eqb l.stop_bit 0 none)) ∙ orbit);
      }

-- ---- the headers of one link

-- A header runs on behind what is kept, if anything is; and so do the headers behind it.
abbrev Next : Option LastHeader → RdhCru → Type 0
Next None h = Unit {0}
Next (Some l) h = RunsOn l (last_of h)

abbrev Runs : Option LastHeader → List RdhCru → Type 0
Runs kept [] = Unit {0}
Runs kept (h ∷ hs) = Next kept h × Runs (keeps h) hs

runs_behind : (l : LastHeader) (hs : List RdhCru) → OnwardFrom RunsOn l (map last_of hs) → Runs (Some l) hs
runs_behind l [] q = q
runs_behind l (h ∷ hs) (r, q) = (r, runs_behind (last_of h) hs q)

behind_runs : (l : LastHeader) (hs : List RdhCru) → Runs (Some l) hs → OnwardFrom RunsOn l (map last_of hs)
behind_runs l [] q = q
behind_runs l (h ∷ hs) (r, q) = (r, behind_runs (last_of h) hs q)

-- They are in order, and the other way round.
in_order_runs : (kept : Option LastHeader) (hs : List RdhCru) → InOrder kept hs → Runs kept hs
in_order_runs None [] q = q
in_order_runs None (h ∷ hs) q = (tt, runs_behind (last_of h) hs q)
in_order_runs (Some l) hs q = runs_behind l hs q

runs_in_order : (kept : Option LastHeader) (hs : List RdhCru) → Runs kept hs → InOrder kept hs
runs_in_order None [] q = q
runs_in_order None (h ∷ hs) (r, q) = behind_runs (last_of h) hs q
runs_in_order (Some l) hs q = behind_runs l hs q

-- A header that runs on yields no flag, and the other way round.
next_unflagged : (kept : Option LastHeader) (h : RdhCru) → Next kept h → yields kept h ≡ no_flag
unfolding yields
next_unflagged None h r = refl
next_unflagged (Some l) h r = unflagged_on l (last_of h) r

unflagged_next : (kept : Option LastHeader) (h : RdhCru) → flagged (yields kept h) ≡ false → Next kept h
unfolding yields
unflagged_next None h low = tt
unflagged_next (Some l) h low = on_unflagged l (last_of h) low

runs_unflagged : (kept : Option LastHeader) (hs : List RdhCru) → Runs kept hs → alone kept hs ≡ replicate (length hs) no_flag
runs_unflagged kept [] q = refl
runs_unflagged kept (h ∷ hs) (r, q) =
    ap₂ (λ (c : LinkCheck) (cs : List LinkCheck). c ∷ cs) (next_unflagged kept h r) (runs_unflagged (keeps h) hs q)

unflagged_runs : (kept : Option LastHeader) (hs : List RdhCru) → Each (λ (c : LinkCheck). flagged c ≡ false) (alone kept hs) → Runs kept hs
unflagged_runs kept [] q = q
unflagged_runs kept (h ∷ hs) (low, q) = (unflagged_next kept h low, unflagged_runs (keeps h) hs q)

pub unflagged_if_in_order : UnflaggedIfInOrder
unflagged_if_in_order link links headers =
    let own = headers_on link headers in
    let is = yields_alone link links headers in
    record {
      if_unflagged = λ low.
          runs_in_order (links link) own
          (unflagged_runs (links link) own (subst (Each (λ (c : LinkCheck). flagged c ≡ false)) is low));
      if_in_order = λ q. is ∙ runs_unflagged (links link) own (in_order_runs (links link) own q);
    }

-- ---- lost packets

-- Headers before others: what both yield, and that both run on.
alone_both : (kept : Option LastHeader) (earlier rest : List RdhCru) → alone kept (earlier ++ rest) ≡ alone kept earlier ++ alone (kept_alone kept earlier) rest
alone_both kept [] rest = refl
alone_both kept (e ∷ es) rest = ap (λ (cs : List LinkCheck). yields kept e ∷ cs) (alone_both (keeps e) es rest)

runs_both : (kept : Option LastHeader) (earlier rest : List RdhCru) → Runs kept (earlier ++ rest) → Runs kept earlier × Runs (kept_alone kept earlier) rest
runs_both kept [] rest q = (tt, q)
runs_both kept (e ∷ es) rest (r, q) = let (es-run, rest-runs) = runs_both (keeps e) es rest q in ((r, es-run), rest-runs)

-- What is kept after headers is the last of all values in their turn.
abbrev lastly : Option LastHeader → List LastHeader → Option LastHeader
lastly kept [] = kept
lastly kept (l ∷ ls) = lastly (Some l) ls

kept-lastly : (kept : Option LastHeader) (hs : List RdhCru) → kept_alone kept hs ≡ lastly kept (map last_of hs)
kept-lastly kept [] = refl
kept-lastly kept (h ∷ hs) = kept-lastly (keeps h) hs

turn_lastly : (kept : Option LastHeader) (hs : List RdhCru) → lastly kept (map last_of hs) ≡ lastly None (in_turn kept hs)
turn_lastly None hs = refl
turn_lastly (Some l) hs = refl

lastly_one : (kept : Option LastHeader) (before : List LastHeader) (one : LastHeader) → lastly kept (before ++ (one ∷ [])) ≡ Some one
lastly_one kept [] one = refl
lastly_one kept (b ∷ bs) one = lastly_one (Some b) bs one

-- The packet counter behind headers that run on.
counter_behind : (l : LastHeader) (lost : List RdhCru) (h : RdhCru) (later : List RdhCru) → Runs (Some l) (lost ++ (h ∷ later))
    → h.packet_counter ≡ (l.packet_counter + (length lost + 1)) % 256
counter_behind l [] h later (r, q) = omega (arith, r.packet)
counter_behind l (x ∷ xs) h later (r, q) =
    let ih = counter_behind (last_of x) xs h later q in
    omega (arith, r.packet, ih)

-- How far the header behind n lost ones is from the one before them, and whether it is flagged.
module _ (l h : LastHeader) (n : ℕ) (is : h.packet_counter ≡ (l.packet_counter + (n + 1)) % 256) where
  far_behind : (behind l h).distance ≡ n % 256
  unfolding behind
  far_behind = omega (arith, is)

  flag_behind : (behind l h).packet_counter ≡ not (n % 256 == 0)
  unfolding behind
  flag_behind =
      ap (λ (t : Bool). not t)
      (same_test h.packet_counter (next_packet_counter l) (n % 256) 0 (λ e. omega (arith, is, e)) (λ e. omega (arith, is, e)))

pub lost_told : LostTold
unfolding yields
lost_told link links headers earlier lost h later gone =
    let kept = links link in
    let one = gone.one in
    let (earlier-run, rest-run) = runs_both kept earlier (lost ++ (h ∷ later)) (in_order_runs kept (earlier ++ (lost ++ (h ∷ later))) gone.in_order) in
    let before : kept_alone kept earlier ≡ Some one =
    kept-lastly kept earlier ∙ turn_lastly kept earlier ∙ ap (lastly None) gone.one_before ∙ lastly_one None gone.before one in
    let behind-one : Runs (Some one) (lost ++ (h ∷ later)) = subst (λ (k : Option LastHeader). Runs k (lost ++ (h ∷ later))) before rest-run in
    let counter = counter_behind one lost h later behind-one in
    let later-run : Runs (keeps h) later = (runs_both (Some one) lost (h ∷ later) behind-one).1.1 in
    record {
      check = behind one (last_of h);
      all = yields_alone link links headers
          ∙ ap (alone kept) gone.left
          ∙ alone_both kept earlier (h ∷ later)
          ∙ ap₂ (λ (cs ds : List LinkCheck). cs ++ ds) (runs_unflagged kept earlier earlier-run)
          (ap (λ (k : Option LastHeader). alone k (h ∷ later)) before
          ∙ ap (λ (cs : List LinkCheck). behind one (last_of h) ∷ cs) (runs_unflagged (keeps h) later later-run));
      flags = flag_behind one (last_of h) (length lost) counter;
      far = far_behind one (last_of h) (length lost) counter;
    }

pub one_lost_told : OneLostTold
one_lost_told link links headers earlier lost h later gone = lost_told link links headers earlier (lost ∷ []) h later gone
