-- Proofs of what C7 rests on (C8). Where the chain without a filter ends with 3 at a header that the filter does not take, the two part: the other
-- one goes on, to an end at a higher position.
use Rattle.std.specs.Prelude.{ℕ, Bool, ◌≡◌, refl, length, drop}
use Rattle.std.proofs.Math.Bool.{true, false}
use Rattle.std.proofs.lemmas.Bool.{false≢true}
use Rattle.std.proofs.Common.{true≢false, subst, ◌∙◌, arith}
use Rattle.std.proofs.Math.Path.{ap, sym}
use mathlib.Core.List.{List, [], ◌∷◌, ◌++◌, append_assoc, append-nil, flat_map, map}
use Rattle.basis.specs.Each.{Each}
use Rattle.basis.specs.PickLaws.{by_test}
use Rattle.basis.specs.Refusals.{Answer, gives, refuses}
use Rattle.filter.specs.declared.FilterOpt.{FilterOpt}
use Rattle.rdh.specs.declared.rdh_cru.RdhCru.{RdhCru}
use Rattle.scan_cdp.specs.Answers.{Found}
use Rattle.scan_cdp.specs.Outcomes.{is_match}
use Rattle.scan_cdp.specs.Steps.{Entry}
use Rattle.scan_cdp.specs.declared.Position.{Position}
use Rattle.scan_laws.proofs.RowLaws.{either}
use Rattle.scan_laws.specs.Runs.{is_refusal}
use Rattle.chain.specs.Chain.{Kept, chain, is_last, is_refused, left, next, place_of}
use Rattle.chain.proofs.ChainLaws.{chain_induction, gathered_next}
use Rattle.chain.proofs.GatheredLaws.{gathered_as}
use Rattle.chain.specs.OwnPositions.{open_at}
use Rattle.chain.specs.PacketLists.{Packet, packet_in}
use Rattle.chain.specs.Walk.{header_at}
use Rattle.chain.proofs.WalkLaws.{walk_unfolds}
use Rattle.chain_filter.proofs.EndLaws.{NotBefore, end_here, end_not_before, end_onward, end_next, ends_from}
use Rattle.chain_filter.proofs.FilterStepLaws.{Parted, opened, packet_of, step_parts}
use Rattle.chain_filter.specs.FilterThinsClaims.{BeginsThinned, NoneLost, OnlyThen, TooSmallTaken}
use Rattle.chain_filter.proofs.FilterThinsLaws.{next_alike, thinned_gathered, thinned_of, packets_told}
use Rattle.chain_filter.specs.Scanned.{Scanned, except_load, except_start, if_taken, no_filter, quick, scanned_in}

-- ---- nothing less is enough

module _ (recording : List ℕ) (filters : FilterOpt) where
  -- Where the chain without the filter ends with 3 at a header that is not taken, the other one ends further on: so not at the same end.
  parts : (k k' : Kept) → except_load k ≡ except_load k'
      → is_refusal 3 (next recording (quick no_filter) k).answer ≡ true → is_match (quick filters) (header_at recording k) ≡ false
      → ends_from recording (quick filters) k' ≡ ends_from recording (quick no_filter) k → ⊥
  parts k k' same three other ends =
      let parted =
      subst (λ (base : Kept). Parted filters (except_load k) (open_at k) (open_at k') (drop (place_of k) recording) (length recording)
      (next recording (quick no_filter) k) (next recording (quick filters) (opened (open_at k') base))) same
      (step_parts filters (except_load k) (open_at k) (open_at k') (drop (place_of k) recording) (length recording) three other) in
      let behind = left (next recording (quick filters) k') in
      let one : ends_from recording (quick filters) behind ≡ end_next recording (quick no_filter) k ∷ [] =
      sym (end_onward recording (quick filters) k' parted.goes) ∙ ends ∙ end_here recording (quick no_filter) k parted.ends in
      let (not-before, none) = subst (NotBefore recording (quick filters) behind) one (end_not_before recording (quick filters) behind) in
      omega (arith, not-before, parted.further, ap (λ (p : Position). p.0) parted.stays)

  -- So what the two keep is the same up to the ends, if these are the same.
  only_from : (k k' : Kept) → except_load k ≡ except_load k' → ends_from recording (quick filters) k' ≡ ends_from recording (quick no_filter) k
      → TooSmallTaken (is_match (quick filters)) recording k
  only_from =
      chain_induction recording (quick no_filter)
      (λ k. (k' : Kept) → except_load k ≡ except_load k' → ends_from recording (quick filters) k' ≡ ends_from recording (quick no_filter) k
      → TooSmallTaken (is_match (quick filters)) recording k)
      (λ k onward k' same ends.
      let e = next recording (quick no_filter) k in
      let e' = next recording (quick filters) k' in
      let here : is_refusal 3 e.answer ≡ true → is_match (quick filters) (header_at recording k) ≡ true = λ three.
      either (is_match (quick filters) (header_at recording k)) (λ is. is) (λ other. absurd (parts k k' same three other ends)) in
      let alike = next_alike recording filters k k' same here in
      subst (Each _) (sym (walk_unfolds recording (quick no_filter) k)) (
        here,
        by_test (Each _) (is_last e) _ _ (λ last. tt) (λ goes.
            onward goes (left e') alike.kept
            (sym (end_onward recording (quick filters) k' (sym alike.together ∙ goes)) ∙ ends ∙ end_onward recording (quick no_filter) k goes)),
      ))

pub only_then : OnlyThen
only_then recording filters start thins = only_from recording filters start start refl (ap (λ (x : Scanned). x.end) thins)

-- ---- no packet is lost

-- A refused entry hands out no packet, and only such a one is refused with 3.
last_none : (e : Entry (List ℕ)) → is_last e ≡ true → packet_of e ≡ []
last_none e = none e.answer
  where
    none : (a : Answer (Found (List ℕ))) → is_refused a ≡ true → packet_in a ≡ []
    none (gives found) refused = absurd (false≢true refused)
    none (refuses number values) refused = refl

three_last : (e : Entry (List ℕ)) → is_last e ≡ false → is_refusal 3 e.answer ≡ true → ⊥
three_last e = not-given e.answer
  where
    not-given : (a : Answer (Found (List ℕ))) → is_refused a ≡ false → is_refusal 3 a ≡ true → ⊥
    not-given (gives found) given three = false≢true three
    not-given (refuses number values) given three = true≢false given

module _ (recording : List ℕ) (filters : FilterOpt) where
  abbrev is_taken : RdhCru → Bool
  is_taken = is_match (quick filters)

  -- the packets from here on with the filter, and those without it that are taken
  abbrev few : Kept → List Packet
  few k = flat_map packets_told (chain recording (quick filters) k)

  abbrev taken : Kept → List Packet
  taken k = flat_map (thinned_of is_taken) (chain recording (quick no_filter) k)

  abbrev Begins : Kept → Kept → Type 0
  Begins k k' = (others : List Packet) × (few k' ≡ taken k ++ others)

  -- where the chain without the filter ends, no packet of it is left; and before that the two are alike
  begins : (k k' : Kept) → except_load k ≡ except_load k' → Begins k k'
  unfolding flat_map
  begins =
      chain_induction recording (quick no_filter) (λ k. (k' : Kept) → except_load k ≡ except_load k' → Begins k k') (λ k onward k' same.
      let e = next recording (quick no_filter) k in
      let e' = next recording (quick filters) k' in
      either (is_last e)
      (λ last. (
        few k',
        ap (λ (ps : List Packet). map except_start (flat_map (if_taken is_taken) ps) ++ few k') (sym (last_none e last))
            ∙ ap (λ (ps : List Packet). ps ++ few k')
            (sym (append-nil (thinned_of is_taken e)) ∙ sym (gathered_next (thinned_of is_taken) recording (quick no_filter) k true last)),
      ))
      (λ goes.
      let alike = next_alike recording filters k k' same (λ three. absurd (three_last e goes three)) in
      let (others, is) = onward goes (left e') alike.kept in (
        others,
        gathered_next packets_told recording (quick filters) k' false (sym alike.together ∙ goes)
            ∙ (λ i. alike.packets i ++ is i)
            ∙ sym (append_assoc (thinned_of is_taken e) (taken (left e)) others)
            ∙ ap (λ (ps : List Packet). ps ++ others) (sym (gathered_next (thinned_of is_taken) recording (quick no_filter) k false goes)),
      )))

-- what is told of entries, one by one, is what is told of a scan
begins_thinned : (taken : RdhCru → Bool) (es es' : List (Entry (List ℕ))) (others : List Packet)
    → flat_map packets_told es' ≡ flat_map (thinned_of taken) es ++ others → BeginsThinned taken (scanned_in es) (scanned_in es')
begins_thinned taken es es' others is =
    record {
      others = others;
      packets = gathered_as except_start packet_of es' ∙ is ∙ ap (λ (ps : List Packet). ps ++ others) (sym (thinned_gathered taken es));
    }

pub none_lost : NoneLost
none_lost recording filters start =
    let (others, is) = begins recording filters start start refl in
    begins_thinned (is_match (quick filters)) (chain recording (quick no_filter) start) (chain recording (quick filters) start) others is
