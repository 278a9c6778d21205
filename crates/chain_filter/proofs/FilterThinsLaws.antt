-- Proof that a filter only thins out: with payload skipped and statistics off the two chains keep the same but for the open load, and a header
-- that the filter does not take is passed by its offset, by which the chain without a filter goes on behind it, too.
use Rattle.std.specs.Prelude.{ℕ, ◌+◌, ◌/◌, ◌<◌, ◌≤◌, Bool, true, false, ◌||◌, ◌≡◌, refl, eqb, length, drop}
use Rattle.std.proofs.lemmas.Bool.{false≢true}
use Rattle.std.proofs.Common.{ap, sym, subst, subst₂, ◌∙◌, arith, eqb-true}
use mathlib.Core.List.{List, [], ◌∷◌, ◌++◌, flat_map, map}
use Rattle.basis.specs.Each.{Each}
use Rattle.basis.specs.Pick.{pick}
use Rattle.basis.specs.PickLaws.{off}
use Rattle.basis.specs.Refusals.{Answer, gives, refuses}
use Rattle.filter.specs.declared.FilterOpt.{FilterOpt}
use Rattle.rdh.specs.declared.rdh_cru.RdhCru.{RdhCru}
use Rattle.scan_cdp.specs.Answers.{Found}
use Rattle.scan_cdp.specs.Outcomes.{is_match, header_memory_size}
use Rattle.scan_cdp.specs.Steps.{Entry, answer_in, ended, entry_of, outcome_in}
use Rattle.scan_cdp.specs.declared.Outcome.{Outcome}
use Rattle.scan_cdp.specs.declared.Outcome.TheVariants.{FeeIdsFull, BadOffset, MemorySize, Passed, HandedOut}
use Rattle.scan_cdp.specs.declared.Position.{Position}
use Rattle.scan_cdp.specs.declared.Settings.{Settings}
use Rattle.scan_laws.proofs.OutcomeLaws.{Known, known_here}
use Rattle.scan_laws.specs.Runs.{closes, is_refusal}
use Rattle.scan_laws.proofs.StepLaws.{step_cases}
use Rattle.chain.specs.Calls.{Call, Windows, chain_ended, replies}
use Rattle.chain.specs.Chain.{Kept, chain, chain_of, is_last, left, next, place_of}
use Rattle.chain.proofs.GatheredLaws.{Pairwise, each_part, gathered_alike, gathered_as, gathered_twice}
use Rattle.chain.proofs.InStepLaws.{BothStep, in_step}
use Rattle.chain.specs.OwnPositions.{open_at}
use Rattle.chain.specs.PacketLists.{Packet}
use Rattle.chain.proofs.PacketsLaws.{telling_packets}
use Rattle.chain.proofs.TellingLaws.{all_told}
use Rattle.chain.specs.Walk.{Met, header_at, walk}
use Rattle.chain.proofs.WalkLaws.{each_met, walk_unfolds}
use Rattle.chain_filter.proofs.EndLaws.{end_of, telling_ends}
use Rattle.chain_filter.proofs.FilterStepLaws.{Alike, opened, packet_of, step_alike}
use Rattle.chain_filter.specs.FilterThinsClaims.{FilterThins, FilterThinsAnywhere, PremiseGives, Thins, ThinsOut, TooSmallTaken}
use Rattle.chain_filter.specs.Scanned.{filter_by_fee, filter_by_link, filter_by_stave, end_in, except_load, except_start, headers_met, if_taken, new_with, no_filter, quick, scanned_by, scanned_in, taken_of}

-- ---- the two chains

module _ (recording : List ℕ) (filters : FilterOpt) where
  abbrev is_taken : RdhCru → Bool
  is_taken = is_match (quick filters)

  abbrev whole : Settings
  whole = quick no_filter

  -- What the two keep: the same but for the open load; and no harm is ahead.
  abbrev Related : Kept → Kept → Type 0
  Related k k' = (except_load k ≡ except_load k') × TooSmallTaken is_taken recording k

  pub next_alike : (k k' : Kept) → except_load k ≡ except_load k'
      → (is_refusal 3 (next recording whole k).answer ≡ true → is_taken (header_at recording k) ≡ true)
      → Alike is_taken (next recording whole k) (next recording (quick filters) k')
  next_alike k k' same harmless =
      subst (λ (base : Kept). Alike is_taken (next recording whole k) (next recording (quick filters) (opened (open_at k') base))) same
      (step_alike filters (except_load k) (open_at k) (open_at k') (drop (place_of k) recording) (length recording) harmless)

  both_step : (k k' : Kept) → Related k k'
      → BothStep left is_last left is_last Related (Alike is_taken) (next recording whole k) (next recording (quick filters) k')
  both_step k k' (same, harmless) =
      let (here, behind) = subst (Each _) (walk_unfolds recording whole k) harmless in
      let alike = next_alike k k' same here in
      record { alike = alike; together = alike.together; onward = λ goes. (alike.kept, subst (Each _) (off _ _ goes) behind) }

  chains_alike : (start : Kept) → TooSmallTaken is_taken recording start
      → Pairwise (Alike is_taken) (chain recording whole start) (chain recording (quick filters) start)
  unfolding chain chain_of
  chains_alike start harmless =
      in_step left is_last left is_last Related (Alike is_taken) (next recording whole) (next recording (quick filters)) both_step
      (length recording / 64 + 1) start start (refl, harmless)

-- Packets that are taken are gathered one by one.
taken_gathered : (taken : RdhCru → Bool) (ps : List Packet) → taken_of taken ps ≡ flat_map (if_taken taken) ps
unfolding taken_of flat_map
taken_gathered taken [] = refl
taken_gathered taken (p ∷ ps) = ap (λ (others : List Packet). if_taken taken p ++ others) (taken_gathered taken ps)

-- The packets of a list of entries, and those of them that are taken, but for their loads' starts.
abbrev pub packets_told : Entry (List ℕ) → List Packet
packets_told e = map except_start (packet_of e)

abbrev pub thinned_of : (RdhCru → Bool) → Entry (List ℕ) → List Packet
thinned_of taken e = map except_start (flat_map (if_taken taken) (packet_of e))

pub thinned_gathered : (taken : RdhCru → Bool) (es : List (Entry (List ℕ)))
    → map except_start (taken_of taken (flat_map packet_of es)) ≡ flat_map (thinned_of taken) es
thinned_gathered taken es =
    ap (map except_start) (taken_gathered taken (flat_map packet_of es) ∙ gathered_twice (if_taken taken) packet_of es)
    ∙ gathered_as except_start (λ e. flat_map (if_taken taken) (packet_of e)) es

-- Entries that are alike tell of the same packets, where these are taken, and of the same end.
alike_thins : (taken : RdhCru → Bool) (es es' : List (Entry (List ℕ))) → Pairwise (Alike taken) es es'
    → ThinsOut taken (scanned_in es) (scanned_in es')
alike_thins taken es es' pairs = λ i. record { packets = packets i; end = end i }
  where
    packets : map except_start (flat_map packet_of es') ≡ map except_start (taken_of taken (flat_map packet_of es))
    packets =
        gathered_as except_start packet_of es'
        ∙ sym (gathered_alike (Alike taken) (thinned_of taken) packets_told (λ e e' alike. sym alike.packets) es es' pairs)
        ∙ sym (thinned_gathered taken es)

    end : flat_map end_of es' ≡ flat_map end_of es
    end = sym (gathered_alike (Alike taken) end_of end_of (λ e e' alike. sym alike.end) es es' pairs)

-- ---- the scans

-- Calls that come to the end of their chain come to what the chain does.
scanned_whole : (recording : List ℕ) (set : Settings) (start : Kept) (calls : List Call) → Windows recording calls
    → chain_ended (replies set start calls) ≡ true → scanned_by (replies set start calls) ≡ scanned_in (chain recording set start)
scanned_whole recording set start calls windows end = λ i.
    record {
      packets = all_told _ telling_packets recording set start calls windows end i;
      end = all_told end_in telling_ends recording set start calls windows end i;
    }

pub filter_thins_anywhere : FilterThinsAnywhere
filter_thins_anywhere recording filters start harmless =
    let chains =
    alike_thins (is_match (quick filters)) (chain recording (quick no_filter) start) (chain recording (quick filters) start)
    (chains_alike recording filters start harmless) in
    record {
      chains = chains;
      scans = λ calls calls' windows windows' end end'.
          subst₂ (ThinsOut (is_match (quick filters))) (sym (scanned_whole recording (quick no_filter) start calls windows end))
          (sym (scanned_whole recording (quick filters) start calls' windows' end')) chains;
    }

-- ---- the theorem's premise

-- Refusal 3 is at a header that is too small.
three_small : (recording : List ℕ) (set : Settings) (k : Kept) → is_refusal 3 (next recording set k).answer ≡ true
    → header_memory_size (header_at recording k) < 64
unfolding ended entry_of
three_small recording set k =
    step_cases set k.state k.fee_ids (drop (place_of k) recording) (length recording)
    (λ e. is_refusal 3 e.answer ≡ true → header_memory_size h < 64)
    (λ six is. absurd (false≢true is)) (λ usable short is. absurd (false≢true is))
    (λ usable long. by_outcome (outcome_in set k.state.progress k.fee_ids h) _ _ _ (known_here set k.state k.fee_ids h))
  where
    h : RdhCru
    h = header_at recording k

    by_outcome : (t : Outcome) (payload : List ℕ) (start position : Position) → Known set h t
        → is_refusal 3 (answer_in t h payload start position) ≡ true → header_memory_size h < 64
    by_outcome FeeIdsFull payload start position known is = absurd (false≢true is)
    by_outcome BadOffset payload start position known is = absurd (false≢true is)
    by_outcome MemorySize payload start position known is = known.small
    by_outcome Passed payload start position known is = absurd (false≢true is)
    by_outcome HandedOut payload start position known is = absurd (false≢true is)

-- It looks at its header, as no closing refusal does.
three_looks : (a : Answer (Found (List ℕ))) → is_refusal 3 a ≡ true → closes a ≡ false
three_looks (gives found) is = absurd (false≢true is)
three_looks (refuses number values) is = ap (λ (n : ℕ). eqb n 1 || eqb n 6) (eqb-true number 3 is)

pub premise_gives : PremiseGives
unfolding flat_map
premise_gives recording start large taken =
    along (walk recording (quick no_filter) start) (each_met recording (quick no_filter) Small (three_small recording (quick no_filter)) start) large
  where
    Small : Met → Type 0
    Small m = is_refusal 3 m.entry.answer ≡ true → header_memory_size m.header < 64

    Large : RdhCru → Type 0
    Large h = 64 ≤ header_memory_size h

    along : (ms : List Met) → Each Small ms → Each Large (headers_met ms)
        → Each (λ (m : Met). is_refusal 3 m.entry.answer ≡ true → taken m.header ≡ true) ms
    along [] small large = tt
    along (m ∷ ms) (here, small) large =
        let (this, others) = each_part Large (pick (closes m.entry.answer) [] (m.header ∷ [])) (headers_met ms) large in
        ((λ is. absurd (omega (arith, here is, (subst (Each Large) (off _ _ (three_looks m.entry.answer is)) this).0))), along ms small others)

pub filter_thins : FilterThins
filter_thins recording fee_ids large =
    let any : (filters : FilterOpt) → Thins (is_match (quick filters)) filters recording (new_with fee_ids) = λ filters.
    filter_thins_anywhere recording filters (new_with fee_ids) (premise_gives recording (new_with fee_ids) large (is_match (quick filters))) in
    record { any = any; link = λ n. any (filter_by_link n); fee = λ n. any (filter_by_fee n); stave = λ n. any (filter_by_stave n) }
