-- The statement that a filter only thins out what a quick look comes to (C7), and on what that rests (C8).
use Rattle.std.specs.Prelude.{ℕ, ◌≤◌, Bool, true, ◌≡◌, List, ◌++◌, eqb, length}
use Rattle.basis.specs.Each.{Each}
use Rattle.filter.specs.declared.FilterOpt.{FilterOpt}
use Rattle.its.specs.FeeIds.{same_stave}
use Rattle.rdh.specs.declared.rdh_cru.RdhCru.{RdhCru}
use Rattle.scan_cdp.specs.Outcomes.{header_fee_id, is_match, header_memory_size}
use Rattle.scan_cdp.specs.declared.Settings.{Settings}
use Rattle.scan_laws.specs.Runs.{is_refusal}
use Rattle.chain.specs.Calls.{Call, Windows, chain_ended, replies}
use Rattle.chain.specs.Chain.{Kept, chain}
use Rattle.chain.specs.PacketLists.{Packet}
use Rattle.chain.specs.Walk.{Met, walk}
use Rattle.chain_filter.specs.Scanned.{Scanned, filter_by_fee, filter_by_link, filter_by_stave, except_starts, headers_met, look_along, look_by, new_with, no_filter, quick, scanned_in, thinned}

-- ---- what is claimed

-- The scan with a filter is the whole one, thinned out, but for the starts of the loads: it hands out the packets whose headers the filter takes,
-- in the same order, with the same own positions, and has the same end.
abbrev pub ThinsOut : (taken : RdhCru → Bool) → (whole few : Scanned) → Type 0
ThinsOut taken whole few = except_starts few ≡ except_starts (thinned taken whole)

-- So it is with the two chains, and with any two lists of calls that come to the ends of their chains, through any windows.
pub record Thins (taken : RdhCru → Bool) (filters : FilterOpt) (recording : List ℕ) (start : Kept) : Type 0 where
  pub chains : ThinsOut taken (look_along recording no_filter start) (look_along recording filters start)
  pub scans : (calls calls' : List Call) → Windows recording calls → Windows recording calls'
      → chain_ended (replies (quick no_filter) start calls) ≡ true → chain_ended (replies (quick filters) start calls') ≡ true
      → ThinsOut taken (look_by no_filter start calls) (look_by filters start calls')

-- ---- the theorem

-- Every header on the chain without a filter has a memory size of 64 or more.
abbrev pub NoneTooSmall : List ℕ → Kept → Type 0
NoneTooSmall recording start = Each (λ (h : RdhCru). 64 ≤ header_memory_size h) (headers_met (walk recording (quick no_filter) start))

-- Any filters, of which several may be set; and each kind alone, with what it takes written out.
pub record EachKindThins (recording : List ℕ) (start : Kept) : Type 0 where
  pub any : (filters : FilterOpt) → Thins (is_match (quick filters)) filters recording start
  pub link : (n : ℕ) → Thins (λ (h : RdhCru). eqb h.link_id n) (filter_by_link n) recording start
  pub fee : (n : ℕ) → Thins (λ (h : RdhCru). eqb (header_fee_id h) n) (filter_by_fee n) recording start
  pub stave : (n : ℕ) → Thins (λ (h : RdhCru). same_stave (header_fee_id h) n) (filter_by_stave n) recording start

-- From a new state at the start of a recording, with any FEE list.
abbrev pub FilterThins : Type 0
FilterThins = (recording fee_ids : List ℕ) → NoneTooSmall recording (new_with fee_ids) → EachKindThins recording (new_with fee_ids)

-- ---- on what it rests

-- Where the chain without a filter meets refusal 3, the filter takes the header. A header that it does not take, and that is too small, it passes
-- by its offset, where the chain without a filter ends.
abbrev pub TooSmallTaken : (RdhCru → Bool) → List ℕ → Kept → Type 0
TooSmallTaken taken recording start =
    Each (λ (m : Met). is_refusal 3 m.entry.answer ≡ true → taken m.header ≡ true) (walk recording (quick no_filter) start)

-- That is enough, from any state and list.
abbrev pub FilterThinsAnywhere : Type 0
FilterThinsAnywhere =
    (recording : List ℕ) (filters : FilterOpt) (start : Kept) → TooSmallTaken (is_match (quick filters)) recording start
    → Thins (is_match (quick filters)) filters recording start

-- And nothing less is: where a filter thins out the chain, it is so. At a header that is too small and not taken, the chain without a filter ends,
-- and the other one goes on to an end at a higher position.
abbrev pub OnlyThen : Type 0
OnlyThen =
    (recording : List ℕ) (filters : FilterOpt) (start : Kept)
    → ThinsOut (is_match (quick filters)) (look_along recording no_filter start) (look_along recording filters start)
    → TooSmallTaken (is_match (quick filters)) recording start

-- Without it no packet is lost: the scan with the filter begins with the packets that it would have with it, and others may follow.
pub record BeginsThinned (taken : RdhCru → Bool) (whole few : Scanned) : Type 0 where
  pub others : List Packet
  pub packets : (except_starts few).packets ≡ (except_starts (thinned taken whole)).packets ++ others

abbrev pub NoneLost : Type 0
NoneLost =
    (recording : List ℕ) (filters : FilterOpt) (start : Kept)
    → BeginsThinned (is_match (quick filters)) (look_along recording no_filter start) (look_along recording filters start)

-- The premise of the theorem gives it for every filter: a chain with no header that is too small has no refusal 3.
abbrev pub PremiseGives : Type 0
PremiseGives =
    (recording : List ℕ) (start : Kept) → NoneTooSmall recording start → (taken : RdhCru → Bool) → TooSmallTaken taken recording start

-- Each chain has one end, so that two ends which are the same are not just both lacking.
abbrev pub OneEnd : Type 0
OneEnd = (recording : List ℕ) (set : Settings) (start : Kept) → length (scanned_in (chain recording set start)).end ≡ 1
