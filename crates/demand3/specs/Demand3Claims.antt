-- Demand 3 in one piece, clause by clause. Each part names a statement that stands in a file of its own.
use Rattle.chain.specs.AddedBytesClaims.{AddedBytes}
use Rattle.chain.specs.CallsFollowClaims.{CallsFollow, LeavesRest}
use Rattle.chain.specs.ChainEntriesClaims.{Allowance, EntryByEntry, OnlyEntries, RefusedLast}
use Rattle.chain.specs.CountedHeadersClaims.{CallsCount}
use Rattle.chain_filter.specs.FilterThinsClaims.{FilterThins, FilterThinsAnywhere, NoneLost, OneEnd, OnlyThen, PremiseGives}
use Rattle.chain_filter.specs.LinkThinnedClaims.{LinkThinned}
use Rattle.chain.specs.OwnPositionsClaims.{OwnAtHeader, OwnInCall, OwnNotBefore, OwnOverLoads, OwnUnfiltered}
use Rattle.chain.specs.PacketsClaims.{EachOnce, ExactlyMatching, MatchingInTurn, NoneMissing, ReachesEnd}
use Rattle.chain.specs.SkipsClaims.{EachSkipsAhead}
use Rattle.link_continuity.specs.ArraysClaims.{CallsAsDefined}
use Rattle.link_continuity.specs.ContinuityClaims.{LastIsKept, LinksApart, LostTold, OneLostTold, OwnHeadersAlone, UnflaggedIfInOrder}
use Rattle.scan_laws.specs.LoadRepliesClaims.{LoadsTellAll}
use Rattle.validators.specs.VerdictTextsClaims.{TextsLeft}
use Rattle.validators.specs.VerdictsClaims.{Follows}
use Rattle.demand3.specs.MarkedCases.{marked}
use Rattle.demand3.specs.MarkedCasesClaims.{AllAgree}

pub record Demand3 : Type 0 where
  -- C1: the chain is the next entry, and the chain from what that one left.
  pub entries : EntryByEntry
  -- C2: an entry is passed, handed out, or refused with 1 to 4 or, where state and list meet it, with 6.
  pub kinds : OnlyEntries
  -- C3: the last entry of a chain is refused, and no other one is.
  pub last : RefusedLast
  -- S10: from behind each header that is passed or handed out, the next one is 0 to 10,000 bytes ahead.
  pub skips : EachSkipsAhead
  -- S11: a chain has length / 64 + 1 entries at most, whatever more it is allowed.
  pub allowed : Allowance
  -- D3.1: for any list of calls on windows of any recording, the complete replies are the chain's entries, cut into consecutive runs.
  pub calls : CallsFollow
  -- L2: a load replies what the last examination of its call replies, with the marks of all of them; only the first can be initial.
  pub marks : LoadsTellAll
  -- D3.2: the headers that the chain hands out are exactly the matching ones that it does not refuse.
  pub exactly : ExactlyMatching
  -- D3.3: the calls hand out each packet once and in its turn, and leave none out.
  pub each : EachOnce
  -- D3.2 and D3.3 in one line: the headers that the calls hand out, followed by those still to come, are the matching ones.
  pub in-turn : MatchingInTurn
  -- D3.3: once a reply ended the chain nothing is to come, and before that the chain goes on from where the calls left off ..
  pub rest : LeavesRest
  -- .. so that, before that refusal, no matching header is missing.
  pub none_missing : NoneMissing
  -- D3.4: calls that are not held back come to the chain's end.
  pub ends : ReachesEnd
  -- S12: a packet has its load's start and, as its own, the position reported as its header was examined ..
  pub own : OwnAtHeader
  -- .. which, over a whole load and however many calls it takes, is that start and the offsets passed ..
  pub own_over_loads : OwnOverLoads
  -- .. and in a call, which may go on with an open load, the position where the call began and the offsets passed in it ..
  pub own_in_call : OwnInCall
  -- .. so that without a filter the two are one number, and the own one is never before the other.
  pub own_unfiltered : OwnUnfiltered
  pub own_not_before : OwnNotBefore
  -- K5, G5: the counts of seen headers and of triggers are those of the headers that the calls met on the walk and that were counted.
  pub counts : CallsCount
  -- D3.5, D3.6: added bytes change no entry but a closing refusal 1 and a last payload that was cut.
  pub added : AddedBytes
  -- C7: payload skipped and statistics off, a filter only thins out: the same packets but for those that it does not take, and the same end ..
  pub thins : FilterThins
  -- .. of which a chain has one.
  pub one_end : OneEnd
  -- C8: it rests on this alone, from any state, that refusal 3 is met at no header that the filter does not take; it holds only then ..
  pub thins_anywhere : FilterThinsAnywhere
  pub thins_only_then : OnlyThen
  -- .. the premise of C7, that no header is too small, gives it ..
  pub premise_gives : PremiseGives
  -- .. and without it no packet is lost.
  pub none_lost : NoneLost
  -- M1: checks on the links' arrays, one after the other, yield and keep what the definition of all links says.
  pub link_checks : CallsAsDefined
  -- M5: what a link yields, and then keeps, depends only on its own headers in their order, and on what was kept of it.
  pub links_apart : LinksApart
  pub own_headers : OwnHeadersAlone
  -- M6: after any headers a link keeps the values of its last one or, with none, what it kept before.
  pub last_kept : LastIsKept
  -- M7: no header of a link has a flag exactly if they run on.
  pub unflagged : UnflaggedIfInOrder
  -- M8: a packet that was lost is told at the header behind it, with distance 1, and any number of them modulo 256.
  pub one_lost : OneLostTold
  pub lost : LostTold
  -- M9: where a filter by link thins out (C7), the link yields what it yields without the filter.
  pub link_thinned : LinkThinned
  -- D3.7: the replies to any list of checks on one validator follow from its settings and start, the headers and the buffers' lengths.
  pub verdicts : Follows
  -- D3.7: and checks that are made by their contract give these replies, and leave these texts in the buffers.
  pub texts : TextsLeft
  -- D3.8: the definitions agree with the starred cases.
  pub cases : AllAgree marked
