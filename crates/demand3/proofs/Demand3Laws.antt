-- Proof of demand 3: each part is proved where its statement's laws are.
use Rattle.chain.proofs.AddedBytesLaws.{added_bytes}
use Rattle.chain.proofs.CallsFollowLaws.{calls_follow, leaves_rest}
use Rattle.chain.proofs.ChainEntriesLaws.{allowance, entry_by_entry, only_entries, refused_last}
use Rattle.chain.proofs.CountedHeadersLaws.{calls_count}
use Rattle.chain_filter.proofs.EndLaws.{one_end}
use Rattle.chain_filter.proofs.FilterPartsLaws.{none_lost, only_then}
use Rattle.chain_filter.proofs.FilterThinsLaws.{filter_thins, filter_thins_anywhere, premise_gives}
use Rattle.chain_filter.proofs.LinkThinnedLaws.{link_thinned}
use Rattle.chain.proofs.OwnPositionsLaws.{own_at-header, own_in_call, own_not_before, own_over_loads, own_unfiltered}
use Rattle.chain.proofs.PacketsLaws.{each_once, exactly_matching, matching_in_turn, none_missing, reaches_end}
use Rattle.chain.proofs.SkipsLaws.{each_skips_ahead}
use Rattle.link_continuity.proofs.ApartLaws.{last_is_kept, links_apart, own_headers_alone}
use Rattle.link_continuity.proofs.ArraysLaws.{calls_as_defined}
use Rattle.link_continuity.proofs.InOrderLaws.{lost_told, one_lost_told, unflagged_if_in_order}
use Rattle.scan_laws.proofs.LoadRepliesLaws.{loads_tell_all}
use Rattle.validators.proofs.VerdictTextsLaws.{texts_left}
use Rattle.validators.proofs.VerdictsLaws.{follows}
use Rattle.demand3.specs.Demand3Claims.{Demand3}
use Rattle.demand3.proofs.MarkedCasesLaws.{marked_agree}

pub demand_3 : Demand3
demand_3 =
    record {
      entries = entry_by_entry;
      kinds = only_entries;
      last = refused_last;
      skips = each_skips_ahead;
      allowed = allowance;
      calls = calls_follow;
      marks = loads_tell_all;
      exactly = exactly_matching;
      each = each_once;
      in-turn = matching_in_turn;
      rest = leaves_rest;
      none_missing = none_missing;
      ends = reaches_end;
      own = own_at-header;
      own_over_loads = own_over_loads;
      own_in_call = own_in_call;
      own_unfiltered = own_unfiltered;
      own_not_before = own_not_before;
      counts = calls_count;
      added = added_bytes;
      thins = filter_thins;
      one_end = one_end;
      thins_anywhere = filter_thins_anywhere;
      thins_only_then = only_then;
      premise_gives = premise_gives;
      none_lost = none_lost;
      link_checks = calls_as_defined;
      links_apart = links_apart;
      own_headers = own_headers_alone;
      last_kept = last_is_kept;
      unflagged = unflagged_if_in_order;
      one_lost = one_lost_told;
      lost = lost_told;
      link_thinned = link_thinned;
      verdicts = follows;
      texts = texts_left;
      cases = marked_agree;
    }
