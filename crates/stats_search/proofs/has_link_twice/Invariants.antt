use Rattle.stats_search.specs.FrontWalkLaws.{Walked}
use Rattle.stats_search.proofs.has_link_twice.Given as goal

abbrev pub invariant-loop-link : goal.invariant-loop-link
invariant-loop-link l = Walked l.link-items l.link-index l.met
