-- Each link of the used part is looked up among those before it.
use Rattle.std.proofs.Common.{ℕ, ◌<◌, List, ◌≡◌, ◌∙◌, arith, length, get_or, take}
use Rattle.std.proofs.lemmas.List.{get_or-take, length-take}
use Rattle.stats_search.specs.FrontWalkLaws.{used_part, walk_begins, walk_ends, walk_finds, walk_goes_on}
use Rattle.stats_search.proofs.has_link_twice.Goals as goal

-- a link of the first n is one of the links, each of which is a byte
byte : (links : List ℕ) (n i x : ℕ) → i < length (take n links) → x ≡ get_or (take n links) i 0 → get_or links i 0 < 256 → x < 256
byte links n i x inside is below = omega (arith, get_or-take {A = ℕ}, length-take {A = ℕ})

pub loop-link-init : goal.loop-link-init
loop-link-init c = walk_begins _

pub returns-then-met-link : goal.returns-then-met-link
returns-then-met-link c =
    let loop = c.loop-link in
    let below = byte _ _ _ _ c.loop-link-test.true c.from-link.ensures (c.type_inv.links loop.link-index).fits in
    walk_finds _ _ _ _ loop.invariant c.loop-link-test.true c.from-link.ensures below c.if-met-link.true ∙ used_part _ _ _ c.min.ensures

pub loop-link-preserved : goal.loop-link-preserved
loop-link-preserved c =
    let loop = c.loop-link in
    let below = byte _ _ _ _ c.loop-link-test.true c.from-link.ensures (c.type_inv.links loop.link-index).fits in
    walk_goes_on _ _ _ _ loop.invariant c.loop-link-test.true c.from-link.ensures below c.if-met-link.false

pub returns : goal.returns
returns c = walk_ends _ _ _ c.loop-link.invariant c.loop-link-test.false ∙ used_part _ _ _ c.min.ensures
