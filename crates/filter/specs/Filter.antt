-- The filter of a scan: by link, by FEE id, by stave, or none (S3).
use Rattle.std.specs.Prelude.{ℕ, Bool, true, ◌||◌, eqb, Option, Some, None, is_some}
use Rattle.its.specs.FeeIds.{same_stave}
use Rattle.filter.specs.declared.FilterOpt.{FilterOpt}
use Rattle.filter.specs.declared.FilterTarget.{FilterTarget}
use Rattle.filter.specs.declared.FilterTarget.TheVariants.{Link, Fee, ItsLayerStave, All}

-- Several filters may be set: the first of link, FEE id and stave decides (S3).
abbrev pub first_set : Option ℕ → Option ℕ → Option ℕ → FilterTarget
first_set (Some link) fee stave = Link link
first_set None (Some fee) stave = Fee fee
first_set None None (Some stave) = ItsLayerStave stave
first_set None None None = All

abbrev pub target_of : FilterOpt → FilterTarget
target_of opt = first_set opt.filter_link opt.filter_fee opt.filter_its_stave

-- Whether any filter is set, so that filtered counts (S4).
abbrev pub enabled : FilterOpt → Bool
enabled opt = (is_some opt.filter_link || is_some opt.filter_fee) || is_some opt.filter_its_stave

-- Whether a header with this link and this FEE id is a match (S3).
abbrev pub matches : FilterTarget → ℕ → ℕ → Bool
matches (Link id) link fee = eqb link id
matches (Fee id) link fee = eqb fee id
matches (ItsLayerStave id) link fee = same_stave fee id
matches All link fee = true
