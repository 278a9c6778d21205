-- The filter by stave, set by a name (N7): what the answer to the name makes of the filters. With a refusal all stay.
use Rattle.std.specs.Prelude.{ℕ, Some}
use Rattle.basis.specs.Refusals.{Answer, gives, refuses}
use Rattle.filter.specs.declared.FilterOpt.{FilterOpt}

abbrev pub stave_set : Answer ℕ → FilterOpt → FilterOpt
stave_set (gives id) opt = record { filter_link = opt.filter_link; filter_fee = opt.filter_fee; filter_its_stave = Some id }
stave_set (refuses number values) opt = opt
