-- No row is longer than the longest: the fields of its header fit their types.
use Rattle.std.proofs.Common.{◌<◌, ◌^◌, arith}
use Rattle.serde_rdh.specs.Layout.{span, value}
use Rattle.serde_rdh.proofs.LayoutLaws.{every}
use Rattle.rdh_row.proofs.RowLaws.{longest_row}
use Rattle.rdh_row.proofs.RdhRowText.longest.Goals as goal

pub returns : goal.returns
unfolding span value
returns c = longest_row c.args.self.header (every (λ f. value f c.args.self.header < 256 ^ (span f).width) (omega arith))
