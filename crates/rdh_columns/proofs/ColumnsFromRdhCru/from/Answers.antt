-- Each value is that of the header.
use Rattle.rdh_columns.specs.Columns.{columns_of}
use Rattle.rdh_columns.proofs.ColumnsFromRdhCru.from.Goals as goal

pub returns : goal.returns
unfolding columns_of
returns c = cc
