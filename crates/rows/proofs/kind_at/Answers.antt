-- `rows::kind_at` meets its contract: that word of the row. Assumes nothing.
use borrow.Author.Rules.{rules}
use Rattle.rows.specs.Table.{row_at}
use Rattle.rows.proofs.kind_at.Goals as goal

pub returns : goal.returns
unfolding row_at
returns c = search rules
