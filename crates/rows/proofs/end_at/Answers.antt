-- `rows::end_at` meets its contract: that word of the row. Assumes nothing.
use borrow.Author.Rules.{rules}
use Rattle.rows.specs.Table.{row_at}
use Rattle.rows.proofs.end_at.Goals as goal

pub returns : goal.returns
unfolding row_at
returns c = search rules
