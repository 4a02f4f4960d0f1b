-- `rows::row_or_zeros` meets its contract, in either case. Assumes nothing.
use Rattle.rows.proofs.Rows.{row_where_lent, zeros_where_not}
use Rattle.rows.proofs.row_or_zeros.Goals as goal

pub returns-then-row-lent : goal.returns-then-row-lent
returns-then-row-lent c = search row_where_lent

pub returns : goal.returns
returns c = search zeros_where_not
