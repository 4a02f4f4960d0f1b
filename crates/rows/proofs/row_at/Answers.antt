-- `rows::row_at` meets its contract, word by word. Assumes nothing.
use Rattle.rows.proofs.Rows.{row_is}
use Rattle.rows.proofs.row_at.Goals as goal

pub returns : goal.returns
returns c = search row_is
