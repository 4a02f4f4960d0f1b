-- `lister::table_rows` meets its contract: a row that is read is one of the lent. Assumes nothing.
use native.Mathlib.Omega.{arith}
use Rattle.lister.proofs.table_rows.Goals as goal

pub row_at-requires : goal.row_at-requires
row_at-requires g c = omega (arith, c.lent.ensures, c.min-i-end.ensures, c.loop-i-test)
