-- `writer::flat::write_rows` meets its contract: what is left to write completes the document. Assumes nothing.
use Rattle.writer.proofs.Writing.{Writes}
use Rattle.writer.proofs.flat.write_rows.Given as goal

abbrev pub invariant-loop-row : goal.invariant-loop-row
invariant-loop-row l = Writes l.table l.data l.n l.initial.out l.row l.at l.out
