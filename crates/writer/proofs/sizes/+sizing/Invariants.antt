-- `writer::sizes`: size_row and size_children meet their contracts. The measure is the rows that remain, and within a row the way from it to its
-- children. Assumes nothing.
use Prim.Native.Nat.{◌+◌, ◌*◌, ◌-◌}
use Rattle.rows.specs.Table.{row_at}
use Rattle.writer.proofs.Counting.{Counted}
use Rattle.writer.proofs.sizes.+sizing.Given as goal

abbrev pub decreases-size_children : goal.decreases-size_children
decreases-size_children l = 2 * (l.stop - l.row) + 1

abbrev pub invariant-size_children-loop-here : goal.invariant-size_children-loop-here
invariant-size_children-loop-here l = Counted l.table l.row l.stop l.here l.sum

abbrev pub decreases-size_children-loop-here : goal.decreases-size_children-loop-here
decreases-size_children-loop-here l = l.stop - l.here

abbrev pub decreases-size_row : goal.decreases-size_row
decreases-size_row l = 2 * ((row_at l.table.now l.row).end - l.row)
