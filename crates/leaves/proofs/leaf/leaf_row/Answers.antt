-- `leaves::leaf::leaf_row` meets its contract: a law of Leaves for each way out. Assumes nothing.
use Rattle.leaves.proofs.Leaves.{constant-row, small_row, integer-row, span-row, char-row}
use Rattle.leaves.proofs.leaf.leaf_row.Goals as goal

pub returns-in-Constant : goal.returns-in-Constant
returns-in-Constant c = search constant-row

pub returns-in-Small : goal.returns-in-Small
returns-in-Small c = search small_row

pub returns-in-Integer : goal.returns-in-Integer
returns-in-Integer c = search integer-row

pub returns-in-Span : goal.returns-in-Span
returns-in-Span c = search span-row

pub returns-in-Char : goal.returns-in-Char
returns-in-Char c = search char-row
