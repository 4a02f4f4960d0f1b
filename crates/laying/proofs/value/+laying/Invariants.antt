-- `laying::value`: lay_value, lay_children and the functions between them meet their contracts. The measure is the levels left, as in measuring.
-- A law of Lays, Steps or Children answers each way out. Assumes nothing.
use Prim.Native.Nat.{◌+◌, ◌*◌}
use Rattle.laying.proofs.Children.{Laying}
use Rattle.laying.proofs.value.+laying.Given as goal

abbrev pub decreases-lay_at : goal.decreases-lay_at
decreases-lay_at l = 6 * l.levels

abbrev pub decreases-lay_children : goal.decreases-lay_children
decreases-lay_children l = 6 * l.levels + 3

abbrev pub invariant-lay_children-loop-i : goal.invariant-lay_children-loop-i
invariant-lay_children-loop-i l =
    Laying l.levels l.children l.s l.around l.stop l.base l.doubt l.n l.at l.row l.initial.table l.i l.place l.under l.table

abbrev pub decreases-lay_declared : goal.decreases-lay_declared
decreases-lay_declared l = 6 * l.levels + 4

abbrev pub decreases-lay_foreign : goal.decreases-lay_foreign
decreases-lay_foreign l = 6 * l.levels + 4

abbrev pub decreases-lay_hold : goal.decreases-lay_hold
decreases-lay_hold l = 6 * l.levels + 4

abbrev pub decreases-lay_right : goal.decreases-lay_right
decreases-lay_right l = 6 * l.levels + 3

abbrev pub decreases-lay_value : goal.decreases-lay_value
decreases-lay_value l = 6 * l.levels + 1
