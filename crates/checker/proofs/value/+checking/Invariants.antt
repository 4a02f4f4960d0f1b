-- `checker::value`: check_value, check_child and the functions between them meet their contracts. The measure is the levels left, and within a
-- level the way from a row to its children to one child. A law of Checks answers each way out. Assumes nothing.
use Prim.Native.Nat.{◌+◌, ◌*◌}
use Rattle.checker.proofs.Checks.{Going}
use Rattle.registry.specs.Inner.{first_in}
use Rattle.checker.proofs.value.+checking.Given as goal

abbrev pub decreases-check_child : goal.decreases-check_child
decreases-check_child l = 5 * l.levels + 1

abbrev pub decreases-check_children : goal.decreases-check_children
decreases-check_children l = 5 * l.levels + 2

abbrev pub invariant-check_children-loop-i : goal.invariant-check_children-loop-i
invariant-check_children-loop-i l =
    Going l.levels l.table l.n l.s (first_in l.base) l.around l.children l.count l.row l.i l.here

abbrev pub decreases-check_declared : goal.decreases-check_declared
decreases-check_declared l = 5 * l.levels + 3

abbrev pub decreases-check_row : goal.decreases-check_row
decreases-check_row l = 5 * l.levels + 4

abbrev pub decreases-check_value : goal.decreases-check_value
decreases-check_value l = 5 * l.levels
