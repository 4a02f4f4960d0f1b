-- `measure::value`: measure_value, measure_child and the functions between them meet their contracts. The measure is the levels left, and within a
-- level the way from a holder to its children to one child. A law of Measures answers each way out. Assumes nothing.
use Prim.Native.Nat.{◌+◌, ◌*◌}
use Rattle.format.specs.Value.{value}
use Rattle.measure.proofs.Measures.{Kept}
use Rattle.measure.proofs.value.+measuring.Given as goal

abbrev pub decreases-measure_child : goal.decreases-measure_child
decreases-measure_child l = 4 * l.levels + 1

abbrev pub decreases-measure_children : goal.decreases-measure_children
decreases-measure_children l = 4 * l.levels + 2

abbrev pub invariant-measure_children-loop-i : goal.invariant-measure_children-loop-i
invariant-measure_children-loop-i l =
    Kept (value l.levels l.s) l.children l.s l.around l.count l.at l.stop l.i l.rows l.place l.broken

abbrev pub decreases-measure_declared : goal.decreases-measure_declared
decreases-measure_declared l = 4 * l.levels + 3

abbrev pub decreases-measure_framed : goal.decreases-measure_framed
decreases-measure_framed l = 4 * l.levels + 3

abbrev pub decreases-measure_hold : goal.decreases-measure_hold
decreases-measure_hold l = 4 * l.levels + 3

abbrev pub decreases-measure_value : goal.decreases-measure_value
decreases-measure_value l = 4 * l.levels
