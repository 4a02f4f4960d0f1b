-- `measure::value`: measure_value, measure_child and the functions between them meet their contracts. The measure is the levels left, and within a
-- level the way from a holder to its children to one child. A law of Measures answers each way out. Assumes nothing.
use borrow.Author.Rules.{rules}
use Rattle.format.proofs.Heads.{declare_within, hold-few, hold_within}
use Rattle.measure.proofs.Measures.{all_fit, child_key, child-value, children-low, children_stop, declare-few, declare-low, declare_pos, declare-right, declare-wrong, entry-wrong, foreign-inside, foreign_pos, frame_few, frame_right, frame_wrong, hold_pos, hold-right, hold-wrong, holder_few, kept-all, kept-few, kept-first, kept-fits, kept_low, kept_next, kept-one, kept_plus, kept-wrong, leaf-low, refer-low, refuse_low, row_fits, rows_fit, value-declare, value_deep, value-foreign, value-hold, value-leaf, value_no_entry, value-refer, value_refuse}
use Rattle.measure.proofs.value.+measuring.Goals as goal

pub measure_child-returns-then-is_key : goal.measure_child-returns-then-is_key
measure_child-returns-then-is_key t c = search child_key

pub measure_child-returns : goal.measure_child-returns
measure_child-returns t c = search child-value

pub measure_children-loop-i-init : goal.measure_children-loop-i-init
measure_children-loop-i-init t c = search kept-first

pub measure_children-returns-then-f-ge-WRONG : goal.measure_children-returns-then-f-ge-WRONG
measure_children-returns-then-f-ge-WRONG t c = search kept-wrong

pub measure_children-overflow_add-rows : goal.measure_children-overflow_add-rows
measure_children-overflow_add-rows t c = search kept-fits

pub measure_children-loop-i-preserved-then-next-eq0 : goal.measure_children-loop-i-preserved-then-next-eq0
measure_children-loop-i-preserved-then-next-eq0 t c = search kept_next

pub measure_children-overflow_add-rows-in-loop-i : goal.measure_children-overflow_add-rows-in-loop-i
measure_children-overflow_add-rows-in-loop-i t c = search kept_plus

pub measure_children-loop-i-preserved : goal.measure_children-loop-i-preserved
measure_children-loop-i-preserved t c = search kept-one

pub measure_children-right-requires : goal.measure_children-right-requires
measure_children-right-requires t c = search (rules, kept_low, kept-few)

pub measure_children-returns : goal.measure_children-returns
measure_children-returns t c = search kept-all

pub measure_declared-returns-then-es-ge-WRONG : goal.measure_declared-returns-then-es-ge-WRONG
measure_declared-returns-then-es-ge-WRONG t c = search entry-wrong

pub measure_declared-measure_value-f-requires : goal.measure_declared-measure_value-f-requires
measure_declared-measure_value-f-requires t c = search (rules, children_stop)

pub measure_declared-returns-then-f-ge-WRONG : goal.measure_declared-returns-then-f-ge-WRONG
measure_declared-returns-then-f-ge-WRONG t c = search declare-wrong

pub measure_declared-overflow_add-row_in : goal.measure_declared-overflow_add-row_in
measure_declared-overflow_add-row_in t c = search rows_fit

pub measure_declared-overflow_add-row_in-2 : goal.measure_declared-overflow_add-row_in-2
measure_declared-overflow_add-row_in-2 t c = search all_fit

pub measure_declared-right-requires : goal.measure_declared-right-requires
measure_declared-right-requires t c = search (rules, declare-low, declare-few)

pub measure_declared-returns : goal.measure_declared-returns
measure_declared-returns t c = search declare-right

pub measure_framed-returns-then-f-ge-WRONG : goal.measure_framed-returns-then-f-ge-WRONG
measure_framed-returns-then-f-ge-WRONG t c = search frame_wrong

pub measure_framed-overflow_add-row_in : goal.measure_framed-overflow_add-row_in
measure_framed-overflow_add-row_in t c = row_fits _ c.row_in.result c.row_in.ensures

pub measure_framed-right-requires-2 : goal.measure_framed-right-requires-2
measure_framed-right-requires-2 t c = search (rules, frame_few)

pub measure_framed-returns : goal.measure_framed-returns
measure_framed-returns t c = search frame_right

pub measure_hold-returns-then-f-ge-WRONG : goal.measure_hold-returns-then-f-ge-WRONG
measure_hold-returns-then-f-ge-WRONG t c = search hold-wrong

pub measure_hold-overflow_add-row_in : goal.measure_hold-overflow_add-row_in
measure_hold-overflow_add-row_in t c = row_fits _ c.row_in.result c.row_in.ensures

pub measure_hold-right-requires : goal.measure_hold-right-requires
measure_hold-right-requires t c = search (rules, children-low, holder_few)

pub measure_hold-returns : goal.measure_hold-returns
measure_hold-returns t c = search hold-right

pub measure_value-returns-then-levels-eq0 : goal.measure_value-returns-then-levels-eq0
measure_value-returns-then-levels-eq0 t c = search value_deep

pub measure_value-right-requires : goal.measure_value-right-requires
measure_value-right-requires t c = search (rules, leaf-low)

pub measure_value-right-requires-then-number-around : goal.measure_value-right-requires-then-number-around
measure_value-right-requires-then-number-around t c = search (rules, refer-low)

pub measure_value-returns-then-number-around : goal.measure_value-returns-then-number-around
measure_value-returns-then-number-around t c = search value-refer

pub measure_value-wrong-requires-in-Err : goal.measure_value-wrong-requires-in-Err
measure_value-wrong-requires-in-Err t c = search (rules, refuse_low)

pub measure_value-measure_hold-requires : goal.measure_value-measure_hold-requires
measure_value-measure_hold-requires t c = search (rules, hold_pos, hold_within, hold-few)

pub measure_value-measure_declared-requires : goal.measure_value-measure_declared-requires
measure_value-measure_declared-requires t c = search (rules, declare_pos, declare_within)

pub measure_value-measure_framed-requires : goal.measure_value-measure_framed-requires
measure_value-measure_framed-requires t c = search (rules, foreign_pos, foreign-inside)

pub measure_value-returns-in-Leaf : goal.measure_value-returns-in-Leaf
measure_value-returns-in-Leaf t c = search value-leaf

pub measure_value-returns-else-number-around : goal.measure_value-returns-else-number-around
measure_value-returns-else-number-around t c = search value_no_entry

pub measure_value-returns-in-Err : goal.measure_value-returns-in-Err
measure_value-returns-in-Err t c = search value_refuse

pub measure_value-returns-in-Hold : goal.measure_value-returns-in-Hold
measure_value-returns-in-Hold t c = search value-hold

pub measure_value-returns-in-Declare : goal.measure_value-returns-in-Declare
measure_value-returns-in-Declare t c = search value-declare

pub measure_value-returns-in-Foreign : goal.measure_value-returns-in-Foreign
measure_value-returns-in-Foreign t c = search value-foreign
