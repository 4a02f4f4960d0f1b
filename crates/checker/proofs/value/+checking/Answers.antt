-- `checker::value`: check_value, check_child and the functions between them meet their contracts. The measure is the levels left, and within a
-- level the way from a row to its children to one child. A law of Checks answers each way out. Assumes nothing.
use borrow.Author.Rules.{rules}
use Rattle.checker.proofs.Checks.{alone-fits, child-alone, child_asks, child-based, child_key, child-value, damaged-inside, declared_broken, declared_until, entries_ask, entries-based, going_all, going_first, going_next, going_broken, going_ready, hold_asks, hold-based, own_asks, own-based, own_under, row-bad, row-damaged, row-declare, row-hold, row-leaf, row-refer, row-whole, ready_few, ready_lent, ready_room, value_deep, value-based, value_in, value_out, under, whole-few}
use Rattle.registry.proofs.Walks.{based_fewer}
use mathlib.Core.Logic.{inl, inr}
use Rattle.checker.proofs.value.+checking.Goals as goal

pub check_child-returns-then-is_key : goal.check_child-returns-then-is_key
check_child-returns-then-is_key t c = search child_key

pub check_child-stands_alone-requires : goal.check_child-stands_alone-requires
check_child-stands_alone-requires t c = (search ready_room, search ready_few)

pub check_child-overflow_add-result : goal.check_child-overflow_add-result
check_child-overflow_add-result t c = search alone-fits

pub check_child-returns-then-stands_alone : goal.check_child-returns-then-stands_alone
check_child-returns-then-stands_alone t c = search child-alone

pub check_child-check_value-requires : goal.check_child-check_value-requires
check_child-check_value-requires t c = (search rules, (search child_asks, search value-based, search rules))

pub check_child-returns : goal.check_child-returns
check_child-returns t c = search child-value

pub check_children-loop-i-init : goal.check_children-loop-i-init
check_children-loop-i-init t c = search going_first

pub check_children-check_child-requires : goal.check_children-check_child-requires
check_children-check_child-requires t c = (search rules, (search going_ready, search child-based, search rules))

pub check_children-loop-i-preserved : goal.check_children-loop-i-preserved
check_children-loop-i-preserved t c = search (going_next, c.in_ok-here.was)

pub check_children-returns-in_err-here : goal.check_children-returns-in_err-here
check_children-returns-in_err-here t c = rw c.from_residual.ensures (search (going_broken, c.in_err-here.was))

pub check_children-returns : goal.check_children-returns
check_children-returns t c = search going_all

pub check_declared-check_children-requires : goal.check_declared-check_children-requires
check_declared-check_children-requires t c = (search rules, (search entries_ask, search entries-based, search rules))

pub check_declared-base_of-inside-requires : goal.check_declared-base_of-inside-requires
check_declared-base_of-inside-requires t c = (search rules, search (own_under, c.in_ok-next.was))

pub check_declared-check_value-requires : goal.check_declared-check_value-requires
check_declared-check_value-requires t c = (search rules, (search (own_asks, c.in_ok-next.was), search (own-based, c.in_ok-next.was), search rules))

pub check_declared-returns : goal.check_declared-returns
check_declared-returns t c = search (declared_until, c.in_ok-next.was)

pub check_declared-returns-in_err-next : goal.check_declared-returns-in_err-next
check_declared-returns-in_err-next t c = rw c.from_residual.ensures (search (declared_broken, c.in_err-next.was))

pub check_row-check_reference-requires : goal.check_row-check_reference-requires
check_row-check_reference-requires t c = (search ready_lent, search rules, search rules, search rules)

pub check_row-check_children-requires : goal.check_row-check_children-requires
check_row-check_children-requires t c = (search rules, (search hold_asks, search hold-based, search rules))

pub check_row-check_value-requires : goal.check_row-check_value-requires
check_row-check_value-requires t c = (search rules, (search (under, whole-few, rules), search (based_fewer, whole-few, rules), search rules))

pub check_row-check_damaged-requires : goal.check_row-check_damaged-requires
check_row-check_damaged-requires t c = (search rules, search damaged-inside, search rules)

pub check_row-returns-in-Bad : goal.check_row-returns-in-Bad
check_row-returns-in-Bad t c = search row-bad

pub check_row-returns-in-Leaf : goal.check_row-returns-in-Leaf
check_row-returns-in-Leaf t c = search row-leaf

pub check_row-returns-in-Refer : goal.check_row-returns-in-Refer
check_row-returns-in-Refer t c = search row-refer

pub check_row-returns-in-Hold : goal.check_row-returns-in-Hold
check_row-returns-in-Hold t c = search row-hold

pub check_row-returns-in-Declare : goal.check_row-returns-in-Declare
check_row-returns-in-Declare t c = search row-declare

pub check_row-returns-in-Whole : goal.check_row-returns-in-Whole
check_row-returns-in-Whole t c = search row-whole

pub check_row-returns-in-Damaged : goal.check_row-returns-in-Damaged
check_row-returns-in-Damaged t c = search row-damaged

pub check_value-returns-then-levels-eq0 : goal.check_value-returns-then-levels-eq0
check_value-returns-then-levels-eq0 t c = elim c.then-levels-eq0.either [ inl h ↦ search value_deep | inr h ↦ search value_out ]

pub check_value-returns : goal.check_value-returns
check_value-returns t c = search value_in
