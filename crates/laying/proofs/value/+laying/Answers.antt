-- `laying::value`: lay_value, lay_children and the functions between them meet their contracts. The measure is the levels left, as in measuring.
-- A law of Lays, Steps or Children answers each way out. Assumes nothing.
use borrow.Author.Rules.{rules}
use Rattle.laying.proofs.Children as children
use Rattle.laying.proofs.Lays as lays
use Rattle.laying.proofs.Steps as steps
use Rattle.laying.proofs.value.+laying.Goals as goal
use Rattle.laying.proofs.value.+laying.Goals.{lay_children-in-Some, lay_children-in-None}

pub lay_at-unwrap-requires : goal.lay_at-unwrap-requires
lay_at-unwrap-requires t c = search lays.head_ok

pub lay_at-lay_leaf-requires-clause-next_value : goal.lay_at-lay_leaf-requires-clause-next_value
lay_at-lay_leaf-requires-clause-next_value t c = (search lays.head_is, search rules, search rules)

pub lay_at-lay_reference-requires-clause-next_value : goal.lay_at-lay_reference-requires-clause-next_value
lay_at-lay_reference-requires-clause-next_value t c = (search lays.head_is, search rules, search rules)

pub lay_at-lay_hold-requires : goal.lay_at-lay_hold-requires
lay_at-lay_hold-requires t c = (search rules, (search lays.hold_ready, (search lays.hold_within, search rules, search rules, search lays.hold-few)))

pub lay_at-lay_declared-requires : goal.lay_at-lay_declared-requires
lay_at-lay_declared-requires t c = (search rules, (search lays.declare_ready, (search lays.declare_within, search rules, search rules, search lays.declare-few)))

pub lay_at-lay_foreign-requires : goal.lay_at-lay_foreign-requires
lay_at-lay_foreign-requires t c = (search rules, (search lays.foreign_ready, (search lays.foreign-inside, search rules)))

pub lay_at-returns-in-Hold : goal.lay_at-returns-in-Hold
lay_at-returns-in-Hold t c = search lays.hold_done

pub lay_at-returns-in-Declare : goal.lay_at-returns-in-Declare
lay_at-returns-in-Declare t c = search lays.declare_done

pub lay_at-returns-in-Foreign : goal.lay_at-returns-in-Foreign
lay_at-returns-in-Foreign t c = search lays.foreign_done

pub lay_children-loop-i-init : goal.lay_children-loop-i-init
lay_children-loop-i-init t c = search children.laying_start

pub lay_children-lay_one-laid-requires-clause-ready : goal.lay_children-lay_one-laid-requires-clause-ready
lay_children-lay_one-laid-requires-clause-ready t c = search children.laying_ready

pub lay_children-lay_at-f-requires : goal.lay_children-lay_at-f-requires
lay_children-lay_at-f-requires t c = (search rules, (lays.laying_value _ _ _ _ _ _ _ _ _ _ _ _ _ _ _ c.loop-i.invariant c.loop-i-test.true _ c.in-None.ensures _ c.in_force-inside.ensures, (lays.laying_left _ _ _ _ _ _ _ _ _ _ _ _ _ _ _ c.loop-i.invariant c.loop-i-test.true _ c.in-None.ensures _ c.in_force-inside.ensures, search rules, search rules)))

pub lay_children-overflow_add-under : goal.lay_children-overflow_add-under
lay_children-overflow_add-under t c = search lays.laying_fits

pub lay_children-loop-i-preserved : goal.lay_children-loop-i-preserved
lay_children-loop-i-preserved t c =
    elim c.match-laid.branch [
      | lay_children-in-Some w ↦
          rw (w.under-is, w.place-is, w.table-is)
          (lays.laying_one _ _ _ _ _ _ _ _ _ _ _ _ _ _ _ c.loop-i.invariant c.loop-i-test.true _ _ w.in-Some.ensures)
      | lay_children-in-None w ↦
          rw (w.under-is, w.place-is, w.table-is)
          (lays.laying_head _ _ _ _ _ _ _ _ _ _ _ _ _ _ _ c.loop-i.invariant c.loop-i-test.true _ w.in-None.ensures _ w.in_force-inside.ensures _ _ w.lay_at-f.ensures _ _ w.place_in-place.ensures w.row_in-under.ensures)
    ]

pub lay_children-place_and_row-requires : goal.lay_children-place_and_row-requires
lay_children-place_and_row-requires t c = (search children.laying_place, search children.laying_row)

pub lay_children-returns : goal.lay_children-returns
lay_children-returns t c = search children.laying_end

pub lay_declared-overflow_add-under : goal.lay_declared-overflow_add-under
lay_declared-overflow_add-under t c = search lays.under_fits

pub lay_declared-lay_children-es-requires : goal.lay_declared-lay_children-es-requires
lay_declared-lay_children-es-requires t c = (search rules, (search lays.entries_ready, search rules))

pub lay_declared-base_of-inside-requires : goal.lay_declared-base_of-inside-requires
lay_declared-base_of-inside-requires t c = (search steps.ready_past, search lays.own_under)

pub lay_declared-lay_value-f-requires : goal.lay_declared-lay_value-f-requires
lay_declared-lay_value-f-requires t c = (search rules, (let a = c.args in let p = c.requires in let e = c.lay_children-es in lays.own_ready a.count a.levels a.s.now a.around a.at a.stop a.doubt a.table.now a.row a.base p.ready e.new.table e.result e.ensures c.row_in-own.result c.row_in-own.ensures c.place_in-next.result c.base_of-inside.result c.place_in-next.ensures c.base_of-inside.ensures, search rules))

pub lay_declared-declaration-requires : goal.lay_declared-declaration-requires
lay_declared-declaration-requires t c = (let a = c.args in let p = c.requires in let e = c.lay_children-es in let v = c.lay_value-f in lays.declared-end a.count a.levels a.s.now a.around a.at a.stop a.doubt a.table.now a.row a.base p.ready e.new.table e.result e.ensures c.row_in-own.result c.row_in-own.ensures c.place_in-next.result c.base_of-inside.result c.place_in-next.ensures c.base_of-inside.ensures v.new.table v.result v.ensures c.row_in-end.result c.row_in-end.ensures, search rules)

pub lay_declared-lay-requires : goal.lay_declared-lay-requires
lay_declared-lay-requires t c = let a = c.args in let p = c.requires in let e = c.lay_children-es in let v = c.lay_value-f in lays.declared-lent a.count a.levels a.s.now a.around a.at a.stop a.doubt a.table.now a.row a.base p.ready e.new.table e.result e.ensures c.row_in-own.result c.row_in-own.ensures c.place_in-next.result c.base_of-inside.result c.place_in-next.ensures c.base_of-inside.ensures v.new.table v.result v.ensures

pub lay_declared-returns : goal.lay_declared-returns
lay_declared-returns t c = let a = c.args in let p = c.requires in let e = c.lay_children-es in let v = c.lay_value-f in lays.declared_done a.count a.levels a.s.now a.around a.at a.stop a.doubt a.table.now a.row a.base p.ready e.new.table e.result e.ensures c.row_in-own.result c.row_in-own.ensures c.place_in-next.result c.base_of-inside.result c.place_in-next.ensures c.base_of-inside.ensures v.new.table v.result v.ensures c.row_in-end.result c.row_in-end.ensures c.declaration.result c.lay.new.table c.declaration.ensures c.lay.ensures

pub lay_foreign-lay_damaged-requires-clause-damaged : goal.lay_foreign-lay_damaged-requires-clause-damaged
lay_foreign-lay_damaged-requires-clause-damaged t c = search lays.body-damaged

pub lay_foreign-lay_right-requires : goal.lay_foreign-lay_right-requires
lay_foreign-lay_right-requires t c = (search rules, (search lays.body_ready, (search lays.body-right, search rules)))

pub lay_foreign-lay_right-requires-2 : goal.lay_foreign-lay_right-requires-2
lay_foreign-lay_right-requires-2 t c = (search rules, (search lays.sure_ready, (search lays.sure-right, search rules)))

pub lay_hold-overflow_add-under : goal.lay_hold-overflow_add-under
lay_hold-overflow_add-under t c = search lays.under_fits

pub lay_hold-lay_children-f-requires : goal.lay_hold-lay_children-f-requires
lay_hold-lay_children-f-requires t c = (search rules, (search lays.children_ready, search rules))

pub lay_hold-holder-requires : goal.lay_hold-holder-requires
lay_hold-holder-requires t c = (search lays.children-end, search rules)

pub lay_hold-lay-requires : goal.lay_hold-lay-requires
lay_hold-lay-requires t c = search lays.children-lent

pub lay_hold-returns : goal.lay_hold-returns
lay_hold-returns t c = let a = c.args in let p = c.requires in let r = c.reading-c in let n = c.children-n in let e = c.lay_children-f in lays.children_done a.holder a.count a.levels a.s.now a.around a.at a.stop a.doubt a.table.now a.row a.base p.ready r.result n.result r.ensures n.ensures e.new.table e.result e.ensures c.row_in-end.result c.row_in-end.ensures c.kind.result c.holder.result c.lay.new.table c.kind.ensures c.holder.ensures c.lay.ensures

pub lay_right-overflow_add-under : goal.lay_right-overflow_add-under
lay_right-overflow_add-under t c = search lays.under_fits

pub lay_right-lay_value-f-requires : goal.lay_right-lay_value-f-requires
lay_right-lay_value-f-requires t c = (search rules, (search lays.right_ready, search rules))

pub lay_right-foreign-requires : goal.lay_right-foreign-requires
lay_right-foreign-requires t c = search lays.right_end

pub lay_right-lay-requires : goal.lay_right-lay-requires
lay_right-lay-requires t c = search lays.right-lent

pub lay_right-returns : goal.lay_right-returns
lay_right-returns t c = let a = c.args in let p = c.requires in let i = c.in_foreign-inside in let v = c.lay_value-f in lays.right_done a.s.now a.levels a.around a.place a.size a.doubt a.table.now a.row a.base p.ready i.result i.ensures p.right v.new.table v.result v.ensures c.row_in-last.result c.row_in-last.ensures c.foreign.result c.lay.new.table c.foreign.ensures c.lay.ensures

pub lay_value-lay_plain-requires : goal.lay_value-lay_plain-requires
lay_value-lay_plain-requires t c =
    record {
      known = search lays.head_known;
      at_lt_stop = (search lays.head_there, search rules, search rules);
      row_bound = (search steps.ready_lent, search steps.ready_low);
    }

pub lay_value-overflow_add-row : goal.lay_value-overflow_add-row
lay_value-overflow_add-row t c = search lays.under_fits

pub lay_value-place_and_row-requires : goal.lay_value-place_and_row-requires
lay_value-place_and_row-requires t c = (lays.plain-next _ _ _ _ _ _ _ _ _ c.requires.ready _ _ c.in-Some.ensures c.requires.stop_in_bounds.0 c.requires.stop_in_bounds.1, search steps.ready_past)

pub lay_value-returns-in-Some : goal.lay_value-returns-in-Some
lay_value-returns-in-Some t c = lays.plain_done _ _ _ _ _ _ _ _ _ c.requires.ready _ _ c.in-Some.ensures c.requires.stop_in_bounds.0 c.requires.stop_in_bounds.1 _ c.place_and_row.ensures

pub lay_value-lay_at-requires : goal.lay_value-lay_at-requires
lay_value-lay_at-requires t c = (search rules, (lays.plain_ready _ _ _ _ _ _ _ _ _ c.requires.ready _ c.in-None.ensures, (search lays.levels_left, search rules, search rules)))

pub lay_value-returns-in-None : goal.lay_value-returns-in-None
lay_value-returns-in-None t c = lays.plain_not _ _ _ _ _ _ _ _ _ c.requires.ready _ c.in-None.ensures _ _ c.lay_at.ensures
