-- `writer::sizes`: size_row and size_children meet their contracts. The measure is the rows that remain, and within a row the way from it to its
-- children. Assumes nothing.
use mathlib.Core.Path.{◌∙◌}
use native.Mathlib.Omega.{arith}
use Rattle.writer.proofs.Counting.{row_held, row-few, end_is, leaf-long, child-spelt, row-long, row-short, counted_start, here_held, here_up, here-low, here-spelt, counted_turn, counted_short, counted_end}
use Rattle.writer.proofs.sizes.+sizing.Goals as goal

pub size_children-loop-here-init : goal.size_children-loop-here-init
size_children-loop-here-init t c = search counted_start

pub size_children-size_row-sum-requires : goal.size_children-size_row-sum-requires
size_children-size_row-sum-requires t c = let s = c in let l = c.loop-here in (omega (arith, l.invariant.from, here_up s.args.table.now s.args.row s.args.stop s.requires l.here l.sum l.invariant c.loop-here-test.true, here-low s.args.table.now s.args.row s.args.stop s.requires l.here l.sum l.invariant c.loop-here-test.true), (here-spelt s.args.table.now s.args.row s.args.stop s.requires l.here l.sum l.invariant c.loop-here-test.true, here_up s.args.table.now s.args.row s.args.stop s.requires l.here l.sum l.invariant c.loop-here-test.true))

pub size_children-overflow_add-sum : goal.size_children-overflow_add-sum
size_children-overflow_add-sum t c = let s = c in let l = c.loop-here in omega (arith, counted_short s.args.table.now s.args.row s.args.stop s.requires l.here l.sum l.invariant c.loop-here-test.true c.size_row-sum.result c.size_row-sum.ensures (λ i. (c.type_inv.table i).fits))

pub size_children-end_at-requires : goal.size_children-end_at-requires
size_children-end_at-requires t c = search here_held

pub size_children-loop-here-smaller : goal.size_children-loop-here-smaller
size_children-loop-here-smaller t c = let s = c in let l = c.loop-here in omega (arith, c.number-here.ensures.0, c.end_at.ensures, c.loop-here-test.true, here_up s.args.table.now s.args.row s.args.stop s.requires l.here l.sum l.invariant c.loop-here-test.true)

pub size_children-loop-here-preserved : goal.size_children-loop-here-preserved
size_children-loop-here-preserved t c = let s = c in let l = c.loop-here in counted_turn s.args.table.now s.args.row s.args.stop s.requires l.here l.sum l.invariant c.loop-here-test.true c.size_row-sum.result c.size_row-sum.ensures c.number-here.result (c.number-here.ensures.0 ∙ c.end_at.ensures)

pub size_children-returns : goal.size_children-returns
size_children-returns t c = search counted_end

pub size_row-row_at-w-requires : goal.size_row-row_at-w-requires
size_row-row_at-w-requires t c = search row_held

pub size_row-overflow_add-first : goal.size_row-overflow_add-first
size_row-overflow_add-first t c = let s = c in omega (arith, row-few s.args.table.now s.args.row s.requires.0 s.requires.1)

pub size_row-returns-then-first-end : goal.size_row-returns-then-first-end
size_row-returns-then-first-end t c = search leaf-long

pub size_row-size_children-body-requires : goal.size_row-size_children-body-requires
size_row-size_children-body-requires t c = let s = c in (omega (arith, s.requires.1, end_is s.args.table.now s.args.row s.requires.0 s.requires.1 c.row_at-w.result c.row_at-w.ensures c.number-end.result c.number-end.ensures.0), search child-spelt)

pub size_row-overflow_add-result : goal.size_row-overflow_add-result
size_row-overflow_add-result t c = let s = c in omega (arith, row-short s.args.table.now s.args.row s.requires.0 s.requires.1 c.row_at-w.result c.row_at-w.ensures c.number-end.result c.number-end.ensures.0 c.size_children-body.result c.size_children-body.ensures c.row_size-2.result c.row_size-2.ensures (λ i. (c.type_inv.table i).fits))

pub size_row-returns : goal.size_row-returns
size_row-returns t c = search row-long
