-- `rows::lay` meets its contract: its stores are the run of the row's words. Assumes nothing.
use native.Mathlib.Omega.{arith}
use native.Mathlib.Numerals.{add-one, add-two, add-three, add-four, add_five}
use lib.ListN.{length-set}
use Rattle.rows.specs.Table.{words_of}
use Rattle.rows.proofs.lay.Goals as goal

pub bounds-table-at-2 : goal.bounds-table-at-2
bounds-table-at-2 c = simp length-set (omega arith)

pub bounds-table-at-3 : goal.bounds-table-at-3
bounds-table-at-3 c = simp length-set (omega arith)

pub bounds-table-at-4 : goal.bounds-table-at-4
bounds-table-at-4 c = simp length-set (omega arith)

pub bounds-table-at-5 : goal.bounds-table-at-5
bounds-table-at-5 c = simp length-set (omega arith)

pub bounds-table-at-6 : goal.bounds-table-at-6
bounds-table-at-6 c = simp length-set (omega arith)

pub returns : goal.returns
unfolding words_of
returns c = simp (add-one, add-two, add-three, add-four, add_five)
