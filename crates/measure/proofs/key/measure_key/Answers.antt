-- `measure::key::measure_key` meets its contract. Assumes nothing.
use borrow.Author.Rules.{rules}
use Rattle.measure.proofs.Measures.{key_fits_lem, key_low, key_right}
use Rattle.measure.proofs.key.measure_key.Goals as goal

pub overflow_add-x : goal.overflow_add-x
overflow_add-x c = search key_fits_lem

pub right-requires : goal.right-requires
right-requires c = search (rules, key_low)

pub returns-in-Ok : goal.returns-in-Ok
returns-in-Ok c = search key_right
