-- `laying::one::lay_damaged` meets its contract. Assumes nothing.
use borrow.Author.Rules.{rules}
use Rattle.laying.proofs.Lays.{damaged_done, under_fits}
use Rattle.laying.proofs.Steps.{ready_lent, ready_low, ready_past}
use Rattle.laying.proofs.one.lay_damaged.Goals as goal

pub damaged-requires : goal.damaged-requires
damaged-requires c = (search ready_low, search rules, search rules)

pub lay-requires : goal.lay-requires
lay-requires c = search ready_lent

pub overflow_add-row : goal.overflow_add-row
overflow_add-row c = search under_fits

pub place_and_row-requires : goal.place_and_row-requires
place_and_row-requires c = (search rules, search ready_past)

pub returns : goal.returns
returns c = search damaged_done
