-- `laying::one::lay_leaf` meets its contract. Assumes nothing.
use Rattle.laying.proofs.Lays.{head_sane, leaf_done, leaf-next, under_fits}
use Rattle.laying.proofs.Steps.{ready_lent, ready_low, ready_past}
use Rattle.laying.proofs.one.lay_leaf.Goals as goal

pub leaf_row-requires : goal.leaf_row-requires
leaf_row-requires c = (search ready_low, search head_sane)

pub lay-requires : goal.lay-requires
lay-requires c = search ready_lent

pub overflow_add-row : goal.overflow_add-row
overflow_add-row c = search under_fits

pub place_and_row-requires : goal.place_and_row-requires
place_and_row-requires c = (search leaf-next, search ready_past)

pub returns : goal.returns
returns c = search leaf_done
