-- `laying::one::lay_reference` meets its contract. Assumes nothing.
use Rattle.laying.proofs.Lays.{refer-based, refer-below, refer_done, refer-entry, refer-few, refer-many, refer-next, under_fits}
use Rattle.laying.proofs.Steps.{ready_lent, ready_low, ready_past, ready_within}
use Rattle.laying.proofs.one.lay_reference.Goals as goal

pub entry_in-entry-requires : goal.entry_in-entry-requires
entry_in-entry-requires c = (search ready_within, search refer-many, search refer-below, search refer-based)

pub reference-requires : goal.reference-requires
reference-requires c = (search ready_low, search (refer-few, refer-entry), search (refer-few, refer-entry))

pub lay-requires : goal.lay-requires
lay-requires c = search ready_lent

pub overflow_add-row : goal.overflow_add-row
overflow_add-row c = search under_fits

pub place_and_row-requires : goal.place_and_row-requires
place_and_row-requires c = (search refer-next, search ready_past)

pub returns : goal.returns
returns c = search refer_done
