-- `panxidell_c::panxidell_check` meets its contract. Assumes nothing.
use Rattle.packing.proofs.Packs.{checked-packed}
use Rattle.bounds.proofs.Bounds.{checked-beside}
use Rattle.panxidell_c.proofs.panxidell_check.Goals as goal

pub answer-requires : goal.answer-requires
answer-requires c = search checked-beside

pub returns : goal.returns
returns c = search checked-packed
