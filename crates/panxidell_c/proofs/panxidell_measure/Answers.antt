-- `panxidell_c::panxidell_measure` meets its contract. Assumes nothing.
use Rattle.packing.proofs.Packs.{needed-packed}
use Rattle.bounds.proofs.Bounds.{needed-beside}
use Rattle.panxidell_c.proofs.panxidell_measure.Goals as goal

pub answer-requires : goal.answer-requires
answer-requires c = search needed-beside

pub returns : goal.returns
returns c = search needed-packed
