-- `panxidell_c::panxidell_on` meets its contract. Assumes nothing.
use Rattle.packing.proofs.Same.{step_same}
use Rattle.bounds.proofs.Bounds.{on_packs}
use Rattle.panxidell_c.proofs.panxidell_on.Goals as goal

pub step-requires : goal.step-requires
step-requires c = on_packs _ _ _ _ c.step_on.ensures

pub returns : goal.returns
returns c = search step_same
