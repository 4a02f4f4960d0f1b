-- `panxidell_c::panxidell_along` meets its contract. Assumes nothing.
use Rattle.packing.proofs.Same.{step_same}
use Rattle.bounds.proofs.Bounds.{along_packs}
use Rattle.panxidell_c.proofs.panxidell_along.Goals as goal

pub step-requires : goal.step-requires
step-requires c = along_packs _ _ _ _ (λ i. (c.type_inv.table i).fits) c.step_along.ensures

pub returns : goal.returns
returns c = search step_same
