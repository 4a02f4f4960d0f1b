-- `panxidell_c::panxidell_in` meets its contract. Assumes nothing.
use Rattle.packing.proofs.Same.{step_same}
use Rattle.bounds.proofs.Bounds.{in_packs}
use Rattle.panxidell_c.proofs.panxidell_in.Goals as goal

pub step-requires : goal.step-requires
step-requires c = in_packs _ _ _ _ c.step_in.ensures

pub returns : goal.returns
returns c = search step_same
