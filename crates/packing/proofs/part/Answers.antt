-- `packing::part` meets its contract. Assumes nothing.
use Rattle.packing.proofs.Lists.{part-lent, part-listed}
use Rattle.packing.proofs.part.Goals as goal

pub returns-clause-value : goal.returns-clause-value
returns-clause-value c = search part-lent

pub returns-clause-out_after : goal.returns-clause-out_after
returns-clause-out_after c = search part-listed
