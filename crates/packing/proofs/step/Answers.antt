-- `packing::step` meets its contract. Assumes nothing.
use Rattle.walker.proofs.Standings.{unwrapped}
use Rattle.packing.proofs.Lists.{standing_or_zeros}
use Rattle.packing.proofs.Packs.{step-many, step-packed}
use Rattle.packing.proofs.step.Goals as goal

pub returns-then-n-gt-LIMIT : goal.returns-then-n-gt-LIMIT
returns-then-n-gt-LIMIT c = search step-many

pub returns : goal.returns
returns c = search (step-packed, unwrapped, standing_or_zeros)
