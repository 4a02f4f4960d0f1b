-- `packing::pack::pack` meets its contract. Assumes nothing.
use Rattle.packing.proofs.Packs.{pack_is}
use Rattle.packing.proofs.pack.pack.Goals as goal

pub returns : goal.returns
returns c = pack_is _ _
