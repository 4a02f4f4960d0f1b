-- `panxidell_c::panxidell_read_unsigned` meets its contract. Assumes nothing.
use Rattle.packing.proofs.Same.{read_same, read_list}
use Rattle.bounds.proofs.Bounds.{unsigned_used}
use Rattle.panxidell_c.proofs.panxidell_read_unsigned.Goals as goal

pub read-requires : goal.read-requires
read-requires c = search unsigned_used

pub returns : goal.returns
returns c = record { value = search read_same; out_after = search read_list }
