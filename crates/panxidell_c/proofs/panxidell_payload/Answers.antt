-- `panxidell_c::panxidell_payload` meets its contract. Assumes nothing.
use Rattle.packing.proofs.Same.{part_same, part_list}
use Rattle.bounds.proofs.Bounds.{payload_short}
use Rattle.panxidell_c.proofs.panxidell_payload.Goals as goal

pub part-requires : goal.part-requires
part-requires c = payload_short _ (λ i. (c.type_inv.table i).fits) _ _ _ c.payload_at.ensures

pub returns : goal.returns
returns c = record { value = search part_same; out_after = search part_list }
