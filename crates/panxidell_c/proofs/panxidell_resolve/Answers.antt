-- `panxidell_c::panxidell_resolve` meets its contract. Assumes nothing.
use Rattle.packing.proofs.Same.{resolved_same, resolved_list}
use Rattle.bounds.proofs.Bounds.{resolved_small}
use Rattle.panxidell_c.proofs.panxidell_resolve.Goals as goal

pub resolved-requires : goal.resolved-requires
resolved-requires c = resolved_small _ (λ i. (c.type_inv.table i).fits) _ _ _ c.resolve_within.ensures

pub returns : goal.returns
returns c = record { value = search resolved_same; out_after = search resolved_list }
