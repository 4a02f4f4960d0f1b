-- `packing::resolved` meets its contract. Assumes nothing.
use Rattle.resolve.proofs.Numbers.{row_unwrapped, bound_unwrapped, moves_unwrapped}
use Rattle.packing.proofs.Lists.{resolved_lent, resolved_listed}
use Rattle.packing.proofs.resolved.Goals as goal

pub returns-clause-value : goal.returns-clause-value
returns-clause-value c = search (resolved_lent, row_unwrapped, bound_unwrapped, moves_unwrapped)

pub returns-clause-out_after : goal.returns-clause-out_after
returns-clause-out_after c = search (resolved_listed, row_unwrapped, bound_unwrapped, moves_unwrapped)
