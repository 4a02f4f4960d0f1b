-- `packing::read` meets its contract. Assumes nothing.
use Rattle.variable.proofs.Promises.{value_unwrapped, used_unwrapped}
use Rattle.packing.proofs.Lists.{read_lent, read_listed, value_or_zeros, used_or_zeros}
use Rattle.packing.proofs.read.Goals as goal

pub returns-clause-value : goal.returns-clause-value
returns-clause-value c = search (read_lent, value_unwrapped, used_unwrapped, value_or_zeros, used_or_zeros)

pub returns-clause-out_after : goal.returns-clause-out_after
returns-clause-out_after c = search (read_listed, value_unwrapped, value_or_zeros)
