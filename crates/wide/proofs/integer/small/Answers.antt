-- `wide::integer::small` meets its contract: a marker stands as far behind 20 as its number behind -31. Assumes nothing.
use Rattle.wide.specs.Family.{behind}
use Rattle.wide.proofs.integer.small.Goals as goal

pub returns : goal.returns
unfolding behind
returns c = c.near.ensures
