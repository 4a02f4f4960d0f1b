-- `variable::both::place_of` meets its contract. Assumes nothing.
use Rattle.wide.specs.Family.{behind}
use Rattle.variable.proofs.both.place_of.Goals as goal

pub returns : goal.returns
unfolding behind
returns c = rw c.first_of.ensures
