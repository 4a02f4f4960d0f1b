-- `walker::steps::step_along` meets its contract. Assumes nothing.
use mathlib.Core.Path.{refl}
use Rattle.walker.specs.Walk.{genuine}
use Rattle.walker.proofs.Standings.{along_yes}
use Rattle.walker.proofs.steps.step_along.Goals as goal

pub returns : goal.returns
returns c =
    search (along_yes c.args.table.now c.args.n c.args.at.row c.args.at.bound (genuine c.args.table.now c.args.n c.args.at.row c.args.at.bound) refl c.in_ok-end_of.ensures.stood.0)
