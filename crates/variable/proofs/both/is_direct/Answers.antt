-- `variable::both::is_direct` meets its contract. Assumes nothing.
use mathlib.Core.Path.{◌∙◌}
use Rattle.wide.specs.Words.{value_of}
use Rattle.variable.proofs.Variables.{has-direct}
use Rattle.variable.proofs.both.is_direct.Goals as goal

pub returns : goal.returns
returns c = c.is_near.ensures ∙ has-direct c.args.signed (value_of c.args.w) c.first_of-first.result c.first_of-first.ensures
