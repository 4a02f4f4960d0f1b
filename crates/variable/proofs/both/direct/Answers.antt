-- `variable::both::direct` meets its contract. Assumes nothing.
use mathlib.Core.Path.{ap, ◌∙◌}
use Rattle.wide.specs.Words.{wide_of}
use Rattle.variable.proofs.Variables.{number-direct}
use borrow.Author.Rules.{rules}
use Rattle.variable.proofs.both.direct.Goals as goal

pub returns : goal.returns
returns c = c.near.ensures ∙ ap wide_of (number-direct c.args.signed c.args.b c.first_of-below.result (search rules) c.first_of-below.ensures)
