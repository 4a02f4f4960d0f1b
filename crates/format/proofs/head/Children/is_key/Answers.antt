-- `format::head::Children::is_key` meets its contract. Assumes nothing.
use mathlib.Core.Path.{ap, sym}
use Rattle.format.specs.declared.head.Children.{Children}
use Rattle.format.specs.Value.{is_key}
use Rattle.format.proofs.head.Children.is_key.Goals as goal

pub returns-in-Keyed : goal.returns-in-Keyed
returns-in-Keyed c = ap (λ (x : Children). is_key x c.args.i) (sym c.in-Keyed.is)
