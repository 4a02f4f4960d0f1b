-- `format::children::in_foreign` meets its contract: the one place where code and definition of it meet. Assumes nothing.
use mathlib.Core.Path.{refl}
use Rattle.format.specs.Value.{in_foreign}
use Rattle.format.proofs.children.in_foreign.Goals as goal

pub returns : goal.returns
unfolding in_foreign
returns c = refl
