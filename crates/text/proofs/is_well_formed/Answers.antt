-- `text::is_well_formed` meets its contract: it asks what the check answers. Assumes nothing.
use mathlib.Core.Bool.{Bool}
use mathlib.Core.Path.{◌≡◌, ap, ◌∙◌}
use Rattle.std.specs.Prelude.{is_ok}
use borrow.Author.Rules.{rules}
use Rattle.text.specs.Check.{Text, well_formed}
use Rattle.text.proofs.is_well_formed.Goals as goal

asked : (r : Bool) (t u : Text) → r ≡ is_ok t → t ≡ u → r ≡ well_formed u
asked r t u e q = e ∙ ap well_formed q

pub returns : goal.returns
returns c = search (asked, rules)
