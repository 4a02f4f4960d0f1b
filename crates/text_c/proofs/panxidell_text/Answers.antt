-- `text_c::panxidell_text` meets its contract: how far the bytes are text goes by what the check answers. Assumes nothing.
use mathlib.Core.Path.{sym, ap, ◌∙◌}
use Rattle.text_c.specs.UpTo.{up_to}
use Rattle.text_c.proofs.panxidell_text.Goals as goal

pub returns-in-Ok : goal.returns-in-Ok
returns-in-Ok c = ap (up_to _) (sym c.in-Ok.is ∙ c.check.ensures)

pub returns-in-Err : goal.returns-in-Err
returns-in-Err c = ap (up_to _) (sym c.in-Err.is ∙ c.check.ensures)
