-- `spell::put::has_bytes` meets its contract: a kind that is none of the five has no bytes of the data. Assumes nothing.
use mathlib.Core.Path.{◌≡◌, ap, ◌∙◌}
use mathlib.Core.Bool.{false}
use Rattle.encode.specs.Encode.{has_bytes}
use Rattle.spell.proofs.Puts.{without_bytes}
use Rattle.spell.proofs.put.has_bytes.Goals as goal

pub returns-in_default : goal.returns-in_default
returns-in_default c =
    let none : false ≡ has_bytes c.named.result = search without_bytes in
    none ∙ ap has_bytes c.named.ensures
