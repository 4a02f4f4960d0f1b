-- The paper's number for each step that leads nowhere. Assumes nothing: definitions, and that each number takes 8 bits.
use Rattle.std.specs.Prelude.{ℕ, ◌<◌, ◌^◌}
use Rattle.std.proofs.Common.{rules}
use Rattle.walker.specs.declared.unmoved.Unmoved.{Unmoved}
use Rattle.walker.specs.declared.unmoved.Unmoved.TheVariants.{NoStep, BadTable}

-- "No such row: 14."; "12 bad table"
abbrev pub unmoved_number : Unmoved → ℕ
unmoved_number NoStep = 14
unmoved_number BadTable = 12

-- it takes 8 bits
pub unmoved-small : (e : Unmoved) → unmoved_number e < 2 ^ 8
unmoved-small NoStep = search rules
unmoved-small BadTable = search rules
