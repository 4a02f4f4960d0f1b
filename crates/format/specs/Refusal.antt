-- The numbers of refusals. Assumes nothing: definitions, and that each number takes 8 bits.
use Rattle.std.specs.Prelude.{ℕ, ◌<◌, ◌^◌}
use Rattle.std.proofs.Common.{rules}
use Rattle.format.specs.declared.refusal.Refusal.{Refusal}
use Rattle.format.specs.declared.refusal.Refusal.TheVariants.{Short, Marker, Huge, Text, Char, NoEntry, Empty, Deep, Extra}

-- "Refusal numbers and their order"
abbrev pub refusal_number : Refusal → ℕ
refusal_number Short = 2  -- "bytes end inside an item"
refusal_number Marker = 3  -- "`0e`, `0f`, or `0d` before other than `0d`, `00`"
refusal_number Huge = 4  -- "length, count or number above 16,777,215"
refusal_number Text = 5  -- "not RFC 3629"
refusal_number Char = 6  -- "not a codepoint allowed"
refusal_number NoEntry = 7  -- "reference not in force"
refusal_number Empty = 8  -- "declaration of 0"
refusal_number Deep = 9  -- "position at depth 33"
refusal_number Extra = 10  -- "bytes after the value"

-- each takes 8 bits
pub refusal-small : (e : Refusal) → refusal_number e < 2 ^ 8
refusal-small Short = search rules
refusal-small Marker = search rules
refusal-small Huge = search rules
refusal-small Text = search rules
refusal-small Char = search rules
refusal-small NoEntry = search rules
refusal-small Empty = search rules
refusal-small Deep = search rules
refusal-small Extra = search rules
