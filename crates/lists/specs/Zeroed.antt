-- Zeros behind a place. Definitions only.
use Rattle.std.specs.Prelude.{ℕ, ◌-◌, List, ◌++◌, length, take, replicate}

-- "After each read all table numbers not in used rows are 0": the numbers before `from` stay, those from it on are 0
unfoldable pub zeroed : ℕ → List ℕ → List ℕ
zeroed from l = take from l ++ replicate (length l - from) 0
