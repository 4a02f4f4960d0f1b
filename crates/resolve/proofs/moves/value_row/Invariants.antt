-- `resolve::moves::value_row` meets its contract. Assumes nothing.
use Rattle.std.proofs.Common.{◌≡◌, ◌-◌}
use Rattle.resolve.specs.Resolve.{value_row}
use Rattle.resolve.proofs.moves.value_row.Given as goal

-- the entries that are left, from there on, lead to the same value
abbrev pub invariant-loop : goal.invariant-loop
invariant-loop l = value_row l.table l.n l.end (l.entries - l.counter) l.at ≡ value_row l.table l.n l.end l.entries l.row
