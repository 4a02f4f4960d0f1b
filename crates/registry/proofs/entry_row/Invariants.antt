-- `registry::entry_row` meets its contract. The invariant: `at` is the row that so many ends lead to. Assumes nothing.
use mathlib.Core.Path.{◌≡◌}
use Rattle.registry.specs.Inner.{walk}
use Rattle.registry.proofs.entry_row.Given as goal

abbrev pub invariant-loop : goal.invariant-loop
invariant-loop l = l.at ≡ walk l.table l.first l.counter
