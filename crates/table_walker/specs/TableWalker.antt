-- A walker that holds its table. Assumes nothing: these are definitions.
use Rattle.std.specs.Prelude.{ℕ, List}
use Rattle.std.specs.Borrow.{Bor}
use Rattle.walker.specs.declared.standing.Standing.{Standing}
use Rattle.walker.specs.Walk.{Step, step_in, step_on, step_along}
use Rattle.table_walker.specs.declared.Walker.{Walker}

-- "A walker stands on a row of a lent table, with the end of the holder around it as its bound": a lent table of n rows, and a standing on it
abbrev pub walker_at : Bor (List ℕ) → ℕ → Standing → Walker
walker_at table n at = record { table = table; n = n; at = at }

-- "In", "On" and "Along" from where a walker stands
abbrev pub walker_in : Walker → Step
walker_in w = step_in w.table.now w.n w.at

abbrev pub walker_on : Walker → Step
walker_on w = step_on w.table.now w.n w.at

abbrev pub walker_along : Walker → Step
walker_along w = step_along w.table.now w.n w.at
