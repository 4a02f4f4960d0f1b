-- Words of the contracts inside: what packing an answer asks of it. Definitions only, which no promise to a user cites.
use Rattle.std.specs.Prelude.{◌^◌, ◌<◌, Result}
use Rattle.rows.specs.declared.bad_table.BadTable.{BadTable}
use Rattle.payload.specs.declared.part.Part.{Part}
use Rattle.resolve.specs.declared.resolved.Resolved.{Resolved}
use Rattle.walker.specs.Walk.{Step, step_standing}
use Rattle.resolve.specs.Resolve.{resolved_row, resolved_bound, resolved_moves}

-- a row in 24 bits, a bound in 32: what packing a step asks
pub record LowStep (s : Step) : Type 0 where
  pub row_low : (step_standing s).row < 2 ^ 24
  pub bound_low : (step_standing s).bound < 2 ^ 32

-- each in 32 bits: what packing them asks
pub record SmallResolved (r : Result Resolved BadTable) : Type 0 where
  pub row_small : resolved_row r < 2 ^ 32
  pub bound_small : resolved_bound r < 2 ^ 32
  pub moves_small : resolved_moves r < 2 ^ 32

-- both in 32 bits: what packing them asks
pub record SmallPart (p : Part) : Type 0 where
  pub place_short : p.place < 2 ^ 32
  pub size-short : p.size < 2 ^ 32
