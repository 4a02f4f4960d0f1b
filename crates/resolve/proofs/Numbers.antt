-- The numbers of an answer, and what `unwrap_or_default` makes of it. Assumes nothing.
use mathlib.Core.Path.{◌≡◌, refl, ap}
use Rattle.std.specs.Prelude.{Result, Ok, Err}
use Rattle.std.specs.Result.{ResultUnwrapsOrElse}
use Rattle.rows.specs.declared.bad_table.BadTable.{BadTable}
use Rattle.resolve.specs.declared.resolved.Resolved.{Resolved}
use Rattle.resolve.specs.contracts.resolved.ResolvedDefault.TheImpl.{is_default-value}
use Rattle.resolve.specs.Resolve.{resolved_number, resolved_row, resolved_bound, resolved_moves}

-- 0 where a row is found
pub number_found : (r : Resolved) → resolved_number (Ok r) ≡ 0
number_found r = refl

-- "12 bad table"
pub number_bad : (why : BadTable) → resolved_number (Err why) ≡ 12
number_bad why = refl

-- "A refusal gives row, bound and moves 0"
pub row_unwrapped : (x : Result Resolved BadTable) (r : Resolved) → ResultUnwrapsOrElse x is_default-value.it r → r.row ≡ resolved_row x
row_unwrapped (Ok y) r h = ap (λ (z : Resolved). z.row) h
row_unwrapped (Err why) r h = h.0

pub bound_unwrapped : (x : Result Resolved BadTable) (r : Resolved) → ResultUnwrapsOrElse x is_default-value.it r → r.bound ≡ resolved_bound x
bound_unwrapped (Ok y) r h = ap (λ (z : Resolved). z.bound) h
bound_unwrapped (Err why) r h = h.1.0

pub moves_unwrapped : (x : Result Resolved BadTable) (r : Resolved) → ResultUnwrapsOrElse x is_default-value.it r → r.moves ≡ resolved_moves x
moves_unwrapped (Ok y) r h = ap (λ (z : Resolved). z.moves) h
moves_unwrapped (Err why) r h = h.1.1
