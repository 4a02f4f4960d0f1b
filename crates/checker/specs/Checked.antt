-- What the check answers. Assumes nothing: these are definitions.
use Rattle.std.specs.Prelude.{ℕ, cond, List, Result, Ok, Err}
use Rattle.numbers.specs.Answer.{number_in, beside_in}
use Rattle.rows.specs.declared.bad_table.BadTable.{BadTable}
use Rattle.rows.specs.BadTable.{bad_table_number, bad_table_beside}
use Rattle.rules.specs.Grow.{rules_hold}

-- the refusal that says no more
abbrev pub bad_table : BadTable
bad_table = record {}

-- "12 bad table: a row rule is broken"; the first n rows of the table over the data s, with positions down to `depth`
unfoldable pub checked : ℕ → List ℕ → ℕ → List ℕ → Result ℕ BadTable
checked depth table n s = cond (rules_hold depth table n s) (Ok n) (Err bad_table)

-- the paper's number for each answer, and the number beside it
abbrev pub checked_number : Result ℕ BadTable → ℕ
checked_number a = number_in bad_table_number a

abbrev pub checked_beside : Result ℕ BadTable → ℕ
checked_beside a = beside_in bad_table_beside a
