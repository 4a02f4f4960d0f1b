-- The number of a bad table. Assumes nothing: definitions, and that each number takes 8 bits.
use Rattle.std.specs.Prelude.{ℕ, ◌<◌, ◌^◌}
use Rattle.std.proofs.Common.{rules}
use Rattle.rows.specs.declared.bad_table.BadTable.{BadTable}

-- "12 bad table: a row rule is broken"; nothing stands beside it
abbrev pub bad_table_number : BadTable → ℕ
bad_table_number e = 12

abbrev pub bad_table_beside : BadTable → ℕ
bad_table_beside e = 0

-- it takes 8 bits
pub bad_table-small : (e : BadTable) → bad_table_number e < 2 ^ 8
bad_table-small e = search rules
