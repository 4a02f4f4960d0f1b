-- Resolving, on any table. Assumes nothing: these are definitions.
use Rattle.std.specs.Prelude.{ℕ, zero, suc, ◌+◌, cond, ◌&&◌, List, ltb, leb, eqb, Option, Some, None, Result, Ok, Err}
use Rattle.numbers.specs.Answer.{number_in}
use Rattle.rows.specs.declared.bad_table.BadTable.{BadTable}
use Rattle.rows.specs.declared.row.Row.{Row}
use Rattle.rows.specs.BadTable.{bad_table_number}
use Rattle.rows.specs.Table.{row_at, lent}
use Rattle.rows.specs.Kinds.{kind_reference, kind_declaration}
use Rattle.resolve.specs.declared.resolved.Resolved.{Resolved}

-- "12 bad table"
abbrev pub broken : {T : Type 0} → Result T BadTable
broken = Err (record {})

-- "to a value that is not below both n and the declaration's end, or lies past an entry whose end is not above its row or is above the
-- declaration's end": the value behind `entries` entries, the first of them at `row`. From a row that is not below n no value below n is reached.
unfoldable pub value_row : List ℕ → ℕ → ℕ → ℕ → ℕ → Result ℕ BadTable
value_row table n end zero row = cond (ltb row n && ltb row end) (Ok row) broken
value_row table n end (suc entries) row =
    cond (ltb row n && (ltb row (row_at table row).end && leb (row_at table row).end end)) (value_row table n end entries (row_at table row).end) broken

-- one move: to a row, to none from a row that is neither a reference nor a declaration, or a broken one
abbrev pub Move : Type 0
Move = Result (Option ℕ) BadTable

-- a value's row, moved on to
abbrev pub to_row : Result ℕ BadTable → Move
to_row (Ok row) = Ok (Some row)
to_row (Err why) = Err why

-- "goes along references and from a declaration to its value until the row is neither"; "along to a row not below the reference" is broken
abbrev pub move_from : List ℕ → ℕ → ℕ → Row → Move
move_from table n row w =
    cond (eqb w.kind kind_reference) (cond (ltb w.w1 row) (Ok (Some w.w1)) broken)
    (cond (eqb w.kind kind_declaration) (to_row (value_row table n w.end w.w0 (row + 1)))
    (Ok None))

-- "a row not below n"
unfoldable pub move_at : List ℕ → ℕ → ℕ → Move
move_at table n row = cond (ltb row n) (move_from table n row (row_at table row)) broken

-- "counts these moves, and gives that row with its end as bound"
abbrev pub chased : Move → Resolved → (ℕ → Result Resolved BadTable) → Result Resolved BadTable
chased (Ok None) here rest = Ok here
chased (Ok (Some next)) here rest = rest next
chased (Err why) here rest = Err why

-- that row, its bound and the moves
abbrev pub ended_at : ℕ → ℕ → ℕ → Resolved
ended_at row bound moves = record { row = row; bound = bound; moves = moves }

-- "it stops with 12 at a broken or the n-th move": move number `left` from here is one too many
unfoldable pub chase : List ℕ → ℕ → ℕ → ℕ → ℕ → Result Resolved BadTable
chase table n zero row moves = broken
chase table n (suc left) row moves =
    chased (move_at table n row) (ended_at row (row_at table row).end moves) (λ next. chase table n left next (moves + 1))

-- "or a table of fewer than n rows"
unfoldable pub resolve : List ℕ → ℕ → ℕ → Result Resolved BadTable
resolve table n row = cond (leb n (lent table)) (chase table n n row 0) broken

-- the paper's number for each answer; "A refusal gives row, bound and moves 0"
abbrev pub resolved_number : Result Resolved BadTable → ℕ
resolved_number = number_in bad_table_number

abbrev pub resolved_row : Result Resolved BadTable → ℕ
resolved_row (Ok r) = r.row
resolved_row (Err why) = 0

abbrev pub resolved_bound : Result Resolved BadTable → ℕ
resolved_bound (Ok r) = r.bound
resolved_bound (Err why) = 0

abbrev pub resolved_moves : Result Resolved BadTable → ℕ
resolved_moves (Ok r) = r.moves
resolved_moves (Err why) = 0
