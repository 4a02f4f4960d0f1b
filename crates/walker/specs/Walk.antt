-- Steps from a standing, on any table. Assumes nothing: these are definitions.
use Rattle.std.specs.Prelude.{ℕ, ◌+◌, Bool, cond, ◌&&◌, List, ltb, leb, eqb, Result, Ok, Err}
use Rattle.numbers.specs.Answer.{number_in}
use Rattle.rows.specs.declared.row.Row.{Row}
use Rattle.rows.specs.Table.{row_at, lent}
use Rattle.rows.specs.Kinds.{kind_reference}
use Rattle.walker.specs.declared.standing.Standing.{Standing}
use Rattle.walker.specs.declared.unmoved.Unmoved.{Unmoved}
use Rattle.walker.specs.declared.unmoved.Unmoved.TheVariants.{NoStep, BadTable}
use Rattle.walker.specs.Unmoved.{unmoved_number}

abbrev pub standing : ℕ → ℕ → Standing
standing row bound = record { row = row; bound = bound }

-- "it starts at row 0 with bound n"
abbrev pub start_of : ℕ → Standing
start_of n = standing 0 n

-- "A standing is forged when the table holds fewer than n rows, its row is not below n, its bound is not in row + 1..n, or the row's end is
-- not in row + 1..bound": true where it is not
unfoldable pub genuine : List ℕ → ℕ → ℕ → ℕ → Bool
genuine table n row bound =
    leb n (lent table) && (ltb row n && (ltb row bound && (leb bound n && (ltb row (row_at table row).end && leb (row_at table row).end bound))))

-- what a step answers: the new standing, or why there is none
abbrev pub Step : Type 0
Step = Result Standing Unmoved

-- "12, asked first"
abbrev pub asked : Bool → Step → Step
asked good step = cond good step (Err BadTable)

-- "In: row + 1, if below the row's end, which is its bound. .. No such row: 14."
abbrev pub inward : ℕ → Row → Step
inward row w = cond (ltb (row + 1) w.end) (Ok (standing (row + 1) w.end)) (Err NoStep)

-- "On: the row at this row's end, if below the bound."
abbrev pub onward : ℕ → Row → Step
onward bound w = cond (ltb w.end bound) (Ok (standing w.end bound)) (Err NoStep)

-- "Along: a reference's entry, bound that entry's end."; "On an unchecked table .. along to a row not below the reference, is 12."
abbrev pub alongside : List ℕ → ℕ → Row → Step
alongside table row w = cond (eqb w.kind kind_reference) (cond (ltb w.w1 row) (Ok (standing w.w1 (row_at table w.w1).end)) (Err BadTable)) (Err NoStep)

unfoldable pub step_in : List ℕ → ℕ → Standing → Step
step_in table n at = asked (genuine table n at.row at.bound) (inward at.row (row_at table at.row))

unfoldable pub step_on : List ℕ → ℕ → Standing → Step
step_on table n at = asked (genuine table n at.row at.bound) (onward at.bound (row_at table at.row))

unfoldable pub step_along : List ℕ → ℕ → Standing → Step
step_along table n at = asked (genuine table n at.row at.bound) (alongside table at.row (row_at table at.row))

-- the paper's number for each answer; "A refusal gives row, bound and moves 0"
abbrev pub step_number : Step → ℕ
step_number = number_in unmoved_number

abbrev pub step_standing : Step → Standing
step_standing (Ok at) = at
step_standing (Err why) = standing 0 0
