-- What measuring and filling answer, and the table afterwards. Assumes nothing: definitions, and that each number takes 8 bits.
use Rattle.std.specs.Prelude.{ℕ, cond, List, [], length, leb, ◌<◌, ◌^◌, Result, Ok, Err}
use Rattle.std.proofs.Common.{rules}
use Rattle.std.proofs.lemmas.List.Edits.{sets}
use Rattle.numbers.specs.Answer.{number_in, beside_in}
use Rattle.lists.specs.Zeroed.{zeroed}
use Rattle.rows.specs.Table.{lent, limit}
use Rattle.format.specs.declared.unmeasured.Unmeasured.{Unmeasured}
use Rattle.format.specs.declared.unmeasured.Unmeasured.TheVariants as measuring
use Rattle.format.specs.declared.unfilled.Unfilled.{Unfilled}
use Rattle.format.specs.declared.unfilled.Unfilled.TheVariants.{TooLong, Refused, Full}
use Rattle.format.specs.Refusal.{refusal_number, refusal-small}
use Rattle.format.specs.Tree.{size}
use Rattle.format.specs.Value.{Reading, right, wrong, document}
use Rattle.format.specs.Layout.{layout}

-- "Positions nest to depth 32 and no further."
abbrev pub depth_limit : ℕ
depth_limit = 32

-- "measuring takes no table and answers the rows or the refusal"
abbrev pub needed_for : Reading → Result ℕ Unmeasured
needed_for (right t next) = Ok (size t)
needed_for (wrong e place) = Err (measuring.Refused e place)

unfoldable pub needed : ℕ → List ℕ → Result ℕ Unmeasured
needed depth s = cond (leb (length s) limit) (needed_for (document depth s)) (Err measuring.TooLong)

-- "filling takes bytes and table and answers as reading did": "11 full: right, but more rows than lent", with the rows needed
abbrev pub answer_for : ℕ → Reading → Result ℕ Unfilled
answer_for rows (right t next) = cond (leb (size t) rows) (Ok (size t)) (Err (Full (size t)))
answer_for rows (wrong e place) = Err (Refused e place)

-- "The reader asks 1 first, then goes in byte order; .. 10 at the end; 11 last."
unfoldable pub answer : ℕ → List ℕ → List ℕ → Result ℕ Unfilled
answer depth s table = cond (leb (length s) limit) (answer_for (lent table) (document depth s)) (Err TooLong)

-- "After each read all table numbers not in used rows are 0."
abbrev pub filled : ℕ → Reading → List ℕ → List ℕ
filled rows (right t next) table = cond (leb (size t) rows) (sets (zeroed 0 table) 0 (layout t 0 [])) (zeroed 0 table)
filled rows (wrong e place) table = zeroed 0 table

unfoldable pub table_after : ℕ → List ℕ → List ℕ → List ℕ
table_after depth s table = cond (leb (length s) limit) (filled (lent table) (document depth s) table) (zeroed 0 table)

-- the paper's number for each refusal, and the number beside it
abbrev pub unmeasured_number : Unmeasured → ℕ
unmeasured_number measuring.TooLong = 1
unmeasured_number (measuring.Refused e place) = refusal_number e

abbrev pub unmeasured_beside : Unmeasured → ℕ
unmeasured_beside measuring.TooLong = 0
unmeasured_beside (measuring.Refused e place) = place

abbrev pub unfilled_number : Unfilled → ℕ
unfilled_number TooLong = 1
unfilled_number (Refused e place) = refusal_number e
unfilled_number (Full needed) = 11

abbrev pub unfilled_beside : Unfilled → ℕ
unfilled_beside TooLong = 0
unfilled_beside (Refused e place) = place
unfilled_beside (Full needed) = needed

-- each takes 8 bits
pub unmeasured-small : (e : Unmeasured) → unmeasured_number e < 2 ^ 8
unmeasured-small measuring.TooLong = search rules
unmeasured-small (measuring.Refused e place) = refusal-small e

pub unfilled-small : (e : Unfilled) → unfilled_number e < 2 ^ 8
unfilled-small TooLong = search rules
unfilled-small (Refused e place) = refusal-small e
unfilled-small (Full needed) = search rules

-- those of each answer: 0 and the rows where there are any
abbrev pub needed_number : Result ℕ Unmeasured → ℕ
needed_number a = number_in unmeasured_number a

abbrev pub needed_beside : Result ℕ Unmeasured → ℕ
needed_beside a = beside_in unmeasured_beside a

abbrev pub answer_number : Result ℕ Unfilled → ℕ
answer_number a = number_in unfilled_number a

abbrev pub answer_beside : Result ℕ Unfilled → ℕ
answer_beside a = beside_in unfilled_beside a
