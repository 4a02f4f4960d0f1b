-- The paper's starred cases, read and written again. The list itself is `format/Starred.starred`. Assumes nothing: these are definitions.
use Rattle.std.specs.Prelude.{Bool, true, false, cond, ◌&&◌, List, [], ◌∷◌, ◌++◌, ℕ, ◌-◌, length, replicate, eqb, Result, Ok, Err}
use Rattle.format.specs.declared.unfilled.Unfilled.{Unfilled}
use Rattle.format.specs.Answer.{depth_limit, answer, table_after}
use Rattle.format.specs.Starred.{Case}
use Rattle.writer.specs.Written.{document_of}

-- the answer of the reader, the table afterwards, and what the writer makes of that table over the same bytes
pub record Outcome : Type 0 where
  pub says : Result ℕ Unfilled
  pub table : List ℕ
  pub again : List ℕ

abbrev pub rows_read : Result ℕ Unfilled → ℕ
rows_read (Ok rows) = rows
rows_read (Err why) = 0

abbrev pub outcome : Case → Outcome
outcome c =
    record {
      says = answer depth_limit c.bytes c.table;
      table = table_after depth_limit c.bytes c.table;
      again = document_of depth_limit (table_after depth_limit c.bytes c.table) (rows_read (answer depth_limit c.bytes c.table)) c.bytes;
    }

abbrev pub same_bytes : List ℕ → List ℕ → Bool
same_bytes [] [] = true
same_bytes [] (y ∷ ys) = false
same_bytes (x ∷ xs) [] = false
same_bytes (x ∷ xs) (y ∷ ys) = eqb x y && same_bytes xs ys

-- "`18 40` is kind 4 and is written `7f`"; every other starred document that is accepted is written as it is
abbrev pub shortest : List ℕ → List ℕ
shortest bytes = cond (same_bytes bytes (0x18 ∷ 0x40 ∷ [])) (0x7f ∷ []) bytes

abbrev pub written_again : Result ℕ Unfilled → List ℕ → List ℕ
written_again (Ok rows) bytes = shortest bytes
written_again (Err why) bytes = []

-- the used rows, and zeros behind them
abbrev pub wanted : Case → Outcome
wanted c = record { says = c.says; table = c.rows ++ replicate (length c.table - length c.rows) 0; again = written_again c.says c.bytes }
