-- What writing a table and reading its document back answers. Assumes nothing: these are definitions.
use Rattle.std.specs.Prelude.{◌≡◌, true, List, ℕ, ◌≤◌, length, Result, Ok, Err}
use Rattle.rows.specs.Table.{lent, limit}
use Rattle.format.specs.declared.unfilled.Unfilled.{Unfilled}
use Rattle.format.specs.Answer.{answer, table_after}
use Rattle.rules.specs.Grow.{rules_hold}
use Rattle.writer.specs.declared.unwritten.Unwritten.{Unwritten}
use Rattle.writer.specs.Written.{document_of, written}
use Rattle.demands.specs.Alike.{SameRows}

-- the table was not written, or it was, and reading its document answers this
abbrev pub Back : Type 0
Back = Result (Result ℕ Unfilled) Unwritten

-- by what writing answers: the document is read into the table `back`, or there is none
abbrev pub read_back : ℕ → Result ℕ Unwritten → List ℕ → List ℕ → Back
read_back depth (Ok used) document back = Ok (answer depth document back)
read_back depth (Err why) document back = Err why

abbrev pub back_after : ℕ → Result ℕ Unwritten → List ℕ → List ℕ → List ℕ
back_after depth (Ok used) document back = table_after depth document back
back_after depth (Err why) document back = back

unfoldable pub back_of : ℕ → List ℕ → ℕ → List ℕ → ℕ → List ℕ → Back
back_of depth table n s room back = read_back depth (written depth table n s room) (document_of depth table n s) back

unfoldable pub table_back : ℕ → List ℕ → ℕ → List ℕ → ℕ → List ℕ → List ℕ
table_back depth table n s room back = back_after depth (written depth table n s room) (document_of depth table n s) back

-- "A table that passes the check, written with room and within the size limit, reads back as the same rows and payload bytes, places aside":
-- into a table of n rows or more
pub record Again (depth : ℕ) (table : List ℕ) (n : ℕ) (s : List ℕ) (r : Back) (after : List ℕ) : Type 0 where
  pub accepted : r ≡ Ok (Ok n)
  pub rows : SameRows table s after (document_of depth table n s) n
  -- they obey the row rules too
  pub right : rules_hold depth after n (document_of depth table n s) ≡ true

unfoldable pub ReadsBack : ℕ → List ℕ → ℕ → List ℕ → ℕ → List ℕ → Back → List ℕ → Type 0
ReadsBack depth table n s room back r after =
    rules_hold depth table n s ≡ true → length (document_of depth table n s) ≤ limit → length (document_of depth table n s) ≤ room → n ≤ lent back → Again depth table n s r after
