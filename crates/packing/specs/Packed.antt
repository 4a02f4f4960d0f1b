-- How the C library hands an answer over, and what a lent list holds afterwards. Assumes nothing: these are definitions.
use Rattle.std.specs.Prelude.{ℕ, ◌+◌, ◌*◌, ◌^◌, cond, List, [], ◌∷◌, length, leb, Result}
use Rattle.std.proofs.lemmas.List.Edits.{sets}
use Rattle.variable.specs.declared.got.Got.{Got}
use Rattle.variable.specs.declared.short.Short.{Short}
use Rattle.variable.specs.declared.no_room.NoRoom.{NoRoom}
use Rattle.variable.specs.Answer.{read_number, read_value, read_used, coded_number, coded_beside}
use Rattle.rows.specs.declared.bad_table.BadTable.{BadTable}
use Rattle.rows.specs.Table.{limit}
use Rattle.format.specs.declared.unfilled.Unfilled.{Unfilled}
use Rattle.format.specs.declared.unmeasured.Unmeasured.{Unmeasured}
use Rattle.format.specs.Answer.{answer_number, answer_beside, needed_number, needed_beside}
use Rattle.checker.specs.Checked.{checked_number, checked_beside}
use Rattle.writer.specs.declared.unwritten.Unwritten.{Unwritten}
use Rattle.writer.specs.Written.{written_number, written_beside}
use Rattle.walker.specs.declared.standing.Standing.{Standing}
use Rattle.payload.specs.declared.part.Part.{Part}
use Rattle.resolve.specs.declared.resolved.Resolved.{Resolved}
use Rattle.walker.specs.Walk.{Step, step_number, step_standing}
use Rattle.resolve.specs.Resolve.{resolved_number, resolved_row, resolved_bound, resolved_moves}

-- "A `uint64_t` answer has the paper's number in its top 8 bits and the number beside it in the low 56."
unfoldable pub packed : ℕ → ℕ → ℕ
packed number beside = beside + 2 ^ 56 * number

-- measuring, filling, the check, the writer, and writing a variable integer: the paper's number for each answer, and the number beside it
unfoldable pub packed_needed : Result ℕ Unmeasured → ℕ
packed_needed a = packed (needed_number a) (needed_beside a)

unfoldable pub packed_answer : Result ℕ Unfilled → ℕ
packed_answer a = packed (answer_number a) (answer_beside a)

unfoldable pub packed_checked : Result ℕ BadTable → ℕ
packed_checked c = packed (checked_number c) (checked_beside c)

unfoldable pub packed_written : Result ℕ Unwritten → ℕ
packed_written w = packed (written_number w) (written_beside w)

unfoldable pub packed_coded : Result ℕ NoRoom → ℕ
packed_coded w = packed (coded_number w) (coded_beside w)

-- "beside: row << 32 | bound"
unfoldable pub packed_standing : Standing → ℕ
packed_standing at = at.row * 2 ^ 32 + at.bound

unfoldable pub packed_step : Step → ℕ
packed_step s = packed (step_number s) (packed_standing (step_standing s))

-- Above the bound there are 24 bits for a row. So n above the limit is a bad table for the steps and for resolving; none passes the check.
unfoldable pub within {ℓ} : {A : Type ℓ} → ℕ → A → A → A
within n answer bad = cond (leb n limit) answer bad

-- "A lent list shorter than its fixed length (three, two, four) is refused with 13 and the length needed, untouched": the answer, and the list
-- afterwards, whose front is otherwise `words`
unfoldable pub lent_for : List ℕ → List ℕ → ℕ → ℕ
lent_for words out answer = cond (leb (length words) (length out)) answer (packed 13 (length words))

unfoldable pub list_after : List ℕ → List ℕ → List ℕ
list_after words out = cond (leb (length words) (length out)) (sets out 0 words) out

-- "out: row, bound, moves; zeros under a refusal"
unfoldable pub resolved_words : Result Resolved BadTable → List ℕ
resolved_words r = resolved_row r ∷ resolved_bound r ∷ resolved_moves r ∷ []

unfoldable pub packed_resolved : Result Resolved BadTable → List ℕ → ℕ
packed_resolved r out = lent_for (resolved_words r) out (packed (resolved_number r) 0)

-- "out: place, size"
unfoldable pub part_words : Part → List ℕ
part_words p = p.place ∷ p.size ∷ []

unfoldable pub packed_part : Part → List ℕ → ℕ
packed_part p out = lent_for (part_words p) out (packed 0 0)

-- "four words", low word first; "beside: bytes used"; "too few bytes: 2, value and bytes used 0"
unfoldable pub read_words : Result Got Short → List ℕ
read_words r = (read_value r).w0 ∷ (read_value r).w1 ∷ (read_value r).w2 ∷ (read_value r).w3 ∷ []

unfoldable pub packed_read : Result Got Short → List ℕ → ℕ
packed_read r out = lent_for (read_words r) out (packed (read_number r) (read_used r))
