-- What writing a table answers, and what the output holds afterwards. Assumes nothing: these are definitions.
use Rattle.std.specs.Prelude.{cond, List, [], ℕ, suc, length, leb, Result, Ok, Err}
use Rattle.std.proofs.lemmas.List.Edits.{sets}
use Rattle.numbers.specs.Answer.{number_in, beside_in}
use Rattle.rows.specs.Table.{limit}
use Rattle.rules.specs.Grow.{Growth, grew, bad, grow, rules_hold}
use Rattle.encode.specs.Encode.{encode}
use Rattle.writer.specs.declared.unwritten.Unwritten.{Unwritten}
use Rattle.writer.specs.declared.unwritten.Unwritten.TheVariants.{BadTable, TooLarge, NoRoom}
use Rattle.writer.specs.Unwritten.{unwritten_number, unwritten_beside}

abbrev pub encoded : List ℕ → Growth → List ℕ
encoded s (grew t next) = encode s t
encoded s bad = []

-- "It writes each value in the fewest bytes its kind and size of float allow": the document of the first n rows of a table over the data s
unfoldable pub document_of : ℕ → List ℕ → ℕ → List ℕ → List ℕ
document_of depth table n s = encoded s (grow table n s (suc depth) [] 0)

-- "1 too long: document above 16,777,215 bytes: bytes needed"; "13 no room: output too small: bytes needed"
abbrev pub fitted : ℕ → ℕ → Result ℕ Unwritten
fitted needed room = cond (leb needed limit) (cond (leb needed room) (Ok needed) (Err (NoRoom needed))) (Err (TooLarge needed))

-- "The writer asks 12, 1, 13": the answer with room for that many bytes
unfoldable pub written : ℕ → List ℕ → ℕ → List ℕ → ℕ → Result ℕ Unwritten
written depth table n s room = cond (rules_hold depth table n s) (fitted (length (document_of depth table n s)) room) (Err BadTable)

-- "on success only the written bytes change", and nothing under a refusal
abbrev pub left : Result ℕ Unwritten → List ℕ → List ℕ → List ℕ
left (Ok used) bytes out = sets out 0 bytes
left (Err why) bytes out = out

unfoldable pub output_after : ℕ → List ℕ → ℕ → List ℕ → List ℕ → List ℕ
output_after depth table n s out = left (written depth table n s (length out)) (document_of depth table n s) out

-- the paper's number for each answer, and the number beside it
abbrev pub written_number : Result ℕ Unwritten → ℕ
written_number a = number_in unwritten_number a

abbrev pub written_beside : Result ℕ Unwritten → ℕ
written_beside a = beside_in unwritten_beside a
