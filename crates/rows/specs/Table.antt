-- A row, and a table of rows. Definitions only.
use Rattle.std.specs.Prelude.{ℕ, ◌+◌, ◌*◌, ◌/◌, cond, List, [], ◌∷◌, ltb, length, get_or}
use Rattle.rows.specs.declared.row.Row.{Row}

-- "A row is six 32-bit unsigned numbers in a lent table: kind, end, w0, w1, w2, w3"
abbrev pub words_per_row : ℕ
words_per_row = 6

-- what a row says itself: all its numbers but its end
pub record Own : Type 0 where
  pub kind : ℕ
  pub w0 : ℕ
  pub w1 : ℕ
  pub w2 : ℕ
  pub w3 : ℕ

-- "End is the row number after all the row's children": the row that says that and ends at `end`
abbrev pub row_of : Own → ℕ → Row
row_of o end = record { kind = o.kind; end = end; w0 = o.w0; w1 = o.w1; w2 = o.w2; w3 = o.w3 }

-- what the row w says itself
abbrev pub own_of : Row → Own
own_of w = record { kind = w.kind; w0 = w.w0; w1 = w.w1; w2 = w.w2; w3 = w.w3 }

-- the same with another w0: "w0 place in the data"
abbrev pub with_place : Own → ℕ → Own
with_place o place = record { kind = o.kind; w0 = place; w1 = o.w1; w2 = o.w2; w3 = o.w3 }

-- "14 reference: w0 number, w1 row of that entry": the same with another w1; in the tree it is 0
abbrev pub aimed : Own → ℕ → Own
aimed o entry = record { kind = o.kind; w0 = o.w0; w1 = entry; w2 = o.w2; w3 = o.w3 }

-- the numbers of a row, in that order
unfoldable pub words_of : Row → List ℕ
words_of r = r.kind ∷ r.end ∷ r.w0 ∷ r.w1 ∷ r.w2 ∷ r.w3 ∷ []

-- number i of a row of a table
abbrev pub word_at : List ℕ → ℕ → ℕ → ℕ
word_at table row i = get_or table (words_per_row * row + i) 0

-- "Rows stand in document order": row after row, from the front of the table on
unfoldable pub row_at : List ℕ → ℕ → Row
row_at table row =
    record {
      kind = word_at table row 0;
      end = word_at table row 1;
      w0 = word_at table row 2;
      w1 = word_at table row 3;
      w2 = word_at table row 4;
      w3 = word_at table row 5;
    }

-- "A table lends as many rows as it has whole sixes"
abbrev pub lent : List ℕ → ℕ
lent table = length table / words_per_row

-- six zeros: the row of no kind
abbrev pub zeros : Row
zeros = record { kind = 0; end = 0; w0 = 0; w1 = 0; w2 = 0; w3 = 0 }

-- a row that the table lends; any other is zeros, also where some of its words are in the table
unfoldable pub row_or_zeros : List ℕ → ℕ → Row
row_or_zeros table row = cond (ltb row (lent table)) (row_at table row) zeros

-- "n is 1 to 16,777,215 and the table holds n rows; data are at most 16,777,215 bytes"
abbrev pub limit : ℕ
limit = 16777215
