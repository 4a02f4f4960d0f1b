-- The kinds of rows, and what a row of each says itself. Definitions only.
use Rattle.std.specs.Prelude.{ℕ, ◌+◌}
use Rattle.rows.specs.declared.row.Row.{Row}
use Rattle.rows.specs.Table.{Own, row_of}

-- "Row kinds, with the numbers that every part uses"
abbrev pub kind_false : ℕ
kind_false = 1

abbrev pub kind_true : ℕ
kind_true = 2

abbrev pub kind_none : ℕ
kind_none = 3

abbrev pub kind_small : ℕ
kind_small = 4

abbrev pub kind_signed : ℕ
kind_signed = 5

abbrev pub kind_unsigned : ℕ
kind_unsigned = 6

abbrev pub kind_float : ℕ
kind_float = 7

abbrev pub kind_text : ℕ
kind_text = 8

abbrev pub kind_array : ℕ
kind_array = 9

abbrev pub kind_record : ℕ
kind_record = 10

abbrev pub kind_map : ℕ
kind_map = 11

abbrev pub kind_binary : ℕ
kind_binary = 12

abbrev pub kind_char : ℕ
kind_char = 13

abbrev pub kind_reference : ℕ
kind_reference = 14

abbrev pub kind_declaration : ℕ
kind_declaration = 15

abbrev pub kind_foreign : ℕ
kind_foreign = 16

abbrev pub kind_key : ℕ
kind_key = 17

-- ---- what a row of each kind says itself

abbrev pub own : ℕ → ℕ → ℕ → ℕ → ℕ → Own
own kind w0 w1 w2 w3 = record { kind = kind; w0 = w0; w1 = w1; w2 = w2; w3 = w3 }

-- "1 false, 2 true, 3 none"
abbrev pub constant_own : ℕ → Own
constant_own kind = own kind 0 0 0 0

-- "7 float, 8 text, 12 binary, 17 key: w0 place in the data, w1 size"
abbrev pub span_own : ℕ → ℕ → ℕ → Own
span_own kind place size = own kind place size 0 0

-- "9 array, 10 record, 11 map: w0 count of elements or entries"
abbrev pub holder_own : ℕ → ℕ → Own
holder_own kind count = own kind count 0 0 0

-- "13 char: w0 codepoint"
abbrev pub char_own : ℕ → Own
char_own codepoint = own kind_char codepoint 0 0 0

-- "14 reference: w0 number, w1 row of that entry"
abbrev pub reference_own : ℕ → ℕ → Own
reference_own number entry = own kind_reference number entry 0 0

-- "15 declaration: w0 entries; then the value"
abbrev pub declaration_own : ℕ → Own
declaration_own entries = holder_own kind_declaration entries

-- "16 foreign, right: all 0, one child"
abbrev pub foreign_own : Own
foreign_own = holder_own kind_foreign 0

-- "16 foreign, damaged: w0 place, w1 size, w2 verdict (2..10), no child"
abbrev pub damaged_own : ℕ → ℕ → ℕ → Own
damaged_own place size verdict = own kind_foreign place size verdict 0

-- "a leaf ends at its row + 1"
abbrev pub leaf_row : Own → ℕ → Row
leaf_row o row = row_of o (row + 1)
