-- Laws of rows in a table: a row that is laid, read, left alone or zeroed, and how many a table lends. Assumes nothing.
use mathlib.Core.Path.{◌≡◌, refl, sym, ap, ◌∙◌}
use mathlib.Core.Logic.{◌≢◌}
use Prim.Native.Nat.{ℕ, ◌+◌, ◌-◌, ◌*◌, ◌≤◌, ◌<◌}
use native.Mathlib.Nat.{add-zero, zero-add}
use native.Mathlib.Numerals.{add-one, add-two, add-three, add-four, add_five}
use native.Mathlib.Omega.{arith, ne_cases}
use mathlib.Core.List.{List, ◌++◌}
use borrow.Author.Tests.{lt-ltb, le-ltb}
use lib.ListN.{length, get_or, drop, replicate, get_or-append}
use lib.Seq.{sets, length-sets, get_or-drop, set-get_or}
use Rattle.lists.specs.Zeroed.{zeroed}
use Rattle.lists.proofs.Sets.{sets_append, sets_comm, sets_join, sets_over, get_or_sets_before, get_or_sets_behind, drop_sets_at}
use Rattle.lists.proofs.Zeros.{length-zeroed, zeroed-front}
use Rattle.rows.specs.declared.row.Row.{Row}
use Rattle.rows.specs.Table.{words_per_row, words_of, word_at, row_at, lent, zeros, row_or_zeros}

-- ---- a row and its words

pub length-words : (r : Row) → length (words_of r) ≡ words_per_row
unfolding words_of
length-words r = refl

-- a row is told by its words
pub row_is : (table : List ℕ) (row : ℕ) (r : Row)
    → r.kind ≡ word_at table row 0
    → r.end ≡ word_at table row 1
    → r.w0 ≡ word_at table row 2
    → r.w1 ≡ word_at table row 3
    → r.w2 ≡ word_at table row 4
    → r.w3 ≡ word_at table row 5
    → r ≡ row_at table row
unfolding row_at
row_is table row r kind end w0 w1 w2 w3 = λ i. record { kind = kind i; end = end i; w0 = w0 i; w1 = w1 i; w2 = w2 i; w3 = w3 i }

pub row_alike : (a : List ℕ) (i : ℕ) (b : List ℕ) (j : ℕ) → ((n : ℕ) → n < words_per_row → word_at a i n ≡ word_at b j n) → row_at a i ≡ row_at b j
unfolding row_at
row_alike a i b j f =
    row_is b j (row_at a i) (f 0 (omega arith)) (f 1 (omega arith)) (f 2 (omega arith)) (f 3 (omega arith)) (f 4 (omega arith)) (f 5 (omega arith))

-- the place of word k of a row, counted from n rows on
shifted : (n row k : ℕ) → words_per_row * n + (words_per_row * row + k) ≡ words_per_row * (n + row) + k
shifted n row k = omega arith

row-front : (r : Row) (rest : List ℕ) → row_at (words_of r ++ rest) 0 ≡ r
unfolding words_of row_at
row-front r rest = refl

-- where a row's words stand, there is the row
pub row_words : (table : List ℕ) (row : ℕ) (r : Row) (rest : List ℕ) → drop (words_per_row * row) table ≡ words_of r ++ rest → row_at table row ≡ r
row_words table row r rest e =
    row_alike table row (words_of r ++ rest) 0
    (λ n _. sym (get_or-drop (words_per_row * row) table n 0) ∙ ap (λ (l : List ℕ). get_or l n 0) e ∙ rw zero-add)
    ∙ row-front r rest

-- the row that stands there, laid there again, changes nothing
pub row_kept : (table : List ℕ) (row : ℕ) → sets table (words_per_row * row) (words_of (row_at table row)) ≡ table
unfolding words_of row_at
row_kept table row = simp (add-zero, add-one, add-two, add-three, add-four, add_five, set-get_or)

-- a table from a row on: the row's words, and what is behind them
pub drop-row : (table : List ℕ) (row : ℕ) → row < lent table
    → drop (words_per_row * row) table ≡ words_of (row_at table row) ++ drop (words_per_row * (row + 1)) table
drop-row table row h =
    let e : words_per_row * row + length (words_of (row_at table row)) ≡ words_per_row * (row + 1) = omega (arith, length-words (row_at table row)) in
    ap (drop (words_per_row * row)) (sym (row_kept table row))
    ∙ drop_sets_at table (words_per_row * row) (words_of (row_at table row)) (omega arith)
    ∙ ap (λ (n : ℕ). words_of (row_at table row) ++ drop n table) e

-- ---- rows of a part, of two lists on end, and of a run that is laid

pub row_drop : (table : List ℕ) (n row : ℕ) → row_at (drop (words_per_row * n) table) row ≡ row_at table (n + row)
row_drop table n row =
    row_alike (drop (words_per_row * n) table) row table (n + row)
    (λ k lt. get_or-drop (words_per_row * n) table (words_per_row * row + k) 0 ∙ ap (λ (i : ℕ). get_or table i 0) (shifted n row k))

pub row-append-left : (xs ys : List ℕ) (row : ℕ) → words_per_row * (row + 1) ≤ length xs → row_at (xs ++ ys) row ≡ row_at xs row
row-append-left xs ys row h =
    row_alike (xs ++ ys) row xs row (λ k lt. get_or-append xs ys 0 (words_per_row * row + k) (omega arith))

pub row_sets_in : (table : List ℕ) (n : ℕ) (vs : List ℕ) (row : ℕ) → words_per_row * n + length vs ≤ length table → words_per_row * (row + 1) ≤ length vs
    → row_at (sets table (words_per_row * n) vs) (n + row) ≡ row_at vs row
row_sets_in table n vs row h k =
    sym (row_drop (sets table (words_per_row * n) vs) n row)
    ∙ ap (λ (l : List ℕ). row_at l row) (drop_sets_at table (words_per_row * n) vs h)
    ∙ row-append-left vs (drop (words_per_row * n + length vs) table) row k

-- ---- a row and what is laid or zeroed beside it

pub row_sets_before : (table : List ℕ) (row i : ℕ) (vs : List ℕ) → i + length vs ≤ words_per_row * row → row_at (sets table i vs) row ≡ row_at table row
row_sets_before table row i vs h =
    row_alike (sets table i vs) row table row (λ n lt. get_or_sets_behind table i vs (words_per_row * row + n) (omega arith))

pub row_sets_behind : (table : List ℕ) (row i : ℕ) (vs : List ℕ) → words_per_row * (row + 1) ≤ i → row_at (sets table i vs) row ≡ row_at table row
row_sets_behind table row i vs h =
    row_alike (sets table i vs) row table row (λ n lt. get_or_sets_before table i vs (words_per_row * row + n) (omega arith))

-- ---- a row that is laid

-- it is read back
pub row_laid : (table : List ℕ) (row : ℕ) (r : Row) → row < lent table → row_at (sets table (words_per_row * row) (words_of r)) row ≡ r
row_laid table row r h =
    row_words (sets table (words_per_row * row) (words_of r)) row r (drop (words_per_row * row + length (words_of r)) table)
    (drop_sets_at table (words_per_row * row) (words_of r) (omega (arith, length-words r)))

-- every other row stays
pub row-laid-other : (table : List ℕ) (row : ℕ) (r : Row) (other : ℕ) → other ≢ row
    → row_at (sets table (words_per_row * row) (words_of r)) other ≡ row_at table other
row-laid-other table row r other ne =
    ne_cases other row _ ne
    (λ lt. row_sets_behind table other (words_per_row * row) (words_of r) (omega arith))
    (λ gt. row_sets_before table other (words_per_row * row) (words_of r) (omega (arith, length-words r)))

-- laid over another, it alone is there
pub row-laid-over : (table : List ℕ) (row : ℕ) (q r : Row)
    → sets (sets table (words_per_row * row) (words_of q)) (words_per_row * row) (words_of r) ≡ sets table (words_per_row * row) (words_of r)
row-laid-over table row q r = sets_over table (words_per_row * row) (words_of q) (words_of r) (omega (arith, length-words q, length-words r))

-- two rows may be laid in either order
pub rows_comm : (table : List ℕ) (row : ℕ) (r : Row) (other : ℕ) (q : Row) → other ≢ row
    → sets (sets table (words_per_row * row) (words_of r)) (words_per_row * other) (words_of q)
    ≡ sets (sets table (words_per_row * other) (words_of q)) (words_per_row * row) (words_of r)
rows_comm table row r other q ne =
    ne_cases other row _ ne
    (λ lt. sets_comm table (words_per_row * other) (words_of q) (words_per_row * row) (words_of r) (omega (arith, length-words q)))
    (λ gt. sym (sets_comm table (words_per_row * row) (words_of r) (words_per_row * other) (words_of q) (omega (arith, length-words r))))

-- a row first and what is behind it next, or the other way round: a holder's row is laid after its children's
pub row_first : (table : List ℕ) (row : ℕ) (r : Row) (rest : List ℕ)
    → sets (sets table (words_per_row * row) (words_of r)) (words_per_row * (row + 1)) rest ≡ sets table (words_per_row * row) (words_of r ++ rest)
row_first table row r rest =
    let e : words_per_row * (row + 1) ≡ words_per_row * row + length (words_of r) = omega (arith, length-words r) in
    ap (λ (n : ℕ). sets (sets table (words_per_row * row) (words_of r)) n rest) e ∙ sym (sets_append table (words_per_row * row) (words_of r) rest)

pub row_last : (table : List ℕ) (row : ℕ) (r : Row) (rest : List ℕ)
    → sets (sets table (words_per_row * (row + 1)) rest) (words_per_row * row) (words_of r) ≡ sets table (words_per_row * row) (words_of r ++ rest)
row_last table row r rest = sets_join table (words_per_row * row) (words_of r) (words_per_row * (row + 1)) rest (omega (arith, length-words r))

-- ---- the table

-- n rows at the front, and zeros behind them
pub rows-zeroed : (table words : List ℕ) (n : ℕ) → length words ≡ words_per_row * n → words_per_row * n ≤ length table
    → zeroed (words_per_row * n) (sets table 0 words) ≡ words ++ replicate (length table - words_per_row * n) 0
rows-zeroed table words n e h = rw e at (zeroed-front table words (omega arith))

-- n rows are lent where the table has their words
pub lent-room : (table : List ℕ) (n : ℕ) → n ≤ lent table → words_per_row * n ≤ length table
lent-room table n h = omega arith

pub room-lent : (table : List ℕ) (n : ℕ) → words_per_row * n ≤ length table → n ≤ lent table
room-lent table n h = omega arith

pub lent_sets : (table : List ℕ) (i : ℕ) (vs : List ℕ) → lent (sets table i vs) ≡ lent table
lent_sets table i vs = rw length-sets

pub lent-zeroed : (from : ℕ) (table : List ℕ) → lent (zeroed from table) ≡ lent table
lent-zeroed from table = rw length-zeroed

-- a row by any number, as the code tells whether it is lent
pub row_where_lent : (table : List ℕ) (row l : ℕ) (r : Row) → l ≡ lent table → row < l → r ≡ row_at table row → r ≡ row_or_zeros table row
unfolding row_or_zeros
row_where_lent table row l r is h e = e ∙ rw (lt-ltb row (lent table) (omega arith))

pub zeros_where_not : (table : List ℕ) (row l : ℕ) (r : Row) → l ≡ lent table → l ≤ row
    → (r.kind ≡ 0) × (r.end ≡ 0) × (r.w0 ≡ 0) × (r.w1 ≡ 0) × (r.w2 ≡ 0) × (r.w3 ≡ 0) → r ≡ row_or_zeros table row
unfolding row_or_zeros
zeros_where_not table row l r is h z =
    let e : r ≡ zeros = λ i. record { kind = z.0 i; end = z.1 i; w0 = z.2 i; w1 = z.3 i; w2 = z.4 i; w3 = z.5 i } in
    rw (le-ltb row (lent table) (omega arith)) e
