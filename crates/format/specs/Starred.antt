-- The paper's starred cases that speak of reading, the slips that it names, and three cases of request §2. Assumes nothing: these are definitions.
use Rattle.std.specs.Prelude.{ℕ, zero, suc, ◌*◌, List, [], ◌∷◌, ◌++◌, replicate, Result, Ok, Err}
use Rattle.rows.specs.Table.{words_per_row}
use Rattle.format.specs.declared.refusal.Refusal.TheVariants as why
use Rattle.format.specs.declared.unfilled.Unfilled.{Unfilled}
use Rattle.format.specs.declared.unfilled.Unfilled.TheVariants.{Refused, Full}

-- bytes read into a lent table, the answer, and the words of the used rows
pub record Case : Type 0 where
  pub bytes : List ℕ
  pub table : List ℕ
  pub says : Result ℕ Unfilled
  pub rows : List ℕ

-- a table of that many rows, and two words more, none of them 0
abbrev pub dirty : ℕ → List ℕ
dirty rows = replicate 2 7 ++ replicate (words_per_row * rows) 9

abbrev reads_into : ℕ → List ℕ → ℕ → List ℕ → Case
reads_into lent bytes n rows = record { bytes = bytes; table = dirty lent; says = Ok n; rows = rows }

abbrev reads : List ℕ → ℕ → List ℕ → Case
reads bytes n rows = reads_into 8 bytes n rows

abbrev refused : List ℕ → Unfilled → Case
refused bytes why = record { bytes = bytes; table = dirty 8; says = Err why; rows = [] }

abbrev full : List ℕ → ℕ → ℕ → Case
full bytes lent needed = record { bytes = bytes; table = dirty lent; says = Err (Full needed); rows = [] }

-- a row
abbrev row : ℕ → ℕ → ℕ → ℕ → ℕ → ℕ → List ℕ
row kind end w0 w1 w2 w3 = kind ∷ end ∷ w0 ∷ w1 ∷ w2 ∷ w3 ∷ []

-- the same row n times
abbrev times : ℕ → List ℕ → List ℕ
times zero words = []
times (suc n) words = words ++ times n words

abbrev minus_one : ℕ
minus_one = 0xffffffff

unfoldable pub starred : List Case
starred =
    -- "empty: 2 at 0. `02`: one row, kind 3. `02 02`: 10 at 1."
    refused [] (Refused why.Short 0)
    ∷ reads (0x02 ∷ []) 1 (row 3 1 0 0 0 0)
    ∷ refused (0x02 ∷ 0x02 ∷ []) (Refused why.Extra 1)
    -- "`20` is -31, `3f` is 0, `40` is 1, `7f` is 64. `18 40` is kind 4 ..; `18 41` is kind 6, 65."
    ∷ reads (0x20 ∷ []) 1 (row 4 1 0xffffffe1 minus_one minus_one minus_one)
    ∷ reads (0x3f ∷ []) 1 (row 4 1 0 0 0 0)
    ∷ reads (0x40 ∷ []) 1 (row 4 1 1 0 0 0)
    ∷ reads (0x7f ∷ []) 1 (row 4 1 64 0 0 0)
    ∷ reads (0x18 ∷ 0x40 ∷ []) 1 (row 4 1 64 0 0 0)
    ∷ reads (0x18 ∷ 0x41 ∷ []) 1 (row 6 1 65 0 0 0)
    -- "-32: `10 e0`."
    ∷ reads (0x10 ∷ 0xe0 ∷ []) 1 (row 5 1 0xffffffe0 minus_one minus_one minus_one)
    -- "`0d 0d 01 80 61 a2 c1 c1 c1`: six rows, text at place 4. With five lent: 11, six needed."
    ∷ reads (0x0d ∷ 0x0d ∷ 0x01 ∷ 0x80 ∷ 0x61 ∷ 0xa2 ∷ 0xc1 ∷ 0xc1 ∷ 0xc1 ∷ []) 6
    (row 15 6 1 0 0 0 ++ row 8 2 4 1 0 0 ++ row 9 6 3 0 0 0 ++ row 14 4 0 1 0 0 ++ row 14 5 0 1 0 0 ++ row 14 6 0 1 0 0)
    ∷ full (0x0d ∷ 0x0d ∷ 0x01 ∷ 0x80 ∷ 0x61 ∷ 0xa2 ∷ 0xc1 ∷ 0xc1 ∷ 0xc1 ∷ []) 5 6
    -- "`c1`: 7 at 0. `0d 0d 01 c1 02`: 7 at 3. `0d 0d 00 02`: 8 at 0."
    ∷ refused (0xc1 ∷ []) (Refused why.NoEntry 0)
    ∷ refused (0x0d ∷ 0x0d ∷ 0x01 ∷ 0xc1 ∷ 0x02 ∷ []) (Refused why.NoEntry 3)
    ∷ refused (0x0d ∷ 0x0d ∷ 0x00 ∷ 0x02 ∷ []) (Refused why.Empty 0)
    -- "`a1 0d 00 02 81 61 01`: three rows; row 1 is damaged, place 4, size 2, verdict 2; row 2 is true."
    ∷ reads (0xa1 ∷ 0x0d ∷ 0x00 ∷ 0x02 ∷ 0x81 ∷ 0x61 ∷ 0x01 ∷ []) 3 (row 9 3 2 0 0 0 ++ row 16 2 4 2 2 0 ++ row 2 3 0 0 0 0)
    -- "`0d 00 02 02 02`: one row, verdict 10. `0d 00 05 02`: 2 at 0."
    ∷ reads (0x0d ∷ 0x00 ∷ 0x02 ∷ 0x02 ∷ 0x02 ∷ []) 1 (row 16 1 3 2 10 0)
    ∷ refused (0x0d ∷ 0x00 ∷ 0x05 ∷ 0x02 ∷ []) (Refused why.Short 0)
    -- "`c0 00 d8 00` and `c0 00 00 11`: 6."
    ∷ refused (0xc0 ∷ 0x00 ∷ 0xd8 ∷ 0x00 ∷ []) (Refused why.Char 0)
    ∷ refused (0xc0 ∷ 0x00 ∷ 0x00 ∷ 0x11 ∷ []) (Refused why.Char 0)
    ∷ []

-- "Slips that look right", the order of refusals at one position, kinds that no starred case has, and three cases of request §2
unfoldable pub slips : List Case
slips =
    -- "Taking a table that ran full inside a foreign body as a damaged body."
    full (0x0d ∷ 0x00 ∷ 0x02 ∷ 0xa0 ∷ 0x02 ∷ []) 2 3
    -- "Letting entry i see itself, or the registry outside."
    ∷ refused (0x0d ∷ 0x0d ∷ 0x02 ∷ 0x44 ∷ 0xc2 ∷ 0x02 ∷ []) (Refused why.NoEntry 4)
    ∷ refused (0x0d ∷ 0x0d ∷ 0x01 ∷ 0x44 ∷ 0x0d ∷ 0x0d ∷ 0x01 ∷ 0xc1 ∷ 0x02 ∷ []) (Refused why.NoEntry 7)
    -- "Leaving rows of an abandoned body behind the last used row."
    ∷ reads (0x0d ∷ 0x00 ∷ 0x03 ∷ 0xa2 ∷ 0x02 ∷ 0x02 ∷ []) 1 (row 16 1 3 3 2 0)
    -- "in its value position all n are, and they alone": two entries outside are not seen
    ∷ refused (0x0d ∷ 0x0d ∷ 0x02 ∷ 0x01 ∷ 0x02 ∷ 0x0d ∷ 0x0d ∷ 0x01 ∷ 0x00 ∷ 0xc2 ∷ []) (Refused why.NoEntry 9)
    -- "at one position 9, then 2": 33 arrays of one with nothing behind them, and behind 32 an empty body one level too deep
    ∷ refused (replicate 33 0xa0) (Refused why.Deep 33)
    ∷ reads_into 33 (replicate 32 0xa0 ++ (0x0d ∷ 0x00 ∷ 0x00 ∷ [])) 33 (times 32 (row 9 33 1 0 0 0) ++ row 16 33 35 0 9 0)
    -- "then 2, 3, 4, 2 for the body": a length cut short, one above the limit, one above what is there
    ∷ refused (0x08 ∷ 0xfb ∷ 0xff ∷ []) (Refused why.Short 0)
    ∷ refused (0x08 ∷ 0xfb ∷ 0x00 ∷ 0x00 ∷ 0x00 ∷ 0x01 ∷ []) (Refused why.Huge 0)
    ∷ refused (0x08 ∷ 0x03 ∷ 0xc0 ∷ 0x80 ∷ []) (Refused why.Short 0)
    -- "then 5 to 8"
    ∷ refused (0x81 ∷ 0xc0 ∷ 0x80 ∷ []) (Refused why.Text 0)
    ∷ refused (0xff ∷ 0xfb ∷ 0x00 ∷ 0x00 ∷ 0x00 ∷ 0x01 ∷ []) (Refused why.Huge 0)
    ∷ refused (0x0d ∷ 0x0d ∷ 0xf8 ∷ 0x00 ∷ []) (Refused why.Empty 0)
    -- "A count within 4's limit is not refused before its elements are."
    ∷ refused (0x09 ∷ 0xfa ∷ 0xff ∷ 0xff ∷ 0xff ∷ []) (Refused why.Short 5)
    ∷ refused (0x09 ∷ 0xfa ∷ 0xff ∷ 0xff ∷ 0xff ∷ 0x0e ∷ []) (Refused why.Marker 5)
    -- "Place is the first byte of the innermost value position or key being read."
    ∷ refused (0xb0 ∷ 0x02 ∷ 0x61 ∷ []) (Refused why.Short 1)
    ∷ refused (0xb0 ∷ 0x01 ∷ 0x61 ∷ 0xc1 ∷ []) (Refused why.NoEntry 3)
    -- "The case `0d 0d 01 44 0d 00 01 c1` now gives three rows, the last damaged with verdict 7." (request §2)
    ∷ reads (0x0d ∷ 0x0d ∷ 0x01 ∷ 0x44 ∷ 0x0d ∷ 0x00 ∷ 0x01 ∷ 0xc1 ∷ []) 3 (row 15 3 1 0 0 0 ++ row 4 2 5 0 0 0 ++ row 16 3 7 1 7 0)
    -- a body in an entry, which sees no entry before it
    ∷ reads (0x0d ∷ 0x0d ∷ 0x02 ∷ 0x44 ∷ 0x0d ∷ 0x00 ∷ 0x01 ∷ 0xc1 ∷ 0x02 ∷ []) 4
    (row 15 4 2 0 0 0 ++ row 4 2 5 0 0 0 ++ row 16 3 7 1 7 0 ++ row 3 4 0 0 0 0)
    -- a body that declares for itself and refers to it; behind it what is around it is in force again
    ∷ reads (0x0d ∷ 0x0d ∷ 0x01 ∷ 0x44 ∷ 0xa1 ∷ 0x0d ∷ 0x00 ∷ 0x05 ∷ 0x0d ∷ 0x0d ∷ 0x01 ∷ 0x45 ∷ 0xc1 ∷ 0xc1 ∷ []) 8
    (row 15 8 1 0 0 0 ++ row 4 2 5 0 0 0 ++ row 9 8 2 0 0 0 ++ row 16 7 0 0 0 0 ++ row 15 7 1 0 0 0 ++ row 4 6 6 0 0 0 ++ row 14 7 0 5 0 0 ++ row 14 8 0 1 0 0)
    -- "A record key is a length and text, with no marker; a map key is a value position."
    ∷ reads (0xb0 ∷ 0x01 ∷ 0x61 ∷ 0x01 ∷ []) 3 (row 10 3 1 0 0 0 ++ row 17 2 2 1 0 0 ++ row 2 3 0 0 0 0)
    ∷ reads (0xb8 ∷ 0x80 ∷ 0x61 ∷ 0x01 ∷ []) 3 (row 11 3 1 0 0 0 ++ row 8 2 2 1 0 0 ++ row 2 3 0 0 0 0)
    -- "float bodies of 2, 4, 8, 16, 32 bytes", "`0c` and a length: binary", "`c0` and 3 bytes: a char"
    ∷ reads (0xa3 ∷ 0x03 ∷ 0x00 ∷ 0x7e ∷ 0x04 ∷ 0x00 ∷ 0x00 ∷ 0x80 ∷ 0x3f ∷ 0x0c ∷ 0x02 ∷ 0xff ∷ 0xfe ∷ 0xc0 ∷ 0xff ∷ 0xff ∷ 0x10 ∷ []) 5
    (row 9 5 4 0 0 0 ++ row 7 2 2 2 0 0 ++ row 7 3 5 4 0 0 ++ row 12 4 11 2 0 0 ++ row 13 5 0x10ffff 0 0 0)
    ∷ reads (0x07 ∷ replicate 32 0x41) 1 (row 7 1 1 32 0 0)
    ∷ refused (0x06 ∷ replicate 15 0x41) (Refused why.Short 0)
    ∷ []
