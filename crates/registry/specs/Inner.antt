-- Words of the contracts inside: the registry in force, as two numbers and the table: its base, which tells the first entry's row, and how
-- many are in force. Definitions only, which no promise to a user cites.
use Rattle.std.specs.Prelude.{◌≡◌, cond, ℕ, zero, suc, ◌+◌, ◌-◌, ◌%◌, ◌≤◌, ◌<◌, List, [], ◌∷◌, ◌++◌, eqb}
use Rattle.rows.specs.Table.{row_at}

-- "children stand back to back", "End is the row number after all the row's children": the row that stands n ends on from the row `first`
unfoldable pub walk : List ℕ → ℕ → ℕ → ℕ
walk table first zero = first
walk table first (suc n) = (row_at table (walk table first n)).end

-- the first n of those rows
unfoldable pub chain : List ℕ → ℕ → ℕ → List ℕ
chain table first zero = []
chain table first (suc n) = chain table first n ++ (walk table first n ∷ [])

-- each of them stands before `row`
unfoldable pub Below : List ℕ → ℕ → ℕ → ℕ → Type 0
Below table first n row = (i : ℕ) → i < n → walk table first i < row

-- ---- the base: the first entry's row, and 2^32 more where each entry has one row, so that none is walked over

abbrev pub first_in : ℕ → ℕ
first_in base = base % 4294967296

pub record Based (table : List ℕ) (base n : ℕ) : Type 0 where
  pub small : base < 8589934592
  pub even : (4294967296 ≤ base → (i : ℕ) → i < n → walk table (first_in base) i ≡ first_in base + i)

-- the base of `count` entries that stand from row `first` to row `end`
abbrev pub base_of : ℕ → ℕ → ℕ → ℕ
base_of first end count = cond (eqb (end - first) count) (first + 4294967296) first
