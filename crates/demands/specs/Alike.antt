-- When two tables have the same rows, places aside. Assumes nothing: these are definitions.
use Rattle.std.specs.Prelude.{◌≡◌, List, ℕ, ◌<◌}
use Rattle.rows.specs.declared.row.Row.{Row}
use Rattle.rows.specs.Table.{own_of, row_at}
use Rattle.encode.specs.Encode.{payload_of, moved}

-- "the same rows and payload bytes, places aside", row by row: w over the data s, and w' over s'
pub record SameRow (s : List ℕ) (w : Row) (s' : List ℕ) (w' : Row) : Type 0 where
  pub end : w.end ≡ w'.end
  -- every other number, with 0 for a place
  pub own : moved (own_of w) 0 ≡ moved (own_of w') 0
  pub bytes : payload_of s (own_of w) ≡ payload_of s' (own_of w')

abbrev pub SameRows : List ℕ → List ℕ → List ℕ → List ℕ → ℕ → Type 0
SameRows table s table' s' n = (i : ℕ) → i < n → SameRow s (row_at table i) s' (row_at table' i)
