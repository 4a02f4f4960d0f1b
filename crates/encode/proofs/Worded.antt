-- Trees whose numbers may be written: a leaf's fit a row, and counts and reference numbers are within the limit. Assumes nothing.
use Prim.Native.Nat.{◌^◌, ◌≤◌, ◌<◌}
use Rattle.rows.specs.Table.{Own, limit}
use Rattle.format.specs.Tree.{Tree, leaf, refer, hold, declare, foreign, damaged, Trees, none, more}

-- "six 32-bit unsigned numbers"
pub record Fit (o : Own) : Type 0 where
  pub kind_fits : o.kind < 2 ^ 32
  pub w0-fits : o.w0 < 2 ^ 32
  pub w1-fits : o.w1 < 2 ^ 32
  pub w2-fits : o.w2 < 2 ^ 32
  pub w3-fits : o.w3 < 2 ^ 32

abbrev mutual
  pub Worded : Tree → Type 0
  Worded (leaf o) = Fit o
  Worded (refer o) = o.w0 ≤ limit
  Worded (hold o ts) = (o.w0 ≤ limit) × Wordeds ts
  Worded (declare o es t) = (o.w0 ≤ limit) × Wordeds es × Worded t
  Worded (foreign o t) = Worded t
  Worded (damaged o) = Unit {0}

  pub Wordeds : Trees → Type 0
  Wordeds none = Unit {0}
  Wordeds (more t ts) = Worded t × Wordeds ts
