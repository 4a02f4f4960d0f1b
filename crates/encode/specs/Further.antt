-- The same further on: what is read with its places moved by `by`, and rows with their row numbers moved by `down` besides. Assumes nothing:
-- these are definitions.
use Rattle.std.specs.Prelude.{ℕ, zero, suc, ◌+◌, cond, List, [], ◌++◌, drop, eqb}
use Rattle.rows.specs.declared.row.Row.{Row}
use Rattle.rows.specs.Table.{words_per_row, Own, row_of, own_of, aimed, words_of, row_at}
use Rattle.rows.specs.Kinds.{kind_reference}
use Rattle.format.specs.Tree.{Tree, leaf, refer, hold, declare, foreign, damaged, Trees, none, more}
use Rattle.format.specs.Value.{Reading, right, wrong}
use Rattle.encode.specs.Encode.{moved}

-- a row whose payload, if it has one, stands further on
abbrev pub own_further : ℕ → Own → Own
own_further by o = moved o (by + o.w0)

-- a tree whose payloads stand further on
unfoldable mutual
  pub tree_further : ℕ → Tree → Tree
  tree_further by (leaf o) = leaf (own_further by o)
  tree_further by (refer o) = refer o
  tree_further by (hold o ts) = hold o (trees_further by ts)
  tree_further by (declare o es t) = declare o (trees_further by es) (tree_further by t)
  tree_further by (foreign o t) = foreign o (tree_further by t)
  tree_further by (damaged o) = damaged (own_further by o)

  pub trees_further : ℕ → Trees → Trees
  trees_further by none = none
  trees_further by (more t ts) = more (tree_further by t) (trees_further by ts)

-- the tree and the place behind it, or the same refusal at its place
abbrev pub reading_further : ℕ → Reading → Reading
reading_further by (right t next) = right (tree_further by t) (by + next)
reading_further by (wrong e place) = wrong e (by + place)

-- "w1 row of that entry"
abbrev pub aim_further : ℕ → Own → Own
aim_further down o = cond (eqb o.kind kind_reference) (aimed o (down + o.w1)) o

-- "same rows with row numbers and places moved" (request §14)
abbrev pub row_further : ℕ → ℕ → Row → Row
row_further down by w = row_of (aim_further down (own_further by (own_of w))) (down + w.end)

-- the words of the first n rows of a table, so moved
unfoldable pub rows_further : ℕ → ℕ → ℕ → List ℕ → List ℕ
rows_further down by zero table = []
rows_further down by (suc n) table = words_of (row_further down by (row_at table 0)) ++ rows_further down by n (drop words_per_row table)
