-- What a document means: a tree. Each row of it says something itself, which its constructor holds. Assumes nothing: these are definitions.
use Rattle.std.specs.Prelude.{ℕ, suc, ◌+◌}
use Rattle.rows.specs.Table.{Own}

mutual
  pub data Tree : Type 0 where
    -- any other row with no child
    leaf : (own : Own) → Tree
    -- a reference; the row of its entry, w1, is told by where it stands, and is 0 here
    refer : (own : Own) → Tree
    -- an array, a record or a map, and its children; a record's keys stand among them
    hold : (own : Own) → (children : Trees) → Tree
    -- a declaration, its entries, and its value
    declare : (own : Own) → (entries : Trees) → (body : Tree) → Tree
    -- a right foreign document, and its value
    foreign : (own : Own) → (body : Tree) → Tree
    -- a damaged one
    damaged : (own : Own) → Tree

  -- trees in a row
  pub data Trees : Type 0 where
    none : Trees
    more : (first : Tree) → (rest : Trees) → Trees

unfoldable pub many : Trees → ℕ
many none = 0
many (more t ts) = suc (many ts)

-- how many rows a tree takes
unfoldable mutual
  pub size : Tree → ℕ
  size (leaf o) = 1
  size (refer o) = 1
  size (hold o ts) = 1 + sizes ts
  size (declare o es t) = 1 + (sizes es + size t)
  size (foreign o t) = 1 + size t
  size (damaged o) = 1

  pub sizes : Trees → ℕ
  sizes none = 0
  sizes (more t ts) = size t + sizes ts
