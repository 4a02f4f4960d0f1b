-- What a tree says over its data: the rows, places aside, and the payload bytes. Nothing shorter says the same, and rows that are the same do. A
-- definition and no law; assumes nothing.
use mathlib.Core.List.{List, []}
use Prim.Native.Nat.{ℕ}
use Rattle.rows.specs.Table.{Own}
use Rattle.format.specs.Tree.{Tree, leaf, refer, hold, declare, foreign, damaged, Trees}
use Rattle.format.specs.Tree as trees
use Rattle.encode.specs.Encode.{payload_of, moved}

mutual
  pub data Said : Type 0 where
    -- a row with no child, 0 for its place, and its payload
    one : (own : Own) → (payload : List ℕ) → Said
    -- a row and what its children say
    over : (own : Own) → (children : Saids) → Said
    -- a declaration: its entries, and its value
    under : (own : Own) → (entries : Saids) → (body : Said) → Said

  pub data Saids : Type 0 where
    none : Saids
    more : (first : Said) → (rest : Saids) → Saids

-- "reads back as the same rows and payload bytes, places aside"; "In reading back, a damaged body's bytes count as payload."
unfoldable mutual
  pub said : List ℕ → Tree → Said
  said s (leaf o) = one (moved o 0) (payload_of s o)
  said s (refer o) = one o []
  said s (hold o ts) = over o (saids s ts)
  said s (declare o es t) = under o (saids s es) (said s t)
  said s (foreign o t) = over o (more (said s t) none)
  said s (damaged o) = one (moved o 0) (payload_of s o)

  pub saids : List ℕ → Trees → Saids
  saids s trees.none = none
  saids s (trees.more t ts) = more (said s t) (saids s ts)
