-- What a walker meets in a tree: the trees below a holder, one behind the other, each with its row and the entries in force there.
-- Assumes nothing: these are definitions.
use Rattle.std.specs.Prelude.{ℕ, zero, suc, ◌+◌, ◌≤◌, ◌<◌, cond, List, [], ◌∷◌, length, Ok, Err}
use Rattle.format.specs.Tree.{Tree, leaf, refer, hold, declare, foreign, damaged, Trees, none, more, size}
use Rattle.format.specs.Value.{in_foreign}
use Rattle.walker.specs.declared.standing.Standing.{Standing}
use Rattle.walker.specs.declared.unmoved.Unmoved.TheVariants.{NoStep, BadTable}
use Rattle.payload.specs.declared.part.Part.{Part}
use Rattle.walker.specs.Walk.{Step, standing, step_in, step_on, step_along}
use Rattle.payload.specs.Payload.{has_payload, part}

mutual
  -- a tree, its row, and the entries in force there
  pub data Spot : Type 0 where
    spot : (tree : Tree) → (row : ℕ) → (force : Spots) → Spot

  pub data Spots : Type 0 where
    nil : Spots
    cons : (first : Spot) → (rest : Spots) → Spots

abbrev pub spot_tree : Spot → Tree
spot_tree (spot t row force) = t

abbrev pub spot_row : Spot → ℕ
spot_row (spot t row force) = row

abbrev pub spot_end : Spot → ℕ
spot_end (spot t row force) = row + size t

-- the rows of the entries in force
abbrev pub spot_rows : Spots → List ℕ
spot_rows nil = []
spot_rows (cons x xs) = spot_row x ∷ spot_rows xs

unfoldable pub added : Spots → Spot → Spots
added nil x = cons x nil
added (cons y ys) x = cons y (added ys x)

-- "w0 number": the entry of that number
unfoldable pub entry : Spots → ℕ → Spots
entry nil k = nil
entry (cons x xs) zero = cons x nil
entry (cons x xs) (suc k) = entry xs k

-- the first k of them
unfoldable pub front : ℕ → Spots → Spots
front zero xs = nil
front (suc k) nil = nil
front (suc k) (cons x xs) = cons x (front k xs)

-- "no registry is in force at the start of a foreign body" (request §2): the entries in force there, of those around it
abbrev pub for_body : Spots → Spots
for_body force = front (in_foreign (length (spot_rows force))) force

-- ---- children

-- trees one behind the other from `row` on, with the same entries in force
unfoldable pub siblings : Trees → ℕ → Spots → Spots
siblings none row force = nil
siblings (more t ts) row force = cons (spot t row force) (siblings ts (row + size t) force)

-- "While entry i of a declaration is read, entries 0..i-1 of that declaration are in force and nothing outside it; in its value position all n
-- are, and they alone": the entries from `row` on and the value t, where `force` has the entries before them
unfoldable pub declared : Trees → Tree → ℕ → Spots → Spots
declared none t row force = cons (spot t row force) nil
declared (more e es) t row force = cons (spot e row force) (declared es t (row + size e) (added force (spot e row force)))

unfoldable pub children : Spot → Spots
children (spot (leaf o) row force) = nil
children (spot (refer o) row force) = nil
children (spot (hold o ts) row force) = siblings ts (row + 1) force
children (spot (declare o es t) row force) = declared es t (row + 1) nil
children (spot (foreign o t) row force) = cons (spot t (row + 1) (for_body force)) nil
children (spot (damaged o) row force) = nil

-- ---- steps in a tree: where one stands, and what stands behind it under the same holder

pub data Way : Type 0 where
  inward onward alongside : Way

-- "Along: a reference's entry"
unfoldable pub entry_of : Spot → Spots
entry_of (spot (leaf o) row force) = nil
entry_of (spot (refer o) row force) = entry force o.w0
entry_of (spot (hold o ts) row force) = nil
entry_of (spot (declare o es t) row force) = nil
entry_of (spot (foreign o t) row force) = nil
entry_of (spot (damaged o) row force) = nil

unfoldable pub tree_step : Way → Spot → Spots → Spots
tree_step inward x xs = children x
tree_step onward x xs = xs
tree_step alongside x xs = entry_of x

-- "the end of the holder around it": the end of the last tree under it
unfoldable pub bound_of : Spot → Spots → ℕ
bound_of x nil = spot_end x
bound_of x (cons y ys) = bound_of y ys

-- the answer for what was found: a row and its bound, or "No such row: 14"
abbrev pub step_for : Spots → Step
step_for nil = Err NoStep
step_for (cons x xs) = Ok (standing (spot_row x) (bound_of x xs))

-- "the standing asked from stays good, and a walk goes on from there"
abbrev pub go_on : {A : Type 0} → Spots → Spot → Spots → (Spot → Spots → A) → A
go_on nil x xs rest = rest x xs
go_on (cons y ys) x xs rest = rest y ys

-- the answers of a walk
unfoldable pub tree_walk : List Way → Spot → Spots → List Step
tree_walk [] x xs = []
tree_walk (w ∷ ws) x xs = step_for (tree_step w x xs) ∷ go_on (tree_step w x xs) x xs (tree_walk ws)

-- where it ends
unfoldable pub tree_end : List Way → Spot → Spots → Spot
tree_end [] x xs = x
tree_end (w ∷ ws) x xs = go_on (tree_step w x xs) x xs (tree_end ws)

-- ---- the same in a table

unfoldable pub step_by : List ℕ → ℕ → Way → Standing → Step
step_by table n inward at = step_in table n at
step_by table n onward at = step_on table n at
step_by table n alongside at = step_along table n at

abbrev pub go_to : Standing → Step → Standing
go_to at (Ok next) = next
go_to at (Err NoStep) = at
go_to at (Err BadTable) = at

unfoldable pub table_walk : List ℕ → ℕ → List Way → Standing → List Step
table_walk table n [] at = []
table_walk table n (w ∷ ws) at = step_by table n w at ∷ table_walk table n ws (go_to at (step_by table n w at))

unfoldable pub table_end : List ℕ → ℕ → List Way → Standing → Standing
table_end table n [] at = at
table_end table n (w ∷ ws) at = table_end table n ws (go_to at (step_by table n w at))

-- a standing in the table, or 14; never 12
abbrev pub InTable : ℕ → Step → Type 0
InTable n (Ok at) = (at.row < at.bound) × (at.bound ≤ n)
InTable n (Err NoStep) = Unit {0}
InTable n (Err BadTable) = ⊥

unfoldable pub AllInTable : ℕ → List Step → Type 0
AllInTable n [] = Unit {0}
AllInTable n (x ∷ xs) = InTable n x × AllInTable n xs

-- a tree's own payload
abbrev pub own_part : Tree → Part
own_part (leaf o) = cond (has_payload o.kind) (part o.w0 o.w1) (part 0 0)
own_part (refer o) = part 0 0
own_part (hold o ts) = part 0 0
own_part (declare o es t) = part 0 0
own_part (foreign o t) = part 0 0
own_part (damaged o) = part 0 0
