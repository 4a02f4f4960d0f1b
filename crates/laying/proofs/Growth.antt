-- The registry grows by each entry that is laid: its end links it with the row behind it. Assumes nothing.
use mathlib.Core.Path.{◌≡◌, sym, ap, ◌∙◌}
use Prim.Native.Nat.{ℕ, suc, ◌+◌, ◌*◌, ◌≤◌}
use native.Mathlib.Nat.{add-zero, zero-add}
use native.Mathlib.Omega.{arith}
use mathlib.Core.Bool.{true}
use mathlib.Core.List.{List, [], ◌∷◌, ◌++◌}
use lib.Seq.{sets}
use Rattle.rows.specs.Table.{words_per_row, lent}
use Rattle.rows.proofs.Rows.{lent_sets}
use Rattle.format.specs.Tree.{Tree, Trees, none, more, many, size, sizes}
use Rattle.format.specs.Layout.{layout, layouts, entries, grown}
use Rattle.registry.specs.Inner.{walk, chain, Below}
use Rattle.format.proofs.Layouts.{size_pos, laid_end, lay_more}
use Rattle.registry.proofs.Walks.{chain-grown, walk-grown, below-grown, walk_sets, chain_sets, below_sets, below_none, walk_start}

-- a table with the tree t laid at `row`
abbrev pub laid : List ℕ → ℕ → Tree → List ℕ → List ℕ
laid table row t registry = sets table (words_per_row * row) (layout t row registry)

-- k entries are in force and the last of them ends at `row`; the tree t is laid there, and is one more
module _ (table : List ℕ) (first k row : ℕ) (t : Tree) (registry : List ℕ) (below : Below table first k row) (linked : walk table first k ≡ row) where
  walk_kept : walk (laid table row t registry) first k ≡ row
  walk_kept = walk_sets table row (layout t row registry) first k below k (omega arith) ∙ linked

  pub chain_more : chain (laid table row t registry) first (k + 1) ≡ grown true (chain table first k) row
  chain_more =
      chain-grown (laid table row t registry) first k row walk_kept
      ∙ ap (λ (c : List ℕ). c ++ (row ∷ [])) (chain_sets table row (layout t row registry) first k below k (omega arith))

  pub linked-more : row + size t ≤ lent table → walk (laid table row t registry) first (k + 1) ≡ row + size t
  linked-more room = walk-grown (laid table row t registry) first k row walk_kept (row + size t) (laid_end table t row registry room)

  pub below_more : Below (laid table row t registry) first (k + 1) (row + size t)
  below_more =
      below-grown (laid table row t registry) first k row walk_kept (row + size t)
      (below_sets table row (layout t row registry) first k below row (omega arith)) (omega (arith, size_pos t))

-- a table with the entries es laid at `row`, where the k entries before them are in force
abbrev pub laid_all : List ℕ → ℕ → ℕ → ℕ → Trees → List ℕ
laid_all table first k row es = sets table (words_per_row * row) (layouts es true row (chain table first k))

-- then these are in force too
pub record Entered (es : Trees) (table : List ℕ) (first k row : ℕ) : Type 0 where
  pub registry : chain (laid_all table first k row es) first (k + many es) ≡ entries es row (chain table first k)
  pub below : Below (laid_all table first k row es) first (k + many es) (row + sizes es)

pub entered : (es : Trees) (table : List ℕ) (first k row : ℕ) → Below table first k row → walk table first k ≡ row → row + sizes es ≤ lent table
    → Entered es table first k row
unfolding layout entries size many
entered none table first k row below linked room =
    record { registry = ap (chain table first) (add-zero k); below = rw (add-zero k, add-zero row) below }
entered (more t es) table first k row below linked room =
    let reg : List ℕ = chain table first k in
    let next =
    entered es (laid table row t reg) first (k + 1) (row + size t)
    (below_more table first k row t reg below linked)
    (linked-more table first k row t reg below linked (omega arith))
    (omega (arith, lent_sets table (words_per_row * row) (layout t row reg))) in
    let same : laid_all (laid table row t reg) first (k + 1) (row + size t) es ≡ laid_all table first k row (more t es) = rw (chain_more table first k row t reg below linked) (lay_more table t es true row reg) in
    let n : k + 1 + many es ≡ k + suc (many es) = omega arith in
    let rows : row + size t + sizes es ≡ row + (size t + sizes es) = omega arith in
    record {
      registry = rw (same, n, chain_more table first k row t reg below linked) at next.registry;
      below = rw (same, n, rows) at next.below;
    }

-- from a declaration's first entry on they are the registry of its value
pub chain-declared : (es : Trees) (table : List ℕ) (row : ℕ) → row + sizes es ≤ lent table
    → chain (sets table (words_per_row * row) (layouts es true row [])) row (many es) ≡ entries es row []
unfolding chain
chain-declared es table row room =
    rw zero-add at (entered es table row 0 row (below_none table row row) (sym (walk_start table row)) room).registry

pub below-declared : (es : Trees) (table : List ℕ) (row : ℕ) → row + sizes es ≤ lent table
    → Below (sets table (words_per_row * row) (layouts es true row [])) row (many es) (row + sizes es)
unfolding chain
below-declared es table row room =
    rw zero-add at (entered es table row 0 row (below_none table row row) (sym (walk_start table row)) room).below
