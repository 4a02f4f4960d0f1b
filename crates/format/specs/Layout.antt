-- The rows of a tree. Assumes nothing: these are definitions.
use Rattle.std.specs.Prelude.{ℕ, ◌+◌, Bool, true, false, List, [], ◌∷◌, ◌++◌, length, get_or, take}
use Rattle.rows.specs.Table.{row_of, aimed, words_of}
use Rattle.format.specs.declared.head.Children.{Children}
use Rattle.format.specs.declared.head.Children.TheVariants.{Plain, Keyed, Entries}
use Rattle.format.specs.Tree.{Tree, leaf, refer, hold, declare, foreign, damaged, Trees, none, more, size, sizes}
use Rattle.format.specs.Value.{in_foreign}

-- whether each child is one more entry in force for those behind it
abbrev pub is_entry : Children → Bool
is_entry Plain = false
is_entry Keyed = false
is_entry Entries = true

-- the rows of the entries in force behind a tree at `row`: among the entries of a declaration that tree is one more
abbrev pub grown : Bool → List ℕ → ℕ → List ℕ
grown true registry row = registry ++ (row ∷ [])
grown false registry row = registry

unfoldable pub entries : Trees → ℕ → List ℕ → List ℕ
entries none row registry = registry
entries (more t ts) row registry = entries ts (row + size t) (grown true registry row)

-- the rows of the entries in force at the start of a foreign body, of those around it
abbrev pub in_body : List ℕ → List ℕ
in_body registry = take (in_foreign (length registry)) registry

-- "Rows stand in document order, a holder before its children": the words of a tree whose own row is `row`, where `registry` has the rows of
-- the entries in force
unfoldable mutual
  pub layout : Tree → ℕ → List ℕ → List ℕ
  layout (leaf o) row registry = words_of (row_of o (row + 1))
  layout (refer o) row registry = words_of (row_of (aimed o (get_or registry o.w0 0)) (row + 1))
  layout (hold o ts) row registry = words_of (row_of o (row + (1 + sizes ts))) ++ layouts ts false (row + 1) registry
  layout (declare o es t) row registry =
      words_of (row_of o (row + (1 + (sizes es + size t))))
      ++ (layouts es true (row + 1) [] ++ layout t (row + 1 + sizes es) (entries es (row + 1) []))
  layout (foreign o t) row registry = words_of (row_of o (row + (1 + size t))) ++ layout t (row + 1) (in_body registry)
  layout (damaged o) row registry = words_of (row_of o (row + 1))

  pub layouts : Trees → Bool → ℕ → List ℕ → List ℕ
  layouts none grows row registry = []
  layouts (more t ts) grows row registry = layout t row registry ++ layouts ts grows (row + size t) (grown grows registry row)
