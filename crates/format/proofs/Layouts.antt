-- Laws of a holder's children, of what is in force in a foreign body, and of the words of a tree's rows: how many they are, where they end, and
-- that they may be laid in parts, a holder's own row last. Assumes nothing.
use mathlib.Core.Path.{◌≡◌, refl, sym, ap, ◌∙◌}
use Prim.Native.Nat.{ℕ, zero, suc, ◌+◌, ◌-◌, ◌*◌, ◌≤◌, ◌<◌}
use native.Mathlib.Nat.{add-zero}
use native.Mathlib.Omega.{arith}
use mathlib.Core.Bool.{Bool, true, false}
use mathlib.Core.List.{List, [], ◌∷◌, ◌++◌, append_assoc}
use lib.ListN.{length, get_or, take, drop, length-append, get_or-append}
use lib.Seq.{sets, get_or_at, length-take-le}
use Rattle.lists.proofs.Sets.{sets_append}
use Rattle.rows.specs.declared.row.Row.{Row}
use Rattle.rows.specs.Table.{words_per_row, Own, row_of, words_of, row_at, lent, aimed}
use Rattle.rows.proofs.Rows.{row_words, row_sets_in, row_last}
use Rattle.format.specs.declared.head.Holder.{Holder}
use Rattle.format.specs.declared.head.Holder.TheVariants.{Array, Record, Map}
use Rattle.format.specs.Tree.{Tree, leaf, refer, hold, declare, foreign, damaged, Trees, none, more, many, size, sizes}
use Rattle.format.specs.Value.{children_of, in_force, in_foreign}
use Rattle.format.specs.Layout.{is_entry, layout, layouts, entries, grown, in_body}

-- ---- a holder's children

-- they are no entries
pub no_entry : (h : Holder) → is_entry (children_of h) ≡ false
no_entry Array = refl
no_entry Record = refl
no_entry Map = refl

-- what is in force around a holder is in force for each of them
pub around_force : (h : Holder) (k i : ℕ) → in_force (children_of h) k i ≡ k
around_force Array k i = refl
around_force Record k i = refl
around_force Map k i = refl

-- ---- what is in force in a foreign body

-- no more entries than around it; all that is argued of it rests on this, but for what a body is by itself
pub in_foreign-few : (k : ℕ) → in_foreign k ≤ k
unfolding in_foreign
in_foreign-few k = omega arith

-- none of them: what a body is by itself rests on this
pub in_foreign-none : (k : ℕ) → in_foreign k ≡ 0
unfolding in_foreign
in_foreign-none k = refl

-- and so no row of theirs
pub body-none : (registry : List ℕ) → in_body registry ≡ []
body-none registry = ap (λ (k : ℕ). take k registry) (in_foreign-none (length registry))

-- there are as many rows as entries
pub length-body : (registry : List ℕ) → length (in_body registry) ≡ in_foreign (length registry)
length-body registry = length-take-le (in_foreign (length registry)) registry (in_foreign-few (length registry))

-- ---- how many words

mutual
  unfolding layout size words_of

  pub length-layout : (t : Tree) (row : ℕ) (registry : List ℕ) → length (layout t row registry) ≡ words_per_row * size t
  length-layout (leaf o) row registry = refl
  length-layout (refer o) row registry = refl
  length-layout (hold o ts) row registry = omega (arith, length-layouts ts false (row + 1) registry)
  length-layout (declare o es t) row registry =
      let h = length-layouts es true (row + 1) [] in
      let k = length-layout t (row + 1 + sizes es) (entries es (row + 1) []) in
      simp length-append (omega arith)
  length-layout (foreign o t) row registry = omega (arith, length-layout t (row + 1) (in_body registry))
  length-layout (damaged o) row registry = refl

  pub length-layouts : (ts : Trees) (grows : Bool) (row : ℕ) (registry : List ℕ) → length (layouts ts grows row registry) ≡ words_per_row * sizes ts
  length-layouts none grows row registry = refl
  length-layouts (more t ts) grows row registry =
      let h = length-layout t row registry in
      let k = length-layouts ts grows (row + size t) (grown grows registry row) in
      simp length-append (omega arith)

-- ---- a tree's own row, and the rest

-- what a tree's own row says, where `registry` has the rows of the entries in force
abbrev pub own_at : Tree → List ℕ → Own
own_at (leaf o) registry = o
own_at (refer o) registry = aimed o (get_or registry o.w0 0)
own_at (hold o ts) registry = o
own_at (declare o es t) registry = o
own_at (foreign o t) registry = o
own_at (damaged o) registry = o

-- the row itself: it ends behind all the tree's rows
abbrev pub top_row : Tree → ℕ → List ℕ → Row
top_row t row registry = row_of (own_at t registry) (row + size t)

-- the words of its children's rows
abbrev pub below : Tree → ℕ → List ℕ → List ℕ
below (leaf o) row registry = []
below (refer o) row registry = []
below (hold o ts) row registry = layouts ts false (row + 1) registry
below (declare o es t) row registry = layouts es true (row + 1) [] ++ layout t (row + 1 + sizes es) (entries es (row + 1) [])
below (foreign o t) row registry = layout t (row + 1) (in_body registry)
below (damaged o) row registry = []

pub layout_top : (t : Tree) (row : ℕ) (registry : List ℕ) → layout t row registry ≡ words_of (top_row t row registry) ++ below t row registry
unfolding layout size words_of
layout_top (leaf o) row registry = refl
layout_top (refer o) row registry = refl
layout_top (hold o ts) row registry = refl
layout_top (declare o es t) row registry = refl
layout_top (foreign o t) row registry = refl
layout_top (damaged o) row registry = refl

-- where a tree's words stand, there is its row
pub top_at : (table : List ℕ) (t : Tree) (row : ℕ) (registry rest : List ℕ) → drop (words_per_row * row) table ≡ layout t row registry ++ rest
    → row_at table row ≡ top_row t row registry
top_at table t row registry rest h =
    row_words table row (top_row t row registry) (below t row registry ++ rest)
    (h ∙ ap (λ (x : List ℕ). x ++ rest) (layout_top t row registry) ∙ append_assoc (words_of (top_row t row registry)) (below t row registry) rest)

-- a tree has a row of its own
pub size_pos : (t : Tree) → 0 < size t
unfolding size
size_pos (leaf o) = omega arith
size_pos (refer o) = omega arith
size_pos (hold o ts) = omega arith
size_pos (declare o es t) = omega arith
size_pos (foreign o t) = omega arith
size_pos (damaged o) = omega arith

pub layout-end : (t : Tree) (row : ℕ) (registry : List ℕ) → (row_at (layout t row registry) 0).end ≡ row + size t
layout-end t row registry =
    ap (λ (r : Row). r.end)
    (row_words (layout t row registry) 0 (top_row t row registry) (below t row registry) (layout_top t row registry))

-- it is the row behind all its rows
pub laid_end : (table : List ℕ) (t : Tree) (row : ℕ) (registry : List ℕ) → row + size t ≤ lent table
    → (row_at (sets table (words_per_row * row) (layout t row registry)) row).end ≡ row + size t
laid_end table t row registry room =
    let n = length-layout t row registry in
    let p = size_pos t in
    ap (λ (r : Row). r.end)
    (rw add-zero at (row_sets_in table row (layout t row registry) 0 (omega arith) (omega arith)))
    ∙ layout-end t row registry

-- ---- laid in parts

-- the words of n rows, and those behind them
lay_two : (table : List ℕ) (row n : ℕ) (xs ys : List ℕ) → length xs ≡ words_per_row * n
    → sets (sets table (words_per_row * row) xs) (words_per_row * (row + n)) ys ≡ sets table (words_per_row * row) (xs ++ ys)
lay_two table row n xs ys h =
    let e : words_per_row * (row + n) ≡ words_per_row * row + length xs = omega arith in
    rw e (sym (sets_append table (words_per_row * row) xs ys))

-- trees one behind the other
pub lay_more : (table : List ℕ) (t : Tree) (ts : Trees) (grows : Bool) (row : ℕ) (registry : List ℕ)
    → sets (sets table (words_per_row * row) (layout t row registry)) (words_per_row * (row + size t)) (layouts ts grows (row + size t) (grown grows registry row))
    ≡ sets table (words_per_row * row) (layouts (more t ts) grows row registry)
unfolding layout
lay_more table t ts grows row registry =
    lay_two table row (size t) (layout t row registry) (layouts ts grows (row + size t) (grown grows registry row)) (length-layout t row registry)

-- a tree's own row, when its children's are there
lay_top : (table : List ℕ) (t : Tree) (row : ℕ) (registry : List ℕ)
    → sets (sets table (words_per_row * (row + 1)) (below t row registry)) (words_per_row * row) (words_of (top_row t row registry))
    ≡ sets table (words_per_row * row) (layout t row registry)
lay_top table t row registry =
    row_last table row (top_row t row registry) (below t row registry) ∙ ap (sets table (words_per_row * row)) (sym (layout_top t row registry))

-- a holder's
pub lay_hold : (table : List ℕ) (o : Own) (ts : Trees) (row : ℕ) (registry : List ℕ)
    → sets (sets table (words_per_row * (row + 1)) (layouts ts false (row + 1) registry)) (words_per_row * row) (words_of (row_of o (row + (1 + sizes ts))))
    ≡ sets table (words_per_row * row) (layout (hold o ts) row registry)
unfolding size
lay_hold table o ts row registry = lay_top table (hold o ts) row registry

-- a right foreign document's
pub lay_foreign : (table : List ℕ) (o : Own) (t : Tree) (row : ℕ) (registry : List ℕ)
    → sets (sets table (words_per_row * (row + 1)) (layout t (row + 1) (in_body registry))) (words_per_row * row) (words_of (row_of o (row + (1 + size t))))
    ≡ sets table (words_per_row * row) (layout (foreign o t) row registry)
unfolding size
lay_foreign table o t row registry = lay_top table (foreign o t) row registry

-- a declaration's, when its entries and its value are there
pub lay_declare : (table : List ℕ) (o : Own) (es : Trees) (t : Tree) (row : ℕ) (registry : List ℕ)
    → sets
    (sets (sets table (words_per_row * (row + 1)) (layouts es true (row + 1) [])) (words_per_row * (row + 1 + sizes es)) (layout t (row + 1 + sizes es) (entries es (row + 1) [])))
    (words_per_row * row) (words_of (row_of o (row + (1 + (sizes es + size t)))))
    ≡ sets table (words_per_row * row) (layout (declare o es t) row registry)
unfolding size
lay_declare table o es t row registry =
    let E : List ℕ = layouts es true (row + 1) [] in
    let T : List ℕ = layout t (row + 1 + sizes es) (entries es (row + 1) []) in
    rw (lay_two table (row + 1) (sizes es) E T (length-layouts es true (row + 1) [])) (lay_top table (declare o es t) row registry)

-- ---- the rows of entries

-- a tree has a row or more
pub sizes-many : (ts : Trees) → many ts ≤ sizes ts
unfolding many size
sizes-many none = omega arith
sizes-many (more t ts) = omega (arith, size_pos t, sizes-many ts)

-- those that were in force stay where they are
entries-before : (es : Trees) (row : ℕ) (registry : List ℕ) (j : ℕ) → j < length registry → get_or (entries es row registry) j 0 ≡ get_or registry j 0
unfolding entries
entries-before none row registry j h = refl
entries-before (more t es) row registry j h =
    entries-before es (row + size t) (registry ++ (row ∷ [])) j (omega (arith, length-append registry (row ∷ []))) ∙ get_or-append registry (row ∷ []) 0 j h

-- where each has one row, they stand one behind the other
entries-even : (es : Trees) (row : ℕ) (registry : List ℕ) (i : ℕ) → sizes es ≡ many es → i < many es → get_or (entries es row registry) (length registry + i) 0 ≡ row + i
unfolding entries many size
entries-even none row registry i e h = absurd (let z : ⊥ = omega arith in z)
entries-even (more t es) row registry zero e h =
    let n : length registry + 0 ≡ length registry = omega arith in
    let r : row + 0 ≡ row = omega arith in
    rw (n, r) (entries-before es (row + size t) (registry ++ (row ∷ [])) (length registry) (omega (arith, length-append registry (row ∷ []))) ∙ get_or_at registry row [] 0 (length registry) refl)
entries-even (more t es) row registry (suc i) e h =
    let one : size t ≡ 1 = omega (arith, size_pos t, sizes-many es) in
    let n : length registry + suc i ≡ length (registry ++ (row ∷ [])) + i = omega (arith, length-append registry (row ∷ [])) in
    let r : row + suc i ≡ row + size t + i = omega arith in
    rw (n, r) (entries-even es (row + size t) (registry ++ (row ∷ [])) i (omega (arith, sizes-many es)) (omega arith))

-- as many rows as entries: each has one
pub entries_each : (es : Trees) (row end count : ℕ) → many es ≡ count → end ≡ row + sizes es → end - row ≡ count → (i : ℕ) → i < count → get_or (entries es row []) i 0 ≡ row + i
entries_each es row end count n e q i h =
    let z : length {A = ℕ} [] + i ≡ i = omega arith in
    rw z at (entries-even es row [] i (omega (arith, n, e)) (omega (arith, n)))
