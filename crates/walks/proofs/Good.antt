-- A spot that stands in a table: its rows are there, it is right, and so are the entries in force. Assumes nothing.
use Rattle.format.specs.Value.{is_key, children_of, in_foreign}
use mathlib.Core.Path.{◌≡◌, refl, sym, ap, ap₂, ◌∙◌, subst}
use Prim.Native.Nat.{ℕ, zero, suc, ◌+◌, ◌-◌, ◌*◌, ◌≤◌}
use native.Mathlib.Omega.{arith}
use native.Mathlib.Nat.{add-zero, zero-add}
use mathlib.Core.Bool.{Bool, true, false}
use mathlib.Core.List.{List, [], ◌∷◌, ◌++◌, append_assoc}
use lib.ListN.{length, take, drop, length-append}
use Rattle.rows.specs.Table.{words_per_row, lent}
use Rattle.format.specs.declared.head.Children.{Children}
use Rattle.format.specs.declared.head.Children.TheVariants.{Entries}
use Rattle.format.specs.Tree.{Tree, leaf, refer, hold, declare, foreign, damaged, Trees, none, more, many, size, sizes}
use Rattle.format.specs.Layout.{is_entry, layout, layouts, entries, in_body}
use Rattle.format.proofs.Layouts.{no_entry, length-layout, length-body, below}
use Rattle.rules.specs.Obeys.{KeyObeys, IfKey, after, Obeys, ObeyAll}
use Rattle.walks.specs.Spots.{Spot, spot, Spots, nil, cons, spot_row, spot_end, spot_rows, added, front, for_body, siblings, declared, children}
use Rattle.rules.proofs.Regrow.{behind as rows_behind, rest_at}

-- a value that is fine at some depth, or a key
pub record Right (s : List ℕ) (k : ℕ) (t : Tree) : Type 0 where
  pub key : Bool
  pub levels : ℕ
  pub obeys : IfKey key (KeyObeys s t) (Obeys s levels k t)

-- the rows of t stand from `row` on
pub record Stood (table : List ℕ) (n : ℕ) (s : List ℕ) (t : Tree) (row : ℕ) (registry : List ℕ) : Type 0 where
  pub room : n ≤ lent table
  pub within : row + size t ≤ n
  pub rest : List ℕ
  pub words : drop (words_per_row * row) table ≡ layout t row registry ++ rest
  pub right : Right s (length registry) t

-- all of these end at `row` or before
unfoldable pub Before : ℕ → Spots → Type 0
Before row nil = Unit {0}
Before row (cons x xs) = (spot_end x ≤ row) × Before row xs

unfoldable mutual
  pub Good : List ℕ → ℕ → List ℕ → Spot → Type 0
  Good table n s (spot t row force) = Stood table n s t row (spot_rows force) × Before row force × Goods table n s force

  pub Goods : List ℕ → ℕ → List ℕ → Spots → Type 0
  Goods table n s nil = Unit {0}
  Goods table n s (cons x xs) = Good table n s x × Goods table n s xs

-- each begins where the one before it ends
unfoldable pub Linked : ℕ → Spots → Type 0
Linked row nil = Unit {0}
Linked row (cons x xs) = (spot_row x ≡ row) × Linked (spot_end x) xs

-- a tree that is no leaf is no key
abbrev pub NoLeaf : Tree → Type 0
NoLeaf (leaf o) = ⊥
NoLeaf (refer o) = Unit {0}
NoLeaf (hold o ts) = Unit {0}
NoLeaf (declare o es t) = Unit {0}
NoLeaf (foreign o t) = Unit {0}
NoLeaf (damaged o) = Unit {0}

pub value_fine : (s : List ℕ) (k : ℕ) (t : Tree) → NoLeaf t → (r : Right s k t) → Obeys s r.levels k t
value_fine s k t never r = of r.key r.obeys
  where
    of : (b : Bool) → IfKey b (KeyObeys s t) (Obeys s r.levels k t) → Obeys s r.levels k t
    of true f = absurd (subst NoLeaf f.is never)
    of false f = f

-- ---- registries

pub before_on : (row next : ℕ) (xs : Spots) → row ≤ next → Before row xs → Before next xs
unfolding Before
before_on row next nil h b = tt
before_on row next (cons x xs) h b = (omega (arith, b.0), before_on row next xs h b.1)

pub rows-behind-one : (xs : Spots) (x : Spot) → spot_rows (added xs x) ≡ spot_rows xs ++ (spot_row x ∷ [])
unfolding added
rows-behind-one nil x = refl
rows-behind-one (cons y ys) x = ap (λ (l : List ℕ). spot_row y ∷ l) (rows-behind-one ys x)

before-behind : (row : ℕ) (xs : Spots) (x : Spot) → Before row xs → spot_end x ≤ row → Before row (added xs x)
unfolding Before added
before-behind row nil x b h = (h, tt)
before-behind row (cons y ys) x b h = (b.0, before-behind row ys x b.1 h)

rows-front : (k : ℕ) (xs : Spots) → spot_rows (front k xs) ≡ take k (spot_rows xs)
unfolding front
rows-front zero xs = refl
rows-front (suc k) nil = refl
rows-front (suc k) (cons x xs) = ap (λ (l : List ℕ). spot_row x ∷ l) (rows-front k xs)

-- the spots in force in a body have the rows that are
rows-body : (force : Spots) → spot_rows (for_body force) ≡ in_body (spot_rows force)
rows-body force = rows-front (in_foreign (length (spot_rows force))) force

before-front : (k row : ℕ) (xs : Spots) → Before row xs → Before row (front k xs)
unfolding Before front
before-front zero row xs b = tt
before-front (suc k) row nil b = tt
before-front (suc k) row (cons x xs) b = (b.0, before-front k row xs b.1)

module _ (table : List ℕ) (n : ℕ) (s : List ℕ) where
  goods_behind : (xs : Spots) (x : Spot) → Goods table n s xs → Good table n s x → Goods table n s (added xs x)
  unfolding Good added
  goods_behind nil x g h = (h, tt)
  goods_behind (cons y ys) x g h = (g.0, goods_behind ys x g.1 h)

  goods_front : (k : ℕ) (xs : Spots) → Goods table n s xs → Goods table n s (front k xs)
  unfolding Good front
  goods_front zero xs g = tt
  goods_front (suc k) nil g = tt
  goods_front (suc k) (cons x xs) g = (g.0, goods_front k xs g.1)

  -- ---- children

  -- what stands behind a tree's own row
  below_at : (t : Tree) (row : ℕ) (registry : List ℕ) (o : Stood table n s t row registry) → drop (words_per_row * (row + 1)) table ≡ below t row registry ++ o.rest
  below_at t row registry o = rest_at table row registry o.rest t o.words

  -- trees from `row` on, with the registry that `force` has
  held_good : (ts : Trees) (d : ℕ) (c : Children) (i row : ℕ) (force : Spots) (rest : List ℕ) → n ≤ lent table → is_entry c ≡ false → row + sizes ts ≤ n
      → drop (words_per_row * row) table ≡ layouts ts false row (spot_rows force) ++ rest → ObeyAll s d c (length (spot_rows force)) i ts → Before row force → Goods table n s force
      → Goods table n s (siblings ts row force)
  unfolding siblings Good layout size Obeys
  held_good none d c i row force rest room e b w f l g = tt
  held_good (more t ts) d c i row force rest room e b w f l g =
      let R : List ℕ = spot_rows force in
      let L : List ℕ = layouts ts false (row + size t) R in
      let u : drop (words_per_row * row) table ≡ layout t row R ++ (L ++ rest) = w ∙ append_assoc (layout t row R) L rest in
      let v : drop (words_per_row * (row + size t)) table ≡ L ++ rest = rows_behind table row (size t) (layout t row R) (L ++ rest) (length-layout t row R) u in (
        (record { room = room; within = omega arith; rest = L ++ rest; words = u; right = record { key = is_key c i; levels = d; obeys = f.0 } }, l, g),
        held_good ts d c (i + 1) (row + size t) force rest room e (omega arith) v
            (subst (λ (x : Bool). ObeyAll s d c (after x (length R)) (i + 1) ts) e f.1) (before_on row (row + size t) force (omega arith) l) g,
      )

  held_linked : (ts : Trees) (row : ℕ) (force : Spots) → Linked row (siblings ts row force)
  unfolding siblings Linked
  held_linked none row force = tt
  held_linked (more t ts) row force = (refl, held_linked ts (row + size t) force)

  -- entries from `row` on, and the value behind them
  declared-good : (es : Trees) (t : Tree) (d count : ℕ) (row : ℕ) (force : Spots) (rest : List ℕ) → n ≤ lent table → row + (sizes es + size t) ≤ n
      → drop (words_per_row * row) table ≡ (layouts es true row (spot_rows force) ++ layout t (row + sizes es) (entries es row (spot_rows force))) ++ rest
      → ObeyAll s d Entries (length (spot_rows force)) (length (spot_rows force)) es → Obeys s d count t → length (spot_rows force) + many es ≡ count → Before row force → Goods table n s force
      → Goods table n s (declared es t row force)
  unfolding declared Good layout size Obeys many entries
  declared-good none t d count row force rest room b w f o num l g =
      let R : List ℕ = spot_rows force in
      let z : row + 0 ≡ row = add-zero row in
      let k : count ≡ length R = omega arith in
      ((record { room = room; within = omega arith; rest = rest; words = w ∙ ap (λ (x : ℕ). layout t x R ++ rest) z; right = record { key = false; levels = d; obeys = subst (λ (x : ℕ). Obeys s d x t) k o } }, l, g), tt)
  declared-good (more e es) t d count row force rest room b w f o num l g =
      let R : List ℕ = spot_rows force in
      let x : Spot = spot e row force in
      let R' : List ℕ = spot_rows (added force x) in
      let r : R ++ (row ∷ []) ≡ R' = sym (rows-behind-one force x) in
      let n' : length R' ≡ length R + 1 = ap length (sym r) ∙ length-append R (row ∷ []) in
      let E : List ℕ = layout e row R in
      let L : List ℕ = layouts es true (row + size e) (R ++ (row ∷ [])) in
      let U : List ℕ = layout t (row + (size e + sizes es)) (entries es (row + size e) (R ++ (row ∷ []))) in
      let u : drop (words_per_row * row) table ≡ E ++ ((L ++ U) ++ rest) = w ∙ ap (λ (y : List ℕ). y ++ rest) (append_assoc E L U) ∙ append_assoc E (L ++ U) rest in
      let v : drop (words_per_row * (row + size e)) table ≡ (L ++ U) ++ rest = rows_behind table row (size e) E ((L ++ U) ++ rest) (length-layout e row R) u in
      let q : row + (size e + sizes es) ≡ row + size e + sizes es = omega arith in
      let v' : drop (words_per_row * (row + size e)) table ≡ (layouts es true (row + size e) R' ++ layout t (row + size e + sizes es) (entries es (row + size e) R')) ++ rest =
      v ∙ ap₂ (λ (y : List ℕ) (i : ℕ). (layouts es true (row + size e) y ++ layout t i (entries es (row + size e) y)) ++ rest) r q in
      let own : Good table n s x = (record { room = room; within = omega arith; rest = (L ++ U) ++ rest; words = u; right = record { key = false; levels = d; obeys = f.0 } }, l, g) in (
        own,
        declared-good es t d count (row + size e) (added force x) rest room (omega arith) v'
            (subst (λ (k : ℕ). ObeyAll s d Entries k k es) (sym n') f.1) o (omega arith)
            (before-behind (row + size e) force x (before_on row (row + size e) force (omega arith) l) (omega arith)) (goods_behind force x g own),
      )

  declared-linked : (es : Trees) (t : Tree) (row : ℕ) (force : Spots) → Linked row (declared es t row force)
  unfolding declared Linked
  declared-linked none t row force = (refl, tt)
  declared-linked (more e es) t row force = (refl, declared-linked es t (row + size e) (added force (spot e row force)))

  -- a foreign document's value
  body-good : (t : Tree) (d row : ℕ) (force : Spots) (rest : List ℕ) → n ≤ lent table → row + size t ≤ n
      → drop (words_per_row * row) table ≡ layout t row (in_body (spot_rows force)) ++ rest → Obeys s d (in_foreign (length (spot_rows force))) t → Before row force → Goods table n s force
      → Good table n s (spot t row (for_body force))
  unfolding Good
  body-good t d row force rest room b w f l g =
      let k : ℕ = in_foreign (length (spot_rows force)) in
      let r : spot_rows (for_body force) ≡ in_body (spot_rows force) = rows-body force in
      let m : length (spot_rows (for_body force)) ≡ k = ap length r ∙ length-body (spot_rows force) in (
        record {
          room = room;
          within = b;
          rest = rest;
          words = w ∙ ap (λ (x : List ℕ). layout t row x ++ rest) (sym r);
          right = record { key = false; levels = d; obeys = subst (λ (x : ℕ). Obeys s d x t) (sym m) f };
        },
        before-front k row force l,
        goods_front k force g,
      )

  -- what stands below a good spot is good
  pub children-good : (x : Spot) → Good table n s x → Goods table n s (children x)
  unfolding children Good Obeys size Before
  children-good (spot (leaf o) row force) g = tt
  children-good (spot (refer o) row force) g = tt
  children-good (spot (hold o ts) row force) g =
      let a = g.0 in
      let f = value_fine s (length (spot_rows force)) (hold o ts) tt a.right in
      held_good ts (a.right.levels - 1) (children_of f.1.0) 0 (row + 1) force a.rest a.room (no_entry f.1.0) (omega (arith, a.within))
      (below_at (hold o ts) row (spot_rows force) a) f.1.3 (before_on row (row + 1) force (omega arith) g.1) g.2
  children-good (spot (declare o es t) row force) g =
      let a = g.0 in
      let f = value_fine s (length (spot_rows force)) (declare o es t) tt a.right in
      declared-good es t (a.right.levels - 1) o.w0 (row + 1) nil a.rest a.room (omega (arith, a.within))
      (below_at (declare o es t) row (spot_rows force) a) f.3 f.4 (zero-add (many es) ∙ f.2) tt tt
  children-good (spot (foreign o t) row force) g =
      let a = g.0 in
      let f = value_fine s (length (spot_rows force)) (foreign o t) tt a.right in (
        body-good t (a.right.levels - 1) (row + 1) force a.rest a.room (omega (arith, a.within))
            (below_at (foreign o t) row (spot_rows force) a) f.2 (before_on row (row + 1) force (omega arith) g.1) g.2,
        tt,
      )
  children-good (spot (damaged o) row force) g = tt

  pub children-linked : (x : Spot) → Linked (spot_row x + 1) (children x)
  unfolding children Linked
  children-linked (spot (leaf o) row force) = tt
  children-linked (spot (refer o) row force) = tt
  children-linked (spot (hold o ts) row force) = held_linked ts (row + 1) force
  children-linked (spot (declare o es t) row force) = declared-linked es t (row + 1) nil
  children-linked (spot (foreign o t) row force) = (refl, tt)
  children-linked (spot (damaged o) row force) = tt
