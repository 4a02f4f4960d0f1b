-- A walk over a table that passed the check meets what the tree has, in any order and number of steps. Assumes nothing.
use mathlib.Core.Path.{◌≡◌, refl, sym, ap, ◌∙◌}
use Prim.Native.Nat.{ℕ, zero, suc, ◌+◌, ◌*◌, ◌≤◌, ◌<◌}
use native.Mathlib.Omega.{arith}
use native.Mathlib.Nat.{add-zero}
use mathlib.Core.Bool.{true, false, cond}
use mathlib.Core.List.{List, [], ◌∷◌}
use lib.ListN.{length, get_or, drop}
use lib.Dec.{ltb, eqb}
use borrow.Author.Tests.{lt-ltb, le-ltb, le-leb, eq-eqb, ne_eqb}
use Rattle.std.specs.Prelude.{Ok, Err}
use Rattle.rows.specs.declared.row.Row.{Row}
use Rattle.rows.specs.Table.{words_per_row, Own, row_at, lent}
use Rattle.rows.specs.Kinds.{kind_reference}
use Rattle.format.specs.Tree.{Tree, leaf, refer, hold, declare, foreign, damaged, Trees, none, more, size, sizes}
use Rattle.format.proofs.Layouts.{size_pos, own_at, top_row, top_at}
use Rattle.rules.specs.Obeys.{Obeys, Stands}
use Rattle.rules.proofs.Exact.{laid_out}
use Rattle.walker.specs.declared.unmoved.Unmoved.TheVariants.{NoStep, BadTable}
use Rattle.walker.specs.Walk.{Step, standing, start_of, genuine, step_in, step_on, step_along}
use Rattle.walks.specs.Spots.{Spot, spot, Spots, nil, cons, spot_row, spot_end, spot_rows, added, entry, siblings, declared, children, Way, inward, onward, alongside, entry_of, tree_step, bound_of, step_for, go_on, tree_walk, step_by, go_to, table_walk}
use Rattle.walks.proofs.Good.{Right, Stood, Before, Good, Goods, Linked, value_fine, children-good, children-linked}
use Rattle.walks.proofs.Neither.{kind-is}

-- a reference's entry is in force
pub refer_known : (s : List ℕ) (k : ℕ) (o : Own) → Right s k (refer o) → o.w0 < k
unfolding Obeys
refer_known s k o r = (value_fine s k (refer o) tt r).3

-- ---- rows

module _ (table : List ℕ) (n : ℕ) (s : List ℕ) where
  pub stood_row : (t : Tree) (row : ℕ) (registry : List ℕ) → Stood table n s t row registry → row_at table row ≡ top_row t row registry
  stood_row t row registry a = top_at table t row registry a.rest a.words

  -- ---- where one stands

  pub record Here (x : Spot) (xs : Spots) : Type 0 where
    pub good : Good table n s x
    pub goods : Goods table n s xs
    pub linked : Linked (spot_end x) xs

  pub good-own : (x : Spot) → Good table n s x → ((row_at table (spot_row x)).end ≡ spot_end x) × (spot_row x < spot_end x) × (spot_end x ≤ n) × (n ≤ lent table)
  unfolding Good
  good-own (spot t row force) g = (ap (λ (r : Row). r.end) (stood_row t row (spot_rows force) g.0), omega (arith, size_pos t), g.0.within, g.0.room)

  pub bound_in : (xs : Spots) (x : Spot) → Good table n s x → Goods table n s xs → Linked (spot_end x) xs → (spot_end x ≤ bound_of x xs) × (bound_of x xs ≤ n)
  unfolding bound_of Linked Good
  bound_in nil x g h l = (omega arith, (good-own x g).2)
  bound_in (cons y ys) x g h l =
      let b = bound_in ys y h.0 h.1 l.1 in
      let o = good-own y h.0 in
      (omega (arith, b.0, l.0, o.1), b.1)

  -- ---- what each step finds

  on_told : (xs : Spots) (x : Spot) → Good table n s x → Goods table n s xs → Linked (spot_end x) xs
      → cond (ltb (spot_end x) (bound_of x xs)) (Ok (standing (spot_end x) (bound_of x xs))) (Err NoStep) ≡ step_for xs
  unfolding bound_of Linked Good
  on_told nil x g h l = rw (le-ltb (spot_end x) (spot_end x) (omega arith))
  on_told (cons y ys) x g h l =
      let b = bound_in ys y h.0 h.1 l.1 in
      let o = good-own y h.0 in
      rw (lt-ltb (spot_end x) (bound_of y ys) (omega (arith, b.0, l.0, o.1))) (ap (λ (r : ℕ). Ok (standing r (bound_of y ys))) (sym l.0))

  -- trees under a holder end where it does
  bound_held : (ts : Trees) (row : ℕ) (force : Spots) (x : Spot) → spot_end x ≡ row → bound_of x (siblings ts row force) ≡ row + sizes ts
  unfolding siblings bound_of size
  bound_held none row force x e = e ∙ sym (add-zero row)
  bound_held (more t ts) row force x e = bound_held ts (row + size t) force (spot t row force) refl ∙ omega arith

  bound_declared : (es : Trees) (t : Tree) (row : ℕ) (force : Spots) (x : Spot) → bound_of x (declared es t row force) ≡ row + (sizes es + size t)
  unfolding declared bound_of size
  bound_declared none t row force x = omega arith
  bound_declared (more e es) t row force x = bound_declared es t (row + size e) (added force (spot e row force)) (spot e row force) ∙ omega arith

  -- where some trees from `row` on end
  abbrev last_end : ℕ → Spots → ℕ
  last_end row nil = row
  last_end row (cons y ys) = bound_of y ys

  children-end : (x : Spot) → last_end (spot_row x + 1) (children x) ≡ spot_end x
  unfolding children siblings declared bound_of size
  children-end (spot (leaf o) row force) = refl
  children-end (spot (refer o) row force) = refl
  children-end (spot (hold o none) row force) = omega arith
  children-end (spot (hold o (more t ts)) row force) = bound_held ts (row + 1 + size t) force (spot t (row + 1) force) refl ∙ omega arith
  children-end (spot (declare o none t) row force) = omega arith
  children-end (spot (declare o (more e es) t) row force) =
      bound_declared es t (row + 1 + size e) (added nil (spot e (row + 1) nil)) (spot e (row + 1) nil) ∙ omega arith
  children-end (spot (foreign o t) row force) = omega arith
  children-end (spot (damaged o) row force) = refl

  in_of : (row : ℕ) (ys : Spots) → Linked (row + 1) ys → Goods table n s ys
      → cond (ltb (row + 1) (last_end (row + 1) ys)) (Ok (standing (row + 1) (last_end (row + 1) ys))) (Err NoStep) ≡ step_for ys
  unfolding Linked Good
  in_of row nil l g = rw (le-ltb (row + 1) (row + 1) (omega arith))
  in_of row (cons y ys) l g =
      let b = bound_in ys y g.0 g.1 l.1 in
      let o = good-own y g.0 in
      rw (lt-ltb (row + 1) (bound_of y ys) (omega (arith, b.0, o.1, l.0))) (ap (λ (r : ℕ). Ok (standing r (bound_of y ys))) (sym l.0))

  in_told : (x : Spot) → Good table n s x → cond (ltb (spot_row x + 1) (spot_end x)) (Ok (standing (spot_row x + 1) (spot_end x))) (Err NoStep) ≡ step_for (children x)
  in_told x g =
      ap (λ (e : ℕ). cond (ltb (spot_row x + 1) e) (Ok (standing (spot_row x + 1) e)) (Err NoStep)) (sym (children-end x))
      ∙ in_of (spot_row x) (children x) (children-linked table n s x) (children-good table n s x g)

  -- entry k of those in force, with its row
  entry_at : (k : ℕ) (xs : Spots) (row : ℕ) → k < length (spot_rows xs) → Goods table n s xs → Before row xs
      → (y : Spot) × (entry xs k ≡ cons y nil) × (get_or (spot_rows xs) k 0 ≡ spot_row y) × Good table n s y × (spot_end y ≤ row)
  unfolding entry Good Before
  entry_at k nil row l g b = absurd (omega arith)
  entry_at zero (cons x xs) row l g b = (x, refl, refl, g.0, b.0)
  entry_at (suc k) (cons x xs) row l g b = entry_at k xs row (omega arith) g.1 b.1

  abbrev along_row : ℕ → Row → Step
  along_row row w = cond (eqb w.kind kind_reference) (cond (ltb w.w1 row) (Ok (standing w.w1 (row_at table w.w1).end)) (Err BadTable)) (Err NoStep)

  -- what is no reference leads nowhere
  along_none : (t : Tree) (row : ℕ) (registry : List ℕ) → Stood table n s t row registry → ((own_at t registry).kind ≡ kind_reference → ⊥) → along_row row (row_at table row) ≡ Err NoStep
  along_none t row registry a never = rw (stood_row t row registry a, ne_eqb (own_at t registry).kind kind_reference never)

  along_told : (x : Spot) → Good table n s x → along_row (spot_row x) (row_at table (spot_row x)) ≡ step_for (entry_of x)
  unfolding entry_of Good bound_of
  along_told (spot (leaf o) row force) g = let R : List ℕ = spot_rows force in along_none (leaf o) row R g.0 (kind-is s (length R) R (leaf o) g.0.right).no_reference
  along_told (spot (refer o) row force) g =
      let R : List ℕ = spot_rows force in
      let e = entry_at o.w0 force row (refer_known s (length R) o g.0.right) g.2 g.1 in
      let a = good-own e.0 e.3 in
      ap (along_row row) (stood_row (refer o) row R g.0)
      ∙ rw (eq-eqb o.kind kind_reference (kind-is s (length R) R (refer o) g.0.right), e.2, lt-ltb (spot_row e.0) row (omega (arith, a.1, e.4)), a.0)
      (ap step_for (sym e.1))
  along_told (spot (hold o ts) row force) g = let R : List ℕ = spot_rows force in along_none (hold o ts) row R g.0 (kind-is s (length R) R (hold o ts) g.0.right).no_reference
  along_told (spot (declare o es t) row force) g =
      let R : List ℕ = spot_rows force in
      along_none (declare o es t) row R g.0 (λ q. absurd (omega (arith, sym (kind-is s (length R) R (declare o es t) g.0.right) ∙ q)))
  along_told (spot (foreign o t) row force) g = let R : List ℕ = spot_rows force in along_none (foreign o t) row R g.0 (kind-is s (length R) R (foreign o t) g.0.right).no_reference
  along_told (spot (damaged o) row force) g = let R : List ℕ = spot_rows force in along_none (damaged o) row R g.0 (kind-is s (length R) R (damaged o) g.0.right).no_reference

  module _ (x : Spot) (xs : Spots) (h : Here x xs) where
    b : (spot_end x ≤ bound_of x xs) × (bound_of x xs ≤ n)
    b = bound_in xs x h.good h.goods h.linked

    o : ((row_at table (spot_row x)).end ≡ spot_end x) × (spot_row x < spot_end x) × (spot_end x ≤ n) × (n ≤ lent table)
    o = good-own x h.good

    pub here-genuine : genuine table n (spot_row x) (bound_of x xs) ≡ true
    unfolding genuine
    here-genuine =
        rw (
          le-leb n (lent table) o.3,
          lt-ltb (spot_row x) n (omega (arith, o.1, o.2)),
          lt-ltb (spot_row x) (bound_of x xs) (omega (arith, o.1, b.0)),
          le-leb (bound_of x xs) n b.1,
          lt-ltb (spot_row x) (row_at table (spot_row x)).end (omega (arith, o.0, o.1)),
          le-leb (row_at table (spot_row x)).end (bound_of x xs) (omega (arith, o.0, b.0)),
        )

    pub on_right : step_on table n (standing (spot_row x) (bound_of x xs)) ≡ step_for xs
    unfolding step_on
    on_right = rw (here-genuine, o.0) (on_told xs x h.good h.goods h.linked)

    pub in_right : step_in table n (standing (spot_row x) (bound_of x xs)) ≡ step_for (children x)
    unfolding step_in
    in_right = rw (here-genuine, o.0) (in_told x h.good)

    pub along_right : step_along table n (standing (spot_row x) (bound_of x xs)) ≡ step_for (entry_of x)
    unfolding step_along
    along_right = rw here-genuine (along_told x h.good)

  -- ---- a walk

  abbrev pub HereAll : Spots → Type 0
  HereAll nil = Unit {0}
  HereAll (cons x xs) = Here x xs

  here_of : (row : ℕ) (xs : Spots) → Goods table n s xs → Linked row xs → HereAll xs
  unfolding Good Linked
  here_of row nil g l = tt
  here_of row (cons x xs) g l = record { good = g.0; goods = g.1; linked = l.1 }

  entry_here : (k : ℕ) (xs : Spots) → Goods table n s xs → HereAll (entry xs k)
  unfolding entry Good Linked
  entry_here k nil g = tt
  entry_here zero (cons x xs) g = record { good = g.0; goods = tt; linked = tt }
  entry_here (suc k) (cons x xs) g = entry_here k xs g.1

  referred-here : (x : Spot) → Good table n s x → HereAll (entry_of x)
  unfolding entry_of Good
  referred-here (spot (leaf o) row force) g = tt
  referred-here (spot (refer o) row force) g = entry_here o.w0 force g.2
  referred-here (spot (hold o ts) row force) g = tt
  referred-here (spot (declare o es t) row force) g = tt
  referred-here (spot (foreign o t) row force) g = tt
  referred-here (spot (damaged o) row force) g = tt

  pub step_right : (w : Way) (x : Spot) (xs : Spots) → Here x xs → step_by table n w (standing (spot_row x) (bound_of x xs)) ≡ step_for (tree_step w x xs)
  unfolding step_by tree_step
  step_right inward x xs h = in_right x xs h
  step_right onward x xs h = on_right x xs h
  step_right alongside x xs h = along_right x xs h

  pub step-here : (w : Way) (x : Spot) (xs : Spots) → Here x xs → HereAll (tree_step w x xs)
  unfolding tree_step
  step-here inward x xs h = here_of (spot_row x + 1) (children x) (children-good table n s x h.good) (children-linked table n s x)
  step-here onward x xs h = here_of (spot_end x) xs h.goods h.linked
  step-here alongside x xs h = referred-here x h.good

  on_right_too : (ws : List Way) (x : Spot) (xs : Spots) → Here x xs → ((y : Spot) (ys : Spots) → Here y ys → table_walk table n ws (standing (spot_row y) (bound_of y ys)) ≡ tree_walk ws y ys)
      → (ys : Spots) → HereAll ys → table_walk table n ws (go_to (standing (spot_row x) (bound_of x xs)) (step_for ys)) ≡ go_on ys x xs (tree_walk ws)
  on_right_too ws x xs h rest nil k = rest x xs h
  on_right_too ws x xs h rest (cons y ys) k = rest y ys k

  -- from where one stands, any steps meet what the tree has
  pub walk-right : (ws : List Way) (x : Spot) (xs : Spots) → Here x xs → table_walk table n ws (standing (spot_row x) (bound_of x xs)) ≡ tree_walk ws x xs
  unfolding table_walk tree_walk
  walk-right [] x xs h = refl
  walk-right (w ∷ ws) x xs h =
      ap (λ (z : Step). z ∷ table_walk table n ws (go_to (standing (spot_row x) (bound_of x xs)) z)) (step_right w x xs h)
      ∙ ap (λ (l : List Step). step_for (tree_step w x xs) ∷ l) (on_right_too ws x xs h (λ y ys k. walk-right ws y ys k) (tree_step w x xs) (step-here w x xs h))

-- ---- a table that passed the check

module _ (depth : ℕ) (table : List ℕ) (n : ℕ) (s : List ℕ) (t : Tree) (st : Stands depth table n s t) where
  abbrev pub root : Spot
  root = spot t 0 nil

  pub root_good : Good table n s root
  unfolding Good Before
  root_good = (
    record {
      room = st.rows-lent;
      within = omega (arith, st.rows);
      rest = drop (words_per_row * n) table;
      words = laid_out depth table n s t st;
      right = record { key = false; levels = suc depth; obeys = st.obeys };
    },
    tt,
    tt,
  )

  pub root_here : Here table n s root nil
  unfolding Good Linked
  root_here = record { good = root_good; goods = tt; linked = tt }

  -- from row 0, any steps in any order and number give what the tree has, and 14 exactly where it has nothing
  pub steps_right : (ws : List Way) → table_walk table n ws (start_of n) ≡ tree_walk ws root nil
  unfolding bound_of
  steps_right ws =
      let e : 0 + size t ≡ n = omega (arith, st.rows) in
      ap (λ (x : ℕ). table_walk table n ws (standing 0 x)) (sym e) ∙ walk-right table n s ws root nil root_here
