-- A walk over a table that passed the check stays in the table, gets no 12, and meets the tree's payloads. Assumes nothing.
use mathlib.Core.Path.{◌≡◌, refl, sym, ap, ◌∙◌, subst}
use Prim.Native.Nat.{ℕ, ◌+◌, ◌≤◌}
use native.Mathlib.Omega.{arith}
use mathlib.Core.Bool.{Bool, true, false, cond, ◌&&◌}
use mathlib.Core.List.{List, [], ◌∷◌}
use lib.ListN.{length, get_or}
use lib.Dec.{leb, eqb}
use borrow.Author.Tests.{lt-ltb, le-leb, eqb-true}
use Rattle.wide.proofs.Ranks.{bool_case}
use Rattle.rows.specs.Table.{Own, lent, aimed}
use Rattle.rows.specs.Kinds.{kind_float, kind_text, kind_binary, kind_key}
use Rattle.format.specs.Tree.{Tree, leaf, refer, hold, declare, foreign, damaged, size}
use Rattle.format.proofs.Layouts.{own_at}
use Rattle.rules.specs.declared.shape.Shape.{Shape}
use Rattle.rules.specs.declared.shape.Shape.TheVariants.{Bad, Leaf, Refer, Hold, Declare, Whole, Damaged}
use Rattle.rules.specs.Shape.{shape_of, key_fits}
use Rattle.rules.specs.Obeys.{KeyObeys, IfKey, Obeys, Stands}
use Rattle.rules.proofs.Says.{HasInside, key_inside, float-inside, text-inside, binary-inside, key_bad, aimed_shape}
use Rattle.walker.specs.declared.standing.Standing.{Standing}
use Rattle.walker.specs.Walk.{Step, standing, start_of}
use Rattle.payload.specs.declared.part.Part.{Part}
use Rattle.payload.specs.Payload.{has_payload, part, payload_at}
use Rattle.walks.specs.Spots.{Spot, spot, Spots, nil, cons, spot_tree, spot_row, spot_rows, Way, tree_step, bound_of, step_for, go_on, tree_walk, tree_end, go_to, table_walk, table_end, InTable, AllInTable, own_part}
use Rattle.walks.proofs.Good.{Right, Good, value_fine}
use Rattle.walks.proofs.Walked.{Here, HereAll, step_right, step-here, bound_in, good-own, stood_row, root, root_here, steps_right}

-- ---- kinds with a payload

by_kind : (P : Type 0) (kind : ℕ) → has_payload kind ≡ true → (kind ≡ kind_float → P) → (kind ≡ kind_text → P) → (kind ≡ kind_binary → P) → (kind ≡ kind_key → P) → P
unfolding has_payload
by_kind P kind h a b c d =
    bool_case (eqb kind kind_float) (λ e. a (eqb-true kind kind_float e)) (λ e₁.
    bool_case (eqb kind kind_text) (λ e. b (eqb-true kind kind_text e)) (λ e₂.
    bool_case (eqb kind kind_binary) (λ e. c (eqb-true kind kind_binary e)) (λ e₃.
    d (eqb-true kind kind_key (rw (e₁, e₂, e₃) at h)))))

abbrev Met : Shape → Type 0
Met Bad = ⊥
Met Leaf = Unit {0}
Met Refer = Unit {0}
Met (Hold h) = Unit {0}
Met Declare = Unit {0}
Met Whole = Unit {0}
Met Damaged = Unit {0}

module _ (s : List ℕ) where
  -- at a value position only a leaf has a payload, and it lies in the data
  of_shape : (o : Own) (x : Shape) → shape_of s o ≡ x → Met x → has_payload o.kind ≡ true → HasInside (length s) o x
  of_shape o x e met h =
      by_kind (HasInside (length s) o x) o.kind h (float-inside s o x e) (text-inside s o x e) (binary-inside s o x e)
      (λ q. absurd (subst Met (key_bad s o x e q) met))

  leaf-inside : (d k : ℕ) (o : Own) (b : Bool) → IfKey b (KeyObeys s (leaf o)) (Obeys s d k (leaf o)) → has_payload o.kind ≡ true → o.w0 + o.w1 ≤ length s
  unfolding Obeys
  leaf-inside d k o true f h = let q = f.is in let e : f.own ≡ o = cc in key_inside s o (subst (λ (p : Own). key_fits s p ≡ true) e f.fits)
  leaf-inside d k o false f h = of_shape o Leaf f.1 tt h

  abbrev part_is : Own → Part
  part_is o = cond (has_payload o.kind && leb (o.w0 + o.w1) (length s)) (part o.w0 o.w1) (part 0 0)

  leaf-part : (k : ℕ) (o : Own) → Right s k (leaf o) → part_is o ≡ own_part (leaf o)
  leaf-part k o r =
      bool_case (has_payload o.kind) (λ e. rw (e, le-leb (o.w0 + o.w1) (length s) (leaf-inside r.levels k o r.key r.obeys e))) (λ e. rw e)

  no_part : (o : Own) → (has_payload o.kind ≡ true → ⊥) → part_is o ≡ part 0 0
  no_part o never = bool_case (has_payload o.kind) (λ e. absurd (never e)) (λ e. rw e)

  -- a right tree's own row has the tree's payload
  top_part : (k : ℕ) (registry : List ℕ) (t : Tree) → Right s k t → part_is (own_at t registry) ≡ own_part t
  unfolding Obeys
  top_part k registry (leaf o) r = leaf-part k o r
  top_part k registry (refer o) r =
      let e : ℕ = get_or registry o.w0 0 in
      no_part (aimed o e) (of_shape (aimed o e) Refer (aimed_shape s o e (value_fine s k (refer o) tt r).1) tt)
  top_part k registry (hold o ts) r = let f = value_fine s k (hold o ts) tt r in no_part o (of_shape o (Hold f.1.0) f.1.1 tt)
  top_part k registry (declare o es t) r = no_part o (of_shape o Declare (value_fine s k (declare o es t) tt r).1 tt)
  top_part k registry (foreign o t) r = no_part o (of_shape o Whole (value_fine s k (foreign o t) tt r).1 tt)
  top_part k registry (damaged o) r = no_part o (of_shape o Damaged (value_fine s k (damaged o) tt r).1 tt)

module _ (table : List ℕ) (n : ℕ) (s : List ℕ) where
  -- a good spot's payload is its tree's
  pub payload_good : (x : Spot) → Good table n s x → payload_at table (spot_row x) s ≡ own_part (spot_tree x)
  unfolding Good payload_at
  payload_good (spot t row force) g =
      let R : List ℕ = spot_rows force in
      let a = good-own table n s (spot t row force) g in
      rw (lt-ltb row (lent table) (omega (arith, a.1, a.2, a.3)), stood_row table n s t row R g.0) (top_part s (length R) R t g.0.right)

  -- ---- a walk

  told-inside : (xs : Spots) → HereAll table n s xs → InTable n (step_for xs)
  told-inside nil h = tt
  told-inside (cons x xs) h =
      let b = bound_in table n s xs x h.good h.goods h.linked in
      let o = good-own table n s x h.good in
      (omega (arith, b.0, o.1), b.1)

  on_inside : (ws : List Way) (x : Spot) (xs : Spots) → Here table n s x xs → ((y : Spot) (ys : Spots) → Here table n s y ys → AllInTable n (tree_walk ws y ys))
      → (ys : Spots) → HereAll table n s ys → AllInTable n (go_on ys x xs (tree_walk ws))
  on_inside ws x xs h rest nil k = rest x xs h
  on_inside ws x xs h rest (cons y ys) k = rest y ys k

  pub walk_inside : (ws : List Way) (x : Spot) (xs : Spots) → Here table n s x xs → AllInTable n (tree_walk ws x xs)
  unfolding tree_walk AllInTable
  walk_inside [] x xs h = tt
  walk_inside (w ∷ ws) x xs h =
      let k = step-here table n s w x xs h in
      (told-inside (tree_step w x xs) k, on_inside ws x xs h (λ y ys j. walk_inside ws y ys j) (tree_step w x xs) k)

  -- ---- where it ends

  -- the tree's spot is good, and the table's standing is on its row
  record EndsAt (ws : List Way) (at : Standing) (y : Spot) : Type 0 where
    pub good : Good table n s y
    pub row : (table_end table n ws at).row ≡ spot_row y

  on_ends : (ws : List Way) (x : Spot) (xs : Spots) → Here table n s x xs → ((y : Spot) (ys : Spots) → Here table n s y ys → EndsAt ws (standing (spot_row y) (bound_of y ys)) (tree_end ws y ys))
      → (ys : Spots) → HereAll table n s ys → EndsAt ws (go_to (standing (spot_row x) (bound_of x xs)) (step_for ys)) (go_on ys x xs (tree_end ws))
  on_ends ws x xs h rest nil k = rest x xs h
  on_ends ws x xs h rest (cons y ys) k = rest y ys k

  walk_ends : (ws : List Way) (x : Spot) (xs : Spots) → Here table n s x xs → EndsAt ws (standing (spot_row x) (bound_of x xs)) (tree_end ws x xs)
  unfolding tree_end table_end
  walk_ends [] x xs h = record { good = h.good; row = refl }
  walk_ends (w ∷ ws) x xs h =
      let e = on_ends ws x xs h (λ y ys j. walk_ends ws y ys j) (tree_step w x xs) (step-here table n s w x xs h) in
      record {
        good = e.good;
        row = ap (λ (z : Step). (table_end table n ws (go_to (standing (spot_row x) (bound_of x xs)) z)).row) (step_right table n s w x xs h) ∙ e.row;
      }

-- ---- a table that passed the check

module _ (depth : ℕ) (table : List ℕ) (n : ℕ) (s : List ℕ) (t : Tree) (st : Stands depth table n s t) where
  -- no step is refused with 12, and each that is taken stays in the table
  pub steps_inside : (ws : List Way) → AllInTable n (table_walk table n ws (start_of n))
  steps_inside ws =
      subst (AllInTable n) (sym (steps_right depth table n s t st ws)) (walk_inside table n s ws (root depth table n s t st) nil (root_here depth table n s t st))

  -- the payload of the row where it ends is the tree's
  pub payload_right : (ws : List Way) → payload_at table (table_end table n ws (start_of n)).row s ≡ own_part (spot_tree (tree_end ws (spot t 0 nil) nil))
  unfolding bound_of
  payload_right ws =
      let e = walk_ends table n s ws (spot t 0 nil) nil (root_here depth table n s t st) in
      let q : 0 + size t ≡ n = omega (arith, st.rows) in
      ap (λ (x : ℕ). payload_at table (table_end table n ws (standing 0 x)).row s) (sym q) ∙ ap (λ (x : ℕ). payload_at table x s) e.row
      ∙ payload_good table n s (tree_end ws (spot t 0 nil) nil) e.good
