-- Two right trees whose rows are the same, places aside, with the same payload bytes, say the same. By induction on both. Assumes nothing.
use mathlib.Core.Path.{◌≡◌, refl, sym, ap, ap₂, ◌∙◌, subst}
use mathlib.Core.Bool.{Bool, true, false}
use mathlib.Core.List.{List, [], ◌++◌, append_assoc}
use Prim.Native.Nat.{ℕ, suc, ◌+◌, ◌-◌, ◌*◌, ◌≤◌, ◌<◌}
use native.Mathlib.Omega.{arith}
use lib.ListN.{get_or, drop}
use Rattle.rows.specs.declared.row.Row.{Row}
use Rattle.rows.specs.Table.{words_per_row, Own, own_of, row_at, aimed}
use Rattle.format.specs.declared.head.Holder.{Holder}
use Rattle.format.specs.declared.head.Children.{Children}
use Rattle.format.specs.declared.head.Children.TheVariants.{Entries}
use Rattle.format.specs.Tree.{Tree, leaf, refer, hold, declare, foreign, damaged, Trees, none, more, many, size, sizes}
use Rattle.format.specs.Value.{child_count, children_of, in_foreign, is_key}
use Rattle.format.specs.Layout.{layout, layouts, grown, entries, in_body}
use Rattle.format.proofs.Layouts.{length-layout, length-layouts, size_pos, own_at, top_row, top_at}
use Rattle.rules.specs.declared.shape.Shape.{Shape}
use Rattle.rules.specs.declared.shape.Shape.TheVariants as shape
use Rattle.rules.specs.Shape.{named, shape_for, shape_of}
use Rattle.rules.specs.Obeys.{KeyObeys, IfKey, Obeys, ObeyAll, Stands}
use Rattle.rules.proofs.Exact.{laid_out}
use Rattle.rules.proofs.Regrow.{behind, rest_at}
use Rattle.rules.proofs.Says.{aimed_shape}
use Rattle.encode.specs.Encode.{has_bytes, payload_of, moved}
use Rattle.encode.proofs.Said.{Said, one, over, under, said, saids}
use Rattle.encode.proofs.Said as says
use Rattle.encode.proofs.Places.{moved_named, moved_bare}
use Rattle.encode.proofs.Again.{told_of}
use Rattle.writer.proofs.Trees.{Bare, hold_bare, declare_bare, foreign_bare, refer_bare}
use Rattle.demands.specs.Alike.{SameRow, SameRows}

-- ---- a right tree's own row tells which tree it is

-- the shape of its row
unfoldable shape_by : (s : List ℕ) (d k : ℕ) (t : Tree) → Obeys s d k t → Shape
unfolding Obeys
shape_by s d k (leaf o) f = shape.Leaf
shape_by s d k (refer o) f = shape.Refer
shape_by s d k (hold o ts) f = shape.Hold f.1.0
shape_by s d k (declare o es t) f = shape.Declare
shape_by s d k (foreign o t) f = shape.Whole
shape_by s d k (damaged o) f = shape.Damaged

shape_is : (s : List ℕ) (o : Own) (x : Shape) → shape_of s o ≡ x → (x ≡ shape.Bad → ⊥) → shape_for (named o) ≡ x
shape_is s o x e f = (told_of s o x e f).is

fine_shape : (s : List ℕ) (d k : ℕ) (R : List ℕ) (t : Tree) (f : Obeys s d k t) → shape_for (named (own_at t R)) ≡ shape_by s d k t f
unfolding Obeys shape_by
fine_shape s d k R (leaf o) f = shape_is s o shape.Leaf f.1 (λ z. let y : ◌≡◌ {A = ℕ} 0 1 = cc in omega arith)
fine_shape s d k R (refer o) f =
    let e : ℕ = get_or R o.w0 0 in
    shape_is s (aimed o e) shape.Refer (aimed_shape s o e f.1) (λ z. let y : ◌≡◌ {A = ℕ} 0 1 = cc in omega arith)
fine_shape s d k R (hold o ts) f = shape_is s o (shape.Hold f.1.0) f.1.1 (λ z. let y : ◌≡◌ {A = ℕ} 0 1 = cc in omega arith)
fine_shape s d k R (declare o es t) f = shape_is s o shape.Declare f.1 (λ z. let y : ◌≡◌ {A = ℕ} 0 1 = cc in omega arith)
fine_shape s d k R (foreign o t) f = shape_is s o shape.Whole f.1 (λ z. let y : ◌≡◌ {A = ℕ} 0 1 = cc in omega arith)
fine_shape s d k R (damaged o) f = shape_is s o shape.Damaged f.1 (λ z. let y : ◌≡◌ {A = ℕ} 0 1 = cc in omega arith)

-- P of every tree whose row has that shape
abbrev On : Shape → (Tree → Type 0) → Type 0
On shape.Bad P = Unit {0}
On shape.Leaf P = (o : Own) → P (leaf o)
On shape.Refer P = (o : Own) → P (refer o)
On (shape.Hold h) P = (o : Own) (ts : Trees) → P (hold o ts)
On shape.Declare P = (o : Own) (es : Trees) (t : Tree) → P (declare o es t)
On shape.Whole P = (o : Own) (t : Tree) → P (foreign o t)
On shape.Damaged P = (o : Own) → P (damaged o)

by_shape_lem : (s : List ℕ) (d k : ℕ) (P : Tree → Type 0) (t : Tree) (f : Obeys s d k t) → On (shape_by s d k t f) P → P t
unfolding shape_by
by_shape_lem s d k P (leaf o) f g = g o
by_shape_lem s d k P (refer o) f g = g o
by_shape_lem s d k P (hold o ts) f g = g o ts
by_shape_lem s d k P (declare o es t) f g = g o es t
by_shape_lem s d k P (foreign o t) f g = g o t
by_shape_lem s d k P (damaged o) f g = g o

-- what a row's kind names is told without its place
named_same : (o p : Own) → moved o 0 ≡ moved p 0 → named o ≡ named p
named_same o p e = sym (moved_named o 0) ∙ ap named e ∙ moved_named p 0

module _ (s s' : List ℕ) where
  -- rows without bytes of the data
  bare_own : (w w' : Row) → SameRow s w s' w' → Bare (own_of w) → own_of w ≡ own_of w'
  bare_own w w' e b =
      let q : has_bytes (named (own_of w')) ≡ false = ap has_bytes (sym (named_same (own_of w) (own_of w') e.own)) ∙ b in
      sym (moved_bare (own_of w) 0 b) ∙ e.own ∙ moved_bare (own_of w') 0 q

  -- a row with no child
  one-says : (w w' : Row) → SameRow s w s' w' → one (moved (own_of w) 0) (payload_of s (own_of w)) ≡ one (moved (own_of w') 0) (payload_of s' (own_of w'))
  one-says w w' e = ap₂ one e.own e.bytes

  module _ (table table' : List ℕ) where
    abbrev Same : ℕ → ℕ → Type 0
    Same row stop = (i : ℕ) → row ≤ i → i < stop → SameRow s (row_at table i) s' (row_at table' i)

    -- both stand at the same row
    module _ (t u : Tree) (row : ℕ) (R R' rest rest' : List ℕ) (h : drop (words_per_row * row) table ≡ layout t row R ++ rest) (h' : drop (words_per_row * row) table' ≡ layout u row R' ++ rest') where
      top_same : SameRow s (row_at table row) s' (row_at table' row) → SameRow s (top_row t row R) s' (top_row u row R')
      top_same e =
          subst (λ (v : Row). SameRow s v s' (top_row u row R')) (top_at table t row R rest h) (subst (SameRow s (row_at table row) s') (top_at table' u row R' rest' h') e)

      same_shape : (d k d' k' : ℕ) (f : Obeys s d k t) (f' : Obeys s' d' k' u) → SameRow s (top_row t row R) s' (top_row u row R') → shape_by s d k t f ≡ shape_by s' d' k' u f'
      same_shape d k d' k' f f' w = sym (fine_shape s d k R t f) ∙ ap shape_for (named_same (own_at t R) (own_at u R') w.own) ∙ fine_shape s' d' k' R' u f'

    abbrev Says : Tree → Tree → Type 0
    Says t u = (row : ℕ) (R R' rest rest' : List ℕ) → drop (words_per_row * row) table ≡ layout t row R ++ rest → drop (words_per_row * row) table' ≡ layout u row R' ++ rest'
        → Same row (row + size t) → (said s t ≡ said s' u) × (size t ≡ size u)

    -- the first row of a tree
    here : (t : Tree) (row : ℕ) → Same row (row + size t) → SameRow s (row_at table row) s' (row_at table' row)
    here t row e = e row (omega arith) (omega (arith, size_pos t))

    leaf-says : (o p : Own) → Says (leaf o) (leaf p)
    unfolding said size
    leaf-says o p row R R' rest rest' h h' e =
        (one-says (top_row (leaf o) row R) (top_row (leaf p) row R') (top_same (leaf o) (leaf p) row R R' rest rest' h h' (here (leaf o) row e)), refl)

    key_says : (t u : Tree) → KeyObeys s t → KeyObeys s' u → Says t u
    key_says t u f f' = rw (f.is, f'.is) (leaf-says f.own f'.own)

    item-says : (b : Bool) (t u : Tree) (d k d' k' : ℕ) → (Obeys s d k t → Obeys s' d' k' u → Says t u) → IfKey b (KeyObeys s t) (Obeys s d k t) → IfKey b (KeyObeys s' u) (Obeys s' d' k' u) → Says t u
    item-says true t u d k d' k' g f f' = key_says t u f f'
    item-says false t u d k d' k' g f f' = g f f'

    -- what u says, whose own row is the same
    abbrev Beside : (t : Tree) (d k : ℕ) → Obeys s d k t → (d' k' row : ℕ) → List ℕ → List ℕ → List ℕ → Tree → Type 0
    Beside t d k f d' k' row R R' rest' u = (f' : Obeys s' d' k' u) → drop (words_per_row * row) table' ≡ layout u row R' ++ rest' → shape_by s d k t f ≡ shape_by s' d' k' u f'
        → SameRow s (top_row t row R) s' (top_row u row R') → (said s t ≡ said s' u) × (size t ≡ size u)

    abbrev Besides : (t : Tree) (d k : ℕ) → Obeys s d k t → ℕ → ℕ → Type 0
    Besides t d k f d' k' = (row : ℕ) (R R' rest rest' : List ℕ) → drop (words_per_row * row) table ≡ layout t row R ++ rest → Same (row + 1) (row + size t)
        → On (shape_by s d k t f) (Beside t d k f d' k' row R R' rest')

    tree_says : (t u : Tree) (d k d' k' : ℕ) (f : Obeys s d k t) → Obeys s' d' k' u → Besides t d k f d' k' → Says t u
    tree_says t u d k d' k' f f' go row R R' rest rest' h h' e =
        let w = top_same t u row R R' rest rest' h h' (here t row e) in
        let q = same_shape t u row R R' rest rest' h h' d k d' k' f f' w in
        let P : Tree → Type 0 = Beside t d k f d' k' row R R' rest' in
        by_shape_lem s' d' k' P u f' (subst (λ (x : Shape). On x P) q (go row R R' rest rest' h (λ i l g. e i (omega arith) g))) f' h' q w

    mutual
      unfolding layout size said Obeys many shape_by

      -- by t's shape, where the rows behind are the same
      tree_beside : (t : Tree) (d k : ℕ) (f : Obeys s d k t) (d' k' : ℕ) → Besides t d k f d' k'
      tree_beside (leaf o) d k f d' k' row R R' rest rest' h e = λ p f' h' q w. (one-says (top_row (leaf o) row R) (top_row (leaf p) row R') w, refl)
      tree_beside (refer o) d k f d' k' row R R' rest rest' h e =
          λ p f' h' q w.
          let m : ℕ = get_or R o.w0 0 in
          let m' : ℕ = get_or R' p.w0 0 in
          let x : aimed o m ≡ aimed p m' = bare_own (top_row (refer o) row R) (top_row (refer p) row R') w (refer_bare s o f.1 m) in
          let z : o ≡ p = ap (aimed o) f.2 ∙ ap (λ (y : Own). aimed y 0) x ∙ ap (aimed p) (sym f'.2) in
          (ap (λ (y : Own). one y []) z, refl)
      tree_beside (hold o ts) d k f d' k' row R R' rest rest' h e =
          λ p us f' h' q w.
          let g : Holder = f.1.0 in
          let x : o ≡ p = bare_own (top_row (hold o ts) row R) (top_row (hold p us) row R') w (hold_bare s o g f.1.1) in
          let y : f'.1.0 ≡ g = cc in
          let m : many ts ≡ many us = f.1.2 ∙ ap₂ (λ (z : Own) (v : Holder). child_count v z.w0) x (sym y) ∙ sym f'.1.2 in
          let a =
          trees_say ts us (d - 1) k (d' - 1) k' (children_of g) 0 f.1.3 (subst (λ (v : Holder). ObeyAll s' (d' - 1) (children_of v) k' 0 us) y f'.1.3) (row + 1) false R R' rest rest'
          (rest_at table row R rest (hold o ts) h) (rest_at table' row R' rest' (hold p us) h') m (λ i l g. e i l (omega arith)) in
          (ap₂ over x a.0, ap (λ (z : ℕ). 1 + z) a.1)
      tree_beside (declare o es t) d k f d' k' row R R' rest rest' h e =
          λ p us u f' h' q w.
          let A : List ℕ = entries es (row + 1) [] in
          let A' : List ℕ = entries us (row + 1) [] in
          let E : List ℕ = layouts es true (row + 1) [] in
          let E' : List ℕ = layouts us true (row + 1) [] in
          let U : List ℕ = layout t (row + 1 + sizes es) A in
          let U' : List ℕ = layout u (row + 1 + sizes us) A' in
          let v : drop (words_per_row * (row + 1)) table ≡ E ++ (U ++ rest) = rest_at table row R rest (declare o es t) h ∙ append_assoc E U rest in
          let v' : drop (words_per_row * (row + 1)) table' ≡ E' ++ (U' ++ rest') = rest_at table' row R' rest' (declare p us u) h' ∙ append_assoc E' U' rest' in
          let x : o ≡ p = bare_own (top_row (declare o es t) row R) (top_row (declare p us u) row R') w (declare_bare s o f.1) in
          let m : many es ≡ many us = f.2 ∙ ap (λ (z : Own). z.w0) x ∙ sym f'.2 in
          let a = trees_say es us (d - 1) 0 (d' - 1) 0 Entries 0 f.3 f'.3 (row + 1) true [] [] (U ++ rest) (U' ++ rest') v v' m (λ i l g. e i l (omega arith)) in
          let c : ℕ = row + 1 + sizes es in
          let b : drop (words_per_row * c) table ≡ U ++ rest = behind table (row + 1) (sizes es) E (U ++ rest) (length-layouts es true (row + 1) []) v in
          let b' : drop (words_per_row * c) table' ≡ layout u c A' ++ rest' =
          subst (λ (m : ℕ). drop (words_per_row * (row + 1 + m)) table' ≡ layout u (row + 1 + m) A' ++ rest') (sym a.1) (behind table' (row + 1) (sizes us) E' (U' ++ rest') (length-layouts us true (row + 1) []) v') in
          let z = tree_says t u (d - 1) o.w0 (d' - 1) p.w0 f.4 f'.4
          (λ row R R' rest rest' h e. tree_beside t (d - 1) o.w0 f.4 (d' - 1) p.w0 row R R' rest rest' h e) c A A' rest rest' b b' (λ i l g. e i (omega arith) (omega arith)) in
          (ap (λ (y : Own). under y (saids s es) (said s t)) x ∙ ap₂ (under p) a.0 z.0, ap₂ (λ (i j : ℕ). 1 + (i + j)) a.1 z.1)
      tree_beside (foreign o t) d k f d' k' row R R' rest rest' h e =
          λ p u f' h' q w.
          let x : o ≡ p = bare_own (top_row (foreign o t) row R) (top_row (foreign p u) row R') w (foreign_bare s o f.1) in
          let z =
          tree_says t u (d - 1) (in_foreign k) (d' - 1) (in_foreign k') f.2 f'.2
          (λ row R R' rest rest' h e. tree_beside t (d - 1) (in_foreign k) f.2 (d' - 1) (in_foreign k') row R R' rest rest' h e) (row + 1) (in_body R) (in_body R') rest rest'
          (rest_at table row R rest (foreign o t) h) (rest_at table' row R' rest' (foreign p u) h') (λ i l g. e i l (omega arith)) in
          (ap₂ (λ (y : Own) (v : Said). over y (says.more v says.none)) x z.0, ap (λ (y : ℕ). 1 + y) z.1)
      tree_beside (damaged o) d k f d' k' row R R' rest rest' h e = λ p f' h' q w. (one-says (top_row (damaged o) row R) (top_row (damaged p) row R') w, refl)

      trees_say : (ts us : Trees) (d k d' k' : ℕ) (c : Children) (i : ℕ) → ObeyAll s d c k i ts → ObeyAll s' d' c k' i us → (row : ℕ) (grows : Bool) (R R' rest rest' : List ℕ)
          → drop (words_per_row * row) table ≡ layouts ts grows row R ++ rest → drop (words_per_row * row) table' ≡ layouts us grows row R' ++ rest' → many ts ≡ many us → Same row (row + sizes ts)
          → (saids s ts ≡ saids s' us) × (sizes ts ≡ sizes us)
      trees_say none none d k d' k' c i f f' row grows R R' rest rest' h h' m e = (refl, refl)
      trees_say none (more u us) d k d' k' c i f f' row grows R R' rest rest' h h' m e = absurd (omega (arith, m))
      trees_say (more t ts) none d k d' k' c i f f' row grows R R' rest rest' h h' m e = absurd (omega (arith, m))
      trees_say (more t ts) (more u us) d k d' k' c i f f' row grows R R' rest rest' h h' m e =
          let T : List ℕ = layout t row R in
          let T' : List ℕ = layout u row R' in
          let G : List ℕ = grown grows R row in
          let G' : List ℕ = grown grows R' row in
          let L : List ℕ = layouts ts grows (row + size t) G in
          let L' : List ℕ = layouts us grows (row + size u) G' in
          let x : drop (words_per_row * row) table ≡ T ++ (L ++ rest) = h ∙ append_assoc T L rest in
          let x' : drop (words_per_row * row) table' ≡ T' ++ (L' ++ rest') = h' ∙ append_assoc T' L' rest' in
          let a =
          item-says (is_key c i) t u d k d' k'
          (λ f f'. tree_says t u d k d' k' f f' (λ row R R' rest rest' h e. tree_beside t d k f d' k' row R R' rest rest' h e))
          f.0 f'.0 row R R' (L ++ rest) (L' ++ rest') x x' (λ i l g. e i l (omega arith)) in
          let v : drop (words_per_row * (row + size t)) table ≡ L ++ rest = behind table row (size t) T (L ++ rest) (length-layout t row R) x in
          let v' : drop (words_per_row * (row + size t)) table' ≡ layouts us grows (row + size t) G' ++ rest' =
          subst (λ (j : ℕ). drop (words_per_row * (row + j)) table' ≡ layouts us grows (row + j) G' ++ rest') (sym a.1) (behind table' row (size u) T' (L' ++ rest') (length-layout u row R') x') in
          let b = trees_say ts us d _ d' _ c (i + 1) f.1 f'.1 (row + size t) grows G G' rest rest' v v' (omega (arith, m)) (λ i l g. e i (omega arith) (omega arith)) in
          (ap₂ says.more a.0 b.0, ap₂ (λ (i j : ℕ). i + j) a.1 b.1)

-- ---- tables

-- trees that stand in tables that are the same row by row say the same
pub stands_say : (depth depth' : ℕ) (table table' : List ℕ) (n : ℕ) (s s' : List ℕ) (t u : Tree) → Stands depth table n s t → Stands depth' table' n s' u → SameRows table s table' s' n → said s t ≡ said s' u
stands_say depth depth' table table' n s s' t u st st' e =
    let rest : List ℕ = drop (words_per_row * n) table in
    let rest' : List ℕ = drop (words_per_row * n) table' in
    let x = laid_out depth table n s t st in
    let x' = laid_out depth' table' n s' u st' in
    (tree_says s s' table table' t u (suc depth) 0 (suc depth') 0 st.obeys st'.obeys (tree_beside s s' table table' t (suc depth) 0 st.obeys (suc depth') 0) 0 [] [] rest rest' x x' (λ i l g. e i (omega (arith, st.rows)))).0
