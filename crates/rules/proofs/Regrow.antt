-- The layout of a right tree grows to that tree. Assumes nothing.
use mathlib.Core.Path.{◌≡◌, refl, sym, ap, ◌∙◌, subst}
use Prim.Native.Nat.{ℕ, zero, suc, ◌+◌, ◌-◌, ◌*◌, ◌≤◌, ◌<◌}
use native.Mathlib.Omega.{arith}
use native.Mathlib.Nat.{add-zero, zero-add}
use mathlib.Core.Bool.{Bool, true, false, cond}
use mathlib.Core.List.{List, [], ◌++◌, append_assoc}
use lib.ListN.{length, get_or, drop}
use lib.Seq.{drop-drop, drop-append_seam}
use borrow.Author.Tests.{lt-ltb, eq-eqb}
use Rattle.rows.specs.declared.row.Row.{Row}
use Rattle.rows.specs.Table.{words_per_row, words_of, row_at, aimed}
use Rattle.rows.proofs.Rows.{length-words}
use Rattle.format.specs.declared.head.Holder.{Holder}
use Rattle.format.specs.declared.head.Children.{Children}
use Rattle.format.specs.declared.head.Children.TheVariants.{Entries}
use Rattle.format.specs.Tree.{Tree, leaf, refer, hold, declare, foreign, damaged, Trees, none, more, many, size, sizes}
use Rattle.format.specs.Value.{Reading, children_of, is_key}
use Rattle.format.specs.Layout.{is_entry, layout, layouts, grown, entries, in_body}
use Rattle.format.proofs.Layouts.{no_entry, length-layout, length-layouts, length-body, size_pos, own_at, top_row, below, layout_top, top_at}
use Rattle.rules.specs.declared.shape.Shape.{Shape}
use Rattle.rules.specs.declared.shape.Shape.TheVariants.{Leaf, Refer, Hold, Declare, Whole, Damaged}
use Rattle.rules.specs.Shape.{shape_of}
use Rattle.rules.specs.Grow.{Growth, grew, bad, Growths, grew_all, Grower, ends_at, at_front, and_then, pointing, over_children, over_value, over_entries, over_body, judged, grow_key, item, grows, by_shape, grow}
use Rattle.rules.specs.Obeys.{KeyObeys, IfKey, Obeys, ObeyAll}
use Rattle.rules.proofs.Growth.{length-grown, length-entries}
use Rattle.rules.proofs.Says.{aimed_shape}
use Rattle.format.specs.Refusal.{refusal_number}

-- ---- what stands behind some rows

-- n rows from `row` on have the words xs: behind them stands the rest
pub behind : (table : List ℕ) (row n : ℕ) (xs rest : List ℕ) → length xs ≡ words_per_row * n → drop (words_per_row * row) table ≡ xs ++ rest → drop (words_per_row * (row + n)) table ≡ rest
behind table row n xs rest l h =
    let e : words_per_row * (row + n) ≡ words_per_row * row + length xs = omega arith in
    ap (λ (i : ℕ). drop i table) e ∙ sym (drop-drop (length xs) (words_per_row * row) table) ∙ ap (drop (length xs)) h ∙ drop-append_seam xs rest

-- what stands behind a tree's own row
pub rest_at : (table : List ℕ) (row : ℕ) (registry rest : List ℕ) (t : Tree) → drop (words_per_row * row) table ≡ layout t row registry ++ rest
    → drop (words_per_row * (row + 1)) table ≡ below t row registry ++ rest
rest_at table row registry rest t h =
    let w : Row = top_row t row registry in
    behind table row 1 (words_of w) (below t row registry ++ rest) (length-words w)
    (h ∙ ap (λ (x : List ℕ). x ++ rest) (layout_top t row registry) ∙ append_assoc (words_of w) (below t row registry) rest)

ends : (t : Tree) (a e : ℕ) → a ≡ e → ends_at e (grew t a) ≡ grew t a
ends t a e q = rw (eq-eqb a e q)

module _ (table : List ℕ) (n : ℕ) (s : List ℕ) where
  -- a tree's row, by what it says and its shape
  grow_at : (t : Tree) (d row : ℕ) (registry rest : List ℕ) (x : Shape) → 0 < d → row < n → drop (words_per_row * row) table ≡ layout t row registry ++ rest
      → shape_of s (own_at t registry) ≡ x
      → grow table n s d registry row ≡ ends_at (row + size t) (by_shape table n s (grow table n s (d - 1)) (d - 1) registry row (own_at t registry) x)
  unfolding grow
  grow_at t zero row registry rest x h i q e = absurd (omega arith)
  grow_at t (suc d) row registry rest x h i q e =
      let z : suc d - 1 ≡ d = omega arith in
      let w : row_at table row ≡ top_row t row registry = top_at table t row registry rest q in
      rw (lt-ltb row n i, w, e, z)

  key-at : (t : Tree) (row : ℕ) (registry rest : List ℕ) → KeyObeys s t → drop (words_per_row * row) table ≡ layout t row registry ++ rest → row + size t ≤ n
      → grow_key table n s row ≡ grew t (row + size t)
  unfolding size grow_key
  key-at t row registry rest f h b =
      rw (f.is, lt-ltb row n (omega (arith, size_pos t)), top_at table (leaf f.own) row registry rest (rw f.is at h), f.fits, eq-eqb (row + 1) (row + 1) refl)

  item_at : (key : Bool) (t : Tree) (d row : ℕ) (registry rest : List ℕ) → (Obeys s d (length registry) t → grow table n s d registry row ≡ grew t (row + size t))
      → IfKey key (KeyObeys s t) (Obeys s d (length registry) t) → drop (words_per_row * row) table ≡ layout t row registry ++ rest → row + size t ≤ n
      → item table n s key (grow table n s d) registry row ≡ grew t (row + size t)
  unfolding item
  item_at true t d row registry rest g f h b = key-at t row registry rest f h b
  item_at false t d row registry rest g f h b = g f

  mutual
    unfolding layout size Obeys many grows by_shape

    pub regrow : (t : Tree) (d row : ℕ) (registry rest : List ℕ) → Obeys s d (length registry) t → drop (words_per_row * row) table ≡ layout t row registry ++ rest → row + size t ≤ n
        → grow table n s d registry row ≡ grew t (row + size t)
    regrow (leaf o) d row registry rest f h b = grow_at (leaf o) d row registry rest Leaf f.0 (omega arith) h f.1 ∙ ends (leaf o) (row + 1) (row + 1) refl
    regrow (refer o) d row registry rest f h b =
        let e : ℕ = get_or registry o.w0 0 in
        let p : pointing registry row (aimed o e) ≡ grew (refer (aimed o 0)) (row + 1) = rw (lt-ltb o.w0 (length registry) f.3, eq-eqb e e refl) in
        grow_at (refer o) d row registry rest Refer f.0 (omega arith) h (aimed_shape s o e f.1)
        ∙ ap (ends_at (row + 1)) p
        ∙ ends (refer (aimed o 0)) (row + 1) (row + 1) refl
        ∙ ap (λ (z : ℕ). grew (refer (aimed o z)) (row + 1)) (sym f.2)
    regrow (hold o ts) d row registry rest f h b =
        let x : Holder = f.1.0 in
        let G : Grower = grow table n s (d - 1) in
        let past : row + 1 + sizes ts ≡ row + (1 + sizes ts) = omega arith in
        let c =
        regrows ts (d - 1) (children_of x) 0 (row + 1) registry rest f.1.3
        (subst (λ (z : Bool). drop (words_per_row * (row + 1)) table ≡ layouts ts z (row + 1) registry ++ rest) (sym (no_entry x)) (rest_at table row registry rest (hold o ts) h)) (omega arith) in
        grow_at (hold o ts) d row registry rest (Hold x) f.0 (omega arith) h f.1.1
        ∙ ap (λ (z : ℕ). ends_at (row + (1 + sizes ts)) (over_children o (grows table n s G (children_of x) registry 0 z (row + 1)))) (sym f.1.2)
        ∙ ap (λ (y : Growths). ends_at (row + (1 + sizes ts)) (over_children o y)) c
        ∙ ends (hold o ts) (row + 1 + sizes ts) (row + (1 + sizes ts)) past ∙ ap (grew (hold o ts)) past
    regrow (declare o es t) d row registry rest f h b =
        let A : List ℕ = entries es (row + 1) [] in
        let E : List ℕ = layouts es true (row + 1) [] in
        let U : List ℕ = layout t (row + 1 + sizes es) A in
        let G : Grower = grow table n s (d - 1) in
        let v : drop (words_per_row * (row + 1)) table ≡ E ++ (U ++ rest) = rest_at table row registry rest (declare o es t) h ∙ append_assoc E U rest in
        let v' : drop (words_per_row * (row + 1 + sizes es)) table ≡ U ++ rest = behind table (row + 1) (sizes es) E (U ++ rest) (length-layouts es true (row + 1) []) v in
        let c = regrows es (d - 1) Entries 0 (row + 1) [] (U ++ rest) f.3 v (omega arith) in
        let l : length A ≡ o.w0 = length-entries es (row + 1) [] ∙ zero-add (many es) ∙ f.2 in
        let u = regrow t (d - 1) (row + 1 + sizes es) A rest (subst (λ (x : ℕ). Obeys s (d - 1) x t) (sym l) f.4) v' (omega arith) in
        let e : ℕ = row + (1 + (sizes es + size t)) in
        let past : row + 1 + sizes es + size t ≡ e = omega arith in
        grow_at (declare o es t) d row registry rest Declare f.0 (omega arith) h f.1
        ∙ ap (λ (z : ℕ). ends_at e (over_entries G o (row + 1) (grows table n s G Entries [] 0 z (row + 1)))) (sym f.2)
        ∙ ap (λ (y : Growths). ends_at e (over_entries G o (row + 1) y)) c
        ∙ ap (λ (y : Growth). ends_at e (over_value o es y)) u
        ∙ ends (declare o es t) (row + 1 + sizes es + size t) e past ∙ ap (grew (declare o es t)) past
    regrow (foreign o t) d row registry rest f h b =
        let e : ℕ = row + (1 + size t) in
        let past : row + 1 + size t ≡ e = omega arith in
        let u =
        regrow t (d - 1) (row + 1) (in_body registry) rest (subst (λ (x : ℕ). Obeys s (d - 1) x t) (sym (length-body registry)) f.2)
        (rest_at table row registry rest (foreign o t) h) (omega arith) in
        grow_at (foreign o t) d row registry rest Whole f.0 (omega arith) h f.1
        ∙ ap (λ (y : Growth). ends_at e (over_body o y)) u
        ∙ ends (foreign o t) (row + 1 + size t) e past ∙ ap (grew (foreign o t)) past
    regrow (damaged o) d row registry rest f h b =
        grow_at (damaged o) d row registry rest Damaged f.0 (omega arith) h f.1
        ∙ ap (λ (x : Reading). ends_at (row + 1) (judged row o x)) f.2.reads
        ∙ ap (λ (x : Bool). ends_at (row + 1) (cond x (grew (damaged o) (row + 1)) bad)) (eq-eqb o.w2 (refusal_number f.2.why) f.2.verdict)
        ∙ ends (damaged o) (row + 1) (row + 1) refl

    pub regrows : (ts : Trees) (d : ℕ) (c : Children) (i row : ℕ) (registry rest : List ℕ) → ObeyAll s d c (length registry) i ts
        → drop (words_per_row * row) table ≡ layouts ts (is_entry c) row registry ++ rest → row + sizes ts ≤ n
        → grows table n s (grow table n s d) c registry i (many ts) row ≡ grew_all ts (row + sizes ts)
    regrows none d c i row registry rest f h b = ap (grew_all none) (sym (add-zero row))
    regrows (more t ts) d c i row registry rest f h b =
        let R : List ℕ = grown (is_entry c) registry row in
        let T : List ℕ = layout t row registry in
        let L : List ℕ = layouts ts (is_entry c) (row + size t) R in
        let u : drop (words_per_row * row) table ≡ T ++ (L ++ rest) = h ∙ append_assoc T L rest in
        let v : drop (words_per_row * (row + size t)) table ≡ L ++ rest = behind table row (size t) T (L ++ rest) (length-layout t row registry) u in
        let a = item_at (is_key c i) t d row registry (L ++ rest) (λ q. regrow t d row registry (L ++ rest) q u (omega arith)) f.0 u (omega arith) in
        let o = regrows ts d c (i + 1) (row + size t) R rest (subst (λ (x : ℕ). ObeyAll s d c x (i + 1) ts) (sym (length-grown (is_entry c) registry row)) f.1) v (omega arith) in
        let past : row + size t + sizes ts ≡ row + (size t + sizes ts) = omega arith in
        ap (λ (p : Growth). and_then p (λ next. grows table n s (grow table n s d) c R (i + 1) (many ts) next)) a
        ∙ ap (at_front t) o ∙ ap (grew_all (more t ts)) past
