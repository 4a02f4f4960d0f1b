-- The tree of a table of 32-bit numbers may be written: its numbers fit a row, and counts are within the limit. By induction on the tree.
-- Assumes nothing.
use mathlib.Core.Path.{◌≡◌, refl, ◌∙◌, subst}
use mathlib.Core.Bool.{Bool, true, false}
use mathlib.Core.List.{List, [], ◌++◌, append_assoc}
use Prim.Native.Nat.{ℕ, suc, ◌+◌, ◌-◌, ◌*◌, ◌^◌, ◌≤◌, ◌<◌}
use native.Mathlib.Omega.{arith}
use lib.ListN.{get_or, drop}
use Rattle.wide.proofs.Ranks.{apart}
use Rattle.rows.specs.declared.row.Row.{Row}
use Rattle.rows.specs.Table.{words_per_row, own_of, row_at, limit}
use Rattle.format.specs.declared.head.Holder.{Holder}
use Rattle.format.specs.declared.head.Holder.TheVariants.{Array, Record, Map}
use Rattle.format.specs.declared.head.Children.{Children}
use Rattle.format.specs.declared.head.Children.TheVariants.{Entries}
use Rattle.format.specs.Tree.{Tree, leaf, refer, hold, declare, foreign, damaged, Trees, none, more, many, size, sizes}
use Rattle.format.specs.Value.{child_count, children_of, in_foreign, is_key}
use Rattle.format.specs.Layout.{is_entry, layout, layouts, grown, entries, in_body}
use Rattle.format.proofs.Layouts.{no_entry, in_foreign-few, length-layout, length-layouts, top_at, sizes-many}
use Rattle.rules.specs.Obeys.{KeyObeys, IfKey, after, Obeys, ObeyAll}
use Rattle.rules.proofs.Regrow.{behind, rest_at}
use Rattle.encode.proofs.Worded.{Fit, Worded, Wordeds}

-- ---- counts

count_holder : (h : Holder) (count n : ℕ) → n ≡ child_count h count → count ≤ n
count_holder Array count n e = omega arith
count_holder Record count n e = omega arith
count_holder Map count n e = omega arith

-- ---- entries in force

after-few : (b : Bool) (k m : ℕ) → k ≤ limit → (b ≡ true → k + suc m ≤ limit) → after b k ≤ limit
after-few true k m l f = omega (arith, f refl)
after-few false k m l f = l

after-left : (b : Bool) (k m : ℕ) → (b ≡ true → k + suc m ≤ limit) → b ≡ true → after b k + m ≤ limit
after-left true k m f e = omega (arith, f refl)
after-left false k m f e = absurd (let z : ◌≡◌ {A = ℕ} 0 1 = cc in omega arith)

-- ---- trees

module _ (table s : List ℕ) (n : ℕ) (few : n ≤ limit) (fit : (i : ℕ) → get_or table i 0 < 2 ^ 32) where
  row_fits : (row : ℕ) → Fit (own_of (row_at table row))
  unfolding row_at
  row_fits row = record { kind_fits = fit _; w0-fits = fit _; w1-fits = fit _; w2-fits = fit _; w3-fits = fit _ }

  key_worded : (t : Tree) (row : ℕ) (registry rest : List ℕ) → KeyObeys s t → drop (words_per_row * row) table ≡ layout t row registry ++ rest → Worded t
  key_worded t row registry rest f h = rw f.is (subst (λ (w : Row). Fit (own_of w)) (top_at table (leaf f.own) row registry rest (rw f.is at h)) (row_fits row))

  item_worded : (b : Bool) (t : Tree) (d k row : ℕ) (registry rest : List ℕ) → (Obeys s d k t → Worded t) → IfKey b (KeyObeys s t) (Obeys s d k t)
      → drop (words_per_row * row) table ≡ layout t row registry ++ rest → Worded t
  item_worded true t d k row registry rest g f h = key_worded t row registry rest f h
  item_worded false t d k row registry rest g f h = g f

  mutual
    unfolding layout size Obeys many

    pub tree_worded : (t : Tree) (d k row : ℕ) (registry rest : List ℕ) → k ≤ limit → Obeys s d k t → drop (words_per_row * row) table ≡ layout t row registry ++ rest → row + size t ≤ n → Worded t
    tree_worded (leaf o) d k row registry rest l f h b = subst (λ (w : Row). Fit (own_of w)) (top_at table (leaf o) row registry rest h) (row_fits row)
    tree_worded (refer o) d k row registry rest l f h b = omega (arith, f.3)
    tree_worded (hold o ts) d k row registry rest l f h b =
        let x : Holder = f.1.0 in (
          omega (arith, count_holder x o.w0 (many ts) f.1.2, sizes-many ts),
          trees_worded ts (d - 1) (children_of x) k 0 (row + 1) false registry rest l
              (λ e. apart (is_entry (children_of x)) e (no_entry x)) f.1.3 (rest_at table row registry rest (hold o ts) h) (omega arith),
        )
    tree_worded (declare o es t) d k row registry rest l f h b =
        let A : List ℕ = entries es (row + 1) [] in
        let E : List ℕ = layouts es true (row + 1) [] in
        let U : List ℕ = layout t (row + 1 + sizes es) A in
        let v : drop (words_per_row * (row + 1)) table ≡ E ++ (U ++ rest) = rest_at table row registry rest (declare o es t) h ∙ append_assoc E U rest in
        let v' : drop (words_per_row * (row + 1 + sizes es)) table ≡ U ++ rest = behind table (row + 1) (sizes es) E (U ++ rest) (length-layouts es true (row + 1) []) v in
        let m : o.w0 ≤ sizes es = omega (arith, f.2, sizes-many es) in (
          omega arith,
          trees_worded es (d - 1) Entries 0 0 (row + 1) true [] (U ++ rest) (omega arith) (λ _. omega (arith, f.2)) f.3 v (omega arith),
          tree_worded t (d - 1) o.w0 (row + 1 + sizes es) A rest (omega arith) f.4 v' (omega arith),
        )
    tree_worded (foreign o t) d k row registry rest l f h b =
        tree_worded t (d - 1) (in_foreign k) (row + 1) (in_body registry) rest (omega (arith, in_foreign-few k)) f.2 (rest_at table row registry rest (foreign o t) h) (omega arith)
    tree_worded (damaged o) d k row registry rest l f h b = tt

    trees_worded : (ts : Trees) (d : ℕ) (c : Children) (k i row : ℕ) (grows : Bool) (registry rest : List ℕ) → k ≤ limit → (is_entry c ≡ true → k + many ts ≤ limit) → ObeyAll s d c k i ts
        → drop (words_per_row * row) table ≡ layouts ts grows row registry ++ rest → row + sizes ts ≤ n → Wordeds ts
    trees_worded none d c k i row grows registry rest l g f h b = tt
    trees_worded (more t ts) d c k i row grows registry rest l g f h b =
        let T : List ℕ = layout t row registry in
        let R : List ℕ = grown grows registry row in
        let L : List ℕ = layouts ts grows (row + size t) R in
        let u : drop (words_per_row * row) table ≡ T ++ (L ++ rest) = h ∙ append_assoc T L rest in
        let v : drop (words_per_row * (row + size t)) table ≡ L ++ rest = behind table row (size t) T (L ++ rest) (length-layout t row registry) u in (
          item_worded (is_key c i) t d k row registry (L ++ rest) (λ q. tree_worded t d k row registry (L ++ rest) l q u (omega arith)) f.0 u,
          trees_worded ts d c (after (is_entry c) k) (i + 1) (row + size t) grows R rest (after-few (is_entry c) k (many ts) l g) (after-left (is_entry c) k (many ts) g) f.1 v (omega arith),
        )
