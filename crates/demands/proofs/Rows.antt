-- A right tree with new places that says the same has the same rows, places aside, and the same payload bytes. By induction on the tree. Assumes
-- nothing.
use mathlib.Core.Path.{◌≡◌, refl, sym, ap, ap₂, ◌∙◌, subst}
use mathlib.Core.Bool.{Bool, true, false}
use mathlib.Core.List.{List, [], ◌∷◌, ◌++◌, append_assoc}
use Prim.Native.Nat.{ℕ, ◌+◌, ◌-◌, ◌*◌, ◌≤◌, ◌<◌}
use native.Mathlib.Omega.{arith}
use lib.ListN.{length, get_or, drop}
use Rattle.wide.proofs.Numbers.{either}
use Rattle.rows.specs.declared.row.Row.{Row}
use Rattle.rows.specs.Table.{words_per_row, Own, row_of, row_at, aimed}
use Rattle.format.specs.declared.head.Children.{Children}
use Rattle.format.specs.declared.head.Children.TheVariants.{Entries}
use Rattle.format.specs.Tree.{Tree, leaf, refer, hold, declare, foreign, damaged, Trees, none, more, size, sizes}
use Rattle.format.specs.Value.{children_of, in_foreign, is_key}
use Rattle.format.specs.Layout.{layout, layouts, grown, entries, in_body}
use Rattle.format.proofs.Layouts.{length-layout, length-layouts, top_row, top_at}
use Rattle.rules.specs.Obeys.{KeyObeys, IfKey, Obeys, ObeyAll}
use Rattle.rules.proofs.Regrow.{behind, rest_at}
use Rattle.encode.specs.Encode.{head_of, payload_of, moved, encode, encodes}
use Rattle.encode.proofs.Placed.{placed, placeds}
use Rattle.encode.proofs.Said.{one, said, saids}
use Rattle.encode.proofs.Places.{moved-again}
use Rattle.writer.proofs.Trees.{Bare, hold_bare, declare_bare, foreign_bare, refer_bare}
use Rattle.demands.specs.Alike.{SameRow}

-- ---- new places, the same number of rows

mutual
  unfolding size placed

  pub placed_size : (s : List ℕ) (t : Tree) (at : ℕ) → size (placed s t at) ≡ size t
  placed_size s (leaf o) at = refl
  placed_size s (refer o) at = refl
  placed_size s (hold o ts) at = ap (λ (x : ℕ). 1 + x) (placeds_size s ts _)
  placed_size s (declare o es t) at = ap₂ (λ (x y : ℕ). 1 + (x + y)) (placeds_size s es _) (placed_size s t _)
  placed_size s (foreign o t) at = ap (λ (x : ℕ). 1 + x) (placed_size s t _)
  placed_size s (damaged o) at = refl

  pub placeds_size : (s : List ℕ) (ts : Trees) (at : ℕ) → sizes (placeds s ts at) ≡ sizes ts
  placeds_size s none at = refl
  placeds_size s (more t ts) at = ap₂ (λ (x y : ℕ). x + y) (placed_size s t at) (placeds_size s ts _)

entries_placed : (s : List ℕ) (es : Trees) (at row : ℕ) (registry : List ℕ) → entries (placeds s es at) row registry ≡ entries es row registry
unfolding entries placed
entries_placed s none at row registry = refl
entries_placed s (more e es) at row registry =
    ap (λ (x : ℕ). entries (placeds s es (at + length (encode s e))) (row + x) (registry ++ (row ∷ []))) (placed_size s e at) ∙ entries_placed s es (at + length (encode s e)) (row + size e) (registry ++ (row ∷ []))

-- ---- a row

module _ (s s' : List ℕ) where
  -- without bytes of the data
  bare_same : (o : Own) → Bare o → (end end' : ℕ) → end ≡ end' → SameRow s (row_of o end) s' (row_of o end')
  bare_same o b end end' e =
      record { end = e; own = refl; bytes = rw b }

  -- with them, at another place
  one_same : (o : Own) (end place : ℕ) → one (moved (moved o place) 0) (payload_of s' (moved o place)) ≡ one (moved o 0) (payload_of s o) → SameRow s (row_of o end) s' (row_of (moved o place) end)
  one_same o end place q = record { end = refl; own = sym (moved-again o place 0); bytes = cc }

  -- ---- trees in two tables

  module _ (table table' : List ℕ) where
    abbrev Same : ℕ → ℕ → Type 0
    Same row stop = (i : ℕ) → row ≤ i → i < stop → SameRow s (row_at table i) s' (row_at table' i)

    both : (row mid stop : ℕ) → Same row mid → Same mid stop → Same row stop
    both row mid stop f g i l u = either mid i (λ k. g i k u) (λ k. f i l k)

    -- a tree's own row, and those of its children
    top_same : (t t' : Tree) (row : ℕ) (registry rest rest' : List ℕ) → drop (words_per_row * row) table ≡ layout t row registry ++ rest
        → drop (words_per_row * row) table' ≡ layout t' row registry ++ rest' → SameRow s (top_row t row registry) s' (top_row t' row registry) → Same (row + 1) (row + size t) → Same row (row + size t)
    top_same t t' row registry rest rest' h h' e f i l u =
        either (row + 1) i (λ k. f i k u)
        (λ k.
        let q : row ≡ i = omega arith in
        subst (λ (j : ℕ). SameRow s (row_at table j) s' (row_at table' j)) q
        (subst (λ (v : Row). SameRow s v s' (row_at table' row)) (sym (top_at table t row registry rest h)) (subst (SameRow s (top_row t row registry) s') (sym (top_at table' t' row registry rest' h')) e)))

    none_left : (row : ℕ) → Same (row + 1) (row + 1)
    none_left row i l u = absurd (omega arith)

    abbrev TreeSame : Tree → Type 0
    TreeSame t = (at row : ℕ) (registry rest rest' : List ℕ) → said s' (placed s t at) ≡ said s t → drop (words_per_row * row) table ≡ layout t row registry ++ rest
        → drop (words_per_row * row) table' ≡ layout (placed s t at) row registry ++ rest' → Same row (row + size t)

    leaf_same : (o : Own) → TreeSame (leaf o)
    unfolding size placed said
    leaf_same o at row registry rest rest' q h h' = top_same (leaf o) (leaf (moved o (at + length (head_of o 0)))) row registry rest rest' h h' (one_same o (row + 1) (at + length (head_of o 0)) q) (none_left row)

    key_same : (t : Tree) → KeyObeys s t → TreeSame t
    unfolding size placed said
    key_same t f = rw f.is (leaf_same f.own)

    item_same : (b : Bool) (t : Tree) (d k : ℕ) → (Obeys s d k t → TreeSame t) → IfKey b (KeyObeys s t) (Obeys s d k t) → TreeSame t
    item_same true t d k g f = key_same t f
    item_same false t d k g f = g f

    mutual
      unfolding layout size placed said Obeys

      pub tree_same : (t : Tree) (d k : ℕ) → Obeys s d k t → TreeSame t
      tree_same (leaf o) d k f at row registry rest rest' q h h' = leaf_same o at row registry rest rest' q h h'
      tree_same (refer o) d k f at row registry rest rest' q h h' =
          let e : ℕ = get_or registry o.w0 0 in
          top_same (refer o) (refer o) row registry rest rest' h h' (bare_same (aimed o e) (refer_bare s o f.1 e) (row + 1) (row + 1) refl) (none_left row)
      tree_same (hold o ts) d k f at row registry rest rest' q h h' =
          let p : ℕ = at + length (head_of o (length (encodes s ts))) in
          let e : row + 1 + sizes ts ≡ row + (1 + sizes ts) = omega arith in
          let c : saids s' (placeds s ts p) ≡ saids s ts = cc in
          top_same (hold o ts) (hold o (placeds s ts p)) row registry rest rest' h h'
          (bare_same o (hold_bare s o f.1.0 f.1.1) _ _ (ap (λ (x : ℕ). row + (1 + x)) (sym (placeds_size s ts p))))
          (subst (Same (row + 1)) e
          (trees_same ts (d - 1) (children_of f.1.0) k 0 f.1.3 p (row + 1) false registry rest rest' c (rest_at table row registry rest (hold o ts) h) (rest_at table' row registry rest' (hold o (placeds s ts p)) h')))
      tree_same (declare o es t) d k f at row registry rest rest' q h h' =
          let p : ℕ = at + length (head_of o (length (encodes s es ++ encode s t))) in
          let p' : ℕ = p + length (encodes s es) in
          let es' : Trees = placeds s es p in
          let t' : Tree = placed s t p' in
          let A : List ℕ = entries es (row + 1) [] in
          let A' : List ℕ = entries es' (row + 1) [] in
          let E : List ℕ = layouts es true (row + 1) [] in
          let E' : List ℕ = layouts es' true (row + 1) [] in
          let U : List ℕ = layout t (row + 1 + sizes es) A in
          let U' : List ℕ = layout t' (row + 1 + sizes es') A' in
          let z : sizes es' ≡ sizes es = placeds_size s es p in
          let z' : size t' ≡ size t = placed_size s t p' in
          let v : drop (words_per_row * (row + 1)) table ≡ E ++ (U ++ rest) = rest_at table row registry rest (declare o es t) h ∙ append_assoc E U rest in
          let v' : drop (words_per_row * (row + 1)) table' ≡ E' ++ (U' ++ rest') = rest_at table' row registry rest' (declare o es' t') h' ∙ append_assoc E' U' rest' in
          let x : drop (words_per_row * (row + 1 + sizes es)) table ≡ U ++ rest = behind table (row + 1) (sizes es) E (U ++ rest) (length-layouts es true (row + 1) []) v in
          let x' : drop (words_per_row * (row + 1 + sizes es')) table' ≡ U' ++ rest' = behind table' (row + 1) (sizes es') E' (U' ++ rest') (length-layouts es' true (row + 1) []) v' in
          let y' : drop (words_per_row * (row + 1 + sizes es)) table' ≡ layout t' (row + 1 + sizes es) A ++ rest' =
          subst (λ (m : ℕ). drop (words_per_row * (row + 1 + m)) table' ≡ layout t' (row + 1 + m) A ++ rest') z (x' ∙ ap (λ (l : List ℕ). layout t' (row + 1 + sizes es') l ++ rest') (entries_placed s es p (row + 1) [])) in
          let a : saids s' es' ≡ saids s es = cc in
          let b : said s' t' ≡ said s t = cc in
          let e : row + 1 + sizes es + size t ≡ row + (1 + (sizes es + size t)) = omega arith in
          top_same (declare o es t) (declare o es' t') row registry rest rest' h h'
          (bare_same o (declare_bare s o f.1) _ _ (ap₂ (λ (i j : ℕ). row + (1 + (i + j))) (sym z) (sym z')))
          (subst (Same (row + 1)) e
          (both (row + 1) (row + 1 + sizes es) (row + 1 + sizes es + size t)
          (trees_same es (d - 1) Entries 0 0 f.3 p (row + 1) true [] (U ++ rest) (U' ++ rest') a v v') (tree_same t (d - 1) o.w0 f.4 p' (row + 1 + sizes es) A rest rest' b x y')))
      tree_same (foreign o t) d k f at row registry rest rest' q h h' =
          let p : ℕ = at + length (head_of o (length (encode s t))) in
          let e : row + 1 + size t ≡ row + (1 + size t) = omega arith in
          let c : said s' (placed s t p) ≡ said s t = cc in
          top_same (foreign o t) (foreign o (placed s t p)) row registry rest rest' h h'
          (bare_same o (foreign_bare s o f.1) _ _ (ap (λ (x : ℕ). row + (1 + x)) (sym (placed_size s t p))))
          (subst (Same (row + 1)) e
          (tree_same t (d - 1) (in_foreign k) f.2 p (row + 1) (in_body registry) rest rest' c (rest_at table row registry rest (foreign o t) h) (rest_at table' row registry rest' (foreign o (placed s t p)) h')))
      tree_same (damaged o) d k f at row registry rest rest' q h h' = top_same (damaged o) (damaged (moved o (at + length (head_of o 0)))) row registry rest rest' h h' (one_same o (row + 1) (at + length (head_of o 0)) q) (none_left row)

      trees_same : (ts : Trees) (d : ℕ) (c : Children) (k i : ℕ) → ObeyAll s d c k i ts → (at row : ℕ) (grows : Bool) (registry rest rest' : List ℕ) → saids s' (placeds s ts at) ≡ saids s ts
          → drop (words_per_row * row) table ≡ layouts ts grows row registry ++ rest → drop (words_per_row * row) table' ≡ layouts (placeds s ts at) grows row registry ++ rest' → Same row (row + sizes ts)
      trees_same none d c k i f at row grows registry rest rest' q h h' = λ i l u. absurd (omega arith)
      trees_same (more t ts) d c k i f at row grows registry rest rest' q h h' =
          let t' : Tree = placed s t at in
          let p : ℕ = at + length (encode s t) in
          let ts' : Trees = placeds s ts p in
          let R : List ℕ = grown grows registry row in
          let T : List ℕ = layout t row registry in
          let T' : List ℕ = layout t' row registry in
          let L : List ℕ = layouts ts grows (row + size t) R in
          let L' : List ℕ = layouts ts' grows (row + size t') R in
          let z : size t' ≡ size t = placed_size s t at in
          let u : drop (words_per_row * row) table ≡ T ++ (L ++ rest) = h ∙ append_assoc T L rest in
          let u' : drop (words_per_row * row) table' ≡ T' ++ (L' ++ rest') = h' ∙ append_assoc T' L' rest' in
          let v : drop (words_per_row * (row + size t)) table ≡ L ++ rest = behind table row (size t) T (L ++ rest) (length-layout t row registry) u in
          let v' : drop (words_per_row * (row + size t)) table' ≡ layouts ts' grows (row + size t) R ++ rest' =
          subst (λ (m : ℕ). drop (words_per_row * (row + m)) table' ≡ layouts ts' grows (row + m) R ++ rest') z (behind table' row (size t') T' (L' ++ rest') (length-layout t' row registry) u') in
          let a : said s' t' ≡ said s t = cc in
          let b : saids s' ts' ≡ saids s ts = cc in
          let e : row + size t + sizes ts ≡ row + (size t + sizes ts) = omega arith in
          subst (Same row) e
          (both row (row + size t) (row + size t + sizes ts)
          (item_same (is_key c i) t d k (λ g at row registry rest rest' q h h'. tree_same t d k g at row registry rest rest' q h h') f.0 at row registry (L ++ rest) (L' ++ rest') a u u')
          (trees_same ts d c _ (i + 1) f.1 p (row + size t) grows R rest rest' b v v'))
