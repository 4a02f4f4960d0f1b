-- The rows of a right tree spell its bytes. By induction on the tree. Assumes nothing.
use mathlib.Core.Path.{◌≡◌, refl, sym, ap, ◌∙◌, subst}
use mathlib.Core.Bool.{Bool, true, false, cond}
use mathlib.Core.List.{List, [], ◌++◌, append-nil, append_assoc}
use Prim.Native.Nat.{ℕ, ◌+◌, ◌-◌, ◌*◌, ◌<◌}
use native.Mathlib.Nat.{add-zero}
use native.Mathlib.Omega.{arith}
use lib.ListN.{length, get_or, take, drop}
use Rattle.wide.proofs.Ranks.{apart}
use Rattle.rows.specs.declared.row.Row.{Row}
use Rattle.rows.specs.Table.{words_per_row, Own, own_of, row_at, aimed}
use Rattle.rows.specs.Kinds.{holder_own, reference_own}
use Rattle.format.specs.declared.head.Holder.{Holder}
use Rattle.format.specs.declared.head.Holder.TheVariants.{Array, Record, Map}
use Rattle.format.specs.declared.head.Children.{Children}
use Rattle.format.specs.declared.head.Children.TheVariants.{Entries}
use Rattle.format.specs.Tree.{Tree, leaf, refer, hold, declare, foreign, damaged, Trees, size, sizes}
use Rattle.format.specs.Tree as trees
use Rattle.format.specs.Value.{kind_of, children_of, in_foreign, is_key}
use Rattle.format.specs.Layout.{layout, layouts, grown, entries, in_body}
use Rattle.format.proofs.Layouts.{length-layout, length-layouts, top_row, top_at, size_pos}
use Rattle.rules.specs.declared.shape.Shape.TheVariants as shape
use Rattle.rules.specs.Shape.{named, shape_of}
use Rattle.rules.specs.Obeys.{KeyObeys, IfKey, Obeys, ObeyAll}
use Rattle.rules.proofs.Says.{key_inside, refer-own, hold-own, declare-own, foreign-own, damaged-inside}
use Rattle.rules.proofs.Regrow.{behind, rest_at}
use Rattle.encode.specs.Encode.{head_of, has_bytes, encode, encodes}
use Rattle.encode.proofs.Again.{reference_head}
use Rattle.encode.proofs.Alike.{leaf-inside}
use Rattle.plan.specs.Inner.{own_head}
use Rattle.spell.specs.Inner.{Inside, own_bytes}
use Rattle.writer.specs.Inner.{Spells, none, next}
use Rattle.writer.proofs.Spelling.{spells-append}

-- ---- rows without bytes of the data

abbrev pub Bare : Own → Type 0
Bare o = has_bytes (named o) ≡ false

holder_bare : (h : Holder) (n : ℕ) → Bare (holder_own (kind_of h) n)
unfolding named
holder_bare Array n = refl
holder_bare Record n = refl
holder_bare Map n = refl

reference_bare : (number entry : ℕ) → Bare (reference_own number entry)
unfolding named
reference_bare number entry = refl

module _ (s : List ℕ) (o : Own) where
  pub hold_bare : (h : Holder) → shape_of s o ≡ shape.Hold h → Bare o
  hold_bare h e = subst Bare (sym (hold-own s o h e)) (holder_bare h o.w0)

  pub declare_bare : shape_of s o ≡ shape.Declare → Bare o
  unfolding named
  declare_bare e = ap (λ (p : Own). has_bytes (named p)) (declare-own s o e)

  pub foreign_bare : shape_of s o ≡ shape.Whole → Bare o
  unfolding named
  foreign_bare e = ap (λ (p : Own). has_bytes (named p)) (foreign-own s o e)

  module _ (e : shape_of s o ≡ shape.Refer) (entry : ℕ) where
    pub refer_bare : Bare (aimed o entry)
    refer_bare = subst (λ (p : Own). Bare (aimed p entry)) (sym (refer-own s o e)) (reference_bare o.w0 entry)

    -- where its entry stands is not written
    refer-head : head_of (aimed o entry) 0 ≡ head_of o 0
    refer-head =
        ap (λ (p : Own). head_of (aimed p entry) 0) (refer-own s o e) ∙ reference_head o.w0 entry 0
        ∙ sym (ap (λ (p : Own). head_of p 0) (refer-own s o e) ∙ reference_head o.w0 o.w1 0)

module _ (s : List ℕ) (w : Row) (bare : Bare (own_of w)) where
  bare_inside : Inside s w
  unfolding Inside
  bare_inside t = apart (has_bytes (named (own_of w))) t bare

  bare_bytes : (n : ℕ) → own_bytes s w n ≡ own_head w n
  unfolding own_bytes
  bare_bytes n = ap (λ (b : Bool). own_head w n ++ cond b (take w.w1 (drop w.w0 s)) []) bare ∙ append-nil (own_head w n)

module _ (table s : List ℕ) where
  -- ---- a row over its children

  row-spells : (row : ℕ) (w : Row) (body bytes : List ℕ) → row_at table row ≡ w → row < w.end → Inside s w → Spells table s (row + 1) w.end body → bytes ≡ own_bytes s w (length body) ++ body
      → Spells table s row w.end bytes
  row-spells row w body bytes e =
      subst (λ (v : Row). row < v.end → Inside s v → Spells table s (row + 1) v.end body → bytes ≡ own_bytes s v (length body) ++ body → Spells table s row v.end bytes) e
      (λ up i c q.
      next row _ bytes body [] up (omega arith) i c (none _ _ [] refl refl) (q ∙ ap (λ (l : List ℕ). own_bytes s (row_at table row) (length body) ++ l) (sym (append-nil body))))

  module _ (t : Tree) (row : ℕ) (registry rest : List ℕ) (h : drop (words_per_row * row) table ≡ layout t row registry ++ rest) where
    abbrev w : Row
    w = top_row t row registry

    -- a tree of one row
    one-spells : size t ≡ 1 → Inside s w → (bytes : List ℕ) → bytes ≡ own_bytes s w 0 → Spells table s row (row + size t) bytes
    one-spells z i bytes q =
        row-spells row w [] bytes (top_at table t row registry rest h) (omega (arith, z)) i (none (row + 1) (row + size t) [] (omega (arith, z)) refl) (q ∙ sym (append-nil (own_bytes s w 0)))

    -- a row without bytes of the data, over what its children spell
    over-spells : Bare (own_of w) → (body : List ℕ) → Spells table s (row + 1) (row + size t) body → Spells table s row (row + size t) (own_head w (length body) ++ body)
    over-spells bare body c =
        row-spells row w body (own_head w (length body) ++ body) (top_at table t row registry rest h) (omega (arith, size_pos t)) (bare_inside s w bare) c
        (ap (λ (l : List ℕ). l ++ body) (sym (bare_bytes s w bare (length body))))

  -- ---- trees

  key_spells : (t : Tree) (row : ℕ) (registry rest : List ℕ) → KeyObeys s t → drop (words_per_row * row) table ≡ layout t row registry ++ rest → Spells table s row (row + size t) (encode s t)
  unfolding encode size Inside own_bytes own_head
  key_spells t row registry rest f h = rw f.is (one-spells (leaf f.own) row registry rest (rw f.is at h) refl (λ _. key_inside s f.own f.fits) _ refl)

  item-spells : (b : Bool) (t : Tree) (d k row : ℕ) (registry rest : List ℕ) → (Obeys s d k t → Spells table s row (row + size t) (encode s t)) → IfKey b (KeyObeys s t) (Obeys s d k t)
      → drop (words_per_row * row) table ≡ layout t row registry ++ rest → Spells table s row (row + size t) (encode s t)
  item-spells true t d k row registry rest g f h = key_spells t row registry rest f h
  item-spells false t d k row registry rest g f h = g f

  mutual
    unfolding layout size Obeys encode Inside own_bytes own_head

    pub tree_spells : (t : Tree) (d k row : ℕ) (registry rest : List ℕ) → Obeys s d k t → drop (words_per_row * row) table ≡ layout t row registry ++ rest → Spells table s row (row + size t) (encode s t)
    tree_spells (leaf o) d k row registry rest f h = one-spells (leaf o) row registry rest h refl (leaf-inside s o f.1) _ refl
    tree_spells (refer o) d k row registry rest f h =
        let e : ℕ = get_or registry o.w0 0 in
        let v : Row = top_row (refer o) row registry in
        one-spells (refer o) row registry rest h refl (bare_inside s v (refer_bare s o f.1 e)) (head_of o 0)
        (sym (refer-head s o f.1 e) ∙ sym (bare_bytes s v (refer_bare s o f.1 e) 0))
    tree_spells (hold o ts) d k row registry rest f h =
        let e : row + 1 + sizes ts ≡ row + (1 + sizes ts) = omega arith in
        over-spells (hold o ts) row registry rest h (hold_bare s o f.1.0 f.1.1) (encodes s ts)
        (subst (λ (x : ℕ). Spells table s (row + 1) x (encodes s ts)) e
        (trees_spell ts (d - 1) (children_of f.1.0) k 0 (row + 1) false registry rest f.1.3 (rest_at table row registry rest (hold o ts) h)))
    tree_spells (declare o es t) d k row registry rest f h =
        let A : List ℕ = entries es (row + 1) [] in
        let E : List ℕ = layouts es true (row + 1) [] in
        let U : List ℕ = layout t (row + 1 + sizes es) A in
        let v : drop (words_per_row * (row + 1)) table ≡ E ++ (U ++ rest) = rest_at table row registry rest (declare o es t) h ∙ append_assoc E U rest in
        let v' : drop (words_per_row * (row + 1 + sizes es)) table ≡ U ++ rest = behind table (row + 1) (sizes es) E (U ++ rest) (length-layouts es true (row + 1) []) v in
        let e : row + 1 + sizes es + size t ≡ row + (1 + (sizes es + size t)) = omega arith in
        let a = trees_spell es (d - 1) Entries 0 0 (row + 1) true [] (U ++ rest) f.3 v in
        let b = tree_spells t (d - 1) o.w0 (row + 1 + sizes es) A rest f.4 v' in
        over-spells (declare o es t) row registry rest h (declare_bare s o f.1) (encodes s es ++ encode s t)
        (subst (λ (x : ℕ). Spells table s (row + 1) x (encodes s es ++ encode s t)) e
        (spells-append table s (row + 1) (row + 1 + sizes es) (row + 1 + sizes es + size t) (encodes s es) (encode s t) (omega arith) a b))
    tree_spells (foreign o t) d k row registry rest f h =
        let e : row + 1 + size t ≡ row + (1 + size t) = omega arith in
        over-spells (foreign o t) row registry rest h (foreign_bare s o f.1) (encode s t)
        (subst (λ (x : ℕ). Spells table s (row + 1) x (encode s t)) e
        (tree_spells t (d - 1) (in_foreign k) (row + 1) (in_body registry) rest f.2 (rest_at table row registry rest (foreign o t) h)))
    tree_spells (damaged o) d k row registry rest f h = one-spells (damaged o) row registry rest h refl (λ _. damaged-inside s o f.1) _ refl

    pub trees_spell : (ts : Trees) (d : ℕ) (c : Children) (k i row : ℕ) (grows : Bool) (registry rest : List ℕ) → ObeyAll s d c k i ts
        → drop (words_per_row * row) table ≡ layouts ts grows row registry ++ rest → Spells table s row (row + sizes ts) (encodes s ts)
    trees_spell trees.none d c k i row grows registry rest f h = none row (row + 0) [] (sym (add-zero row)) refl
    trees_spell (trees.more t ts) d c k i row grows registry rest f h =
        let T : List ℕ = layout t row registry in
        let R : List ℕ = grown grows registry row in
        let L : List ℕ = layouts ts grows (row + size t) R in
        let u : drop (words_per_row * row) table ≡ T ++ (L ++ rest) = h ∙ append_assoc T L rest in
        let v : drop (words_per_row * (row + size t)) table ≡ L ++ rest = behind table row (size t) T (L ++ rest) (length-layout t row registry) u in
        let a = item-spells (is_key c i) t d k row registry (L ++ rest) (λ q. tree_spells t d k row registry (L ++ rest) q u) f.0 u in
        let b = trees_spell ts d c _ (i + 1) (row + size t) grows R rest f.1 v in
        let e : row + size t + sizes ts ≡ row + (size t + sizes ts) = omega arith in
        subst (λ (x : ℕ). Spells table s row x (encode s t ++ encodes s ts)) e
        (spells-append table s row (row + size t) (row + size t + sizes ts) (encode s t) (encodes s ts) (omega arith) a b)
