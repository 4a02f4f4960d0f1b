-- A foreign body is what its own bytes are, under the levels left: nothing around it is seen in it (request §2). It reads as they read alone. Its
-- rows are those that they have alone, moved, and stand as a table of their own; its verdict is why they are refused. By induction on the tree.
-- Assumes nothing.
use Rattle.std.specs.Prelude.{Ok}
use mathlib.Core.Path.{◌≡◌, refl, sym, ap, ap₂, ◌∙◌, subst}
use Prim.Native.Nat.{ℕ, zero, suc, ◌+◌, ◌-◌, ◌*◌, ◌≤◌, ◌<◌}
use native.Mathlib.Omega.{arith}
use native.Mathlib.Nat.{add-zero, zero-add}
use mathlib.Core.Bool.{Bool, true, false}
use mathlib.Core.List.{List, [], ◌∷◌, ◌++◌, append_assoc, append-nil, map, map-append}
use lib.ListN.{length, get_or, take, drop}
use lib.Seq.{take_all}
use lib.Dec.{eqb}
use borrow.Author.Tests.{eqb-true}
use Rattle.wide.proofs.Ranks.{bool_case}
use Rattle.rows.specs.declared.row.Row.{Row}
use Rattle.rows.specs.Table.{words_per_row, Own, row_of, aimed, words_of, row_at, limit}
use Rattle.rows.specs.Kinds.{kind_reference, holder_own, foreign_own, damaged_own}
use Rattle.format.specs.declared.refusal.Refusal.{Refusal}
use Rattle.format.specs.declared.refusal.Refusal.TheVariants as why
use Rattle.format.specs.declared.head.Head.TheVariants.{Foreign}
use Rattle.format.specs.declared.head.Holder.{Holder}
use Rattle.format.specs.declared.head.Holder.TheVariants.{Array, Record, Map}
use Rattle.format.specs.declared.head.Children.{Children}
use Rattle.format.specs.declared.head.Children.TheVariants.{Entries}
use Rattle.format.specs.Refusal.{refusal_number}
use Rattle.format.specs.Head.{head_at}
use Rattle.format.specs.Tree.{Tree, leaf, refer, hold, declare, foreign, damaged, Trees, none, more, many, size, sizes}
use Rattle.format.specs.Value.{Reading, right, wrong, kind_of, children_of, framed, in_foreign, value, whole, document, is_key}
use Rattle.format.specs.Layout.{is_entry, grown, entries, in_body, layout, layouts}
use Rattle.format.proofs.Heads.{Stood, head_stood}
use Rattle.format.proofs.Layouts.{in_foreign-none, body-none, length-body, no_entry, length-layout, size_pos}
use Rattle.format.proofs.Steps as clauses
use Rattle.rules.specs.declared.kind.Kind.TheVariants.{Reference}
use Rattle.rules.specs.declared.shape.Shape.TheVariants as shape
use Rattle.rules.specs.Shape.{named, shape_for, shape_of, key_fits}
use Rattle.rules.specs.Obeys.{Spoilt, KeyObeys, IfKey, after, Obeys, ObeyAll, Stands}
use Rattle.rules.proofs.Says.{key_kind, refer-own, hold-own, declare-own, foreign-own, damaged-own, damaged-inside}
use Rattle.rules.proofs.Levels.{down as less_one}
use Rattle.rules.proofs.Growth.{length-grown, length-entries}
use Rattle.rules.proofs.Read.{document_fine}
use Rattle.encode.specs.Encode.{has_bytes, moved}
use Rattle.encode.proofs.Places.{moved_if, moved-kind}
use Rattle.encode.specs.Further.{own_further, tree_further, trees_further, reading_further, aim_further, row_further, rows_further}
use Rattle.encode.proofs.Elsewhere.{whole_elsewhere, further_wrong}
use Rattle.encode.proofs.Back.{part-long}
use Rattle.encode.proofs.Again.{told_of}

-- ---- what it reads as

-- a foreign body with a level left, wherever it stands and whatever is in force there, is the document that its bytes are
pub body-alone : (depth : ℕ) (s : List ℕ) (around place n : ℕ) → place + n ≤ length s
    → whole (place + n) (value (suc depth) s (in_foreign around) place (place + n)) ≡ reading_further place (document depth (take n (drop place s)))
unfolding document
body-alone depth s around place n l =
    ap (λ (k : ℕ). whole (place + n) (value (suc depth) s k place (place + n))) (in_foreign-none around) ∙ whole_elsewhere (suc depth) s place n 0
    ∙ ap (λ (m : ℕ). reading_further place (whole m (value (suc depth) (take n (drop place s)) 0 0 m))) (sym (part-long s place n l))

-- a position that holds one
pub foreign-alone : (depth : ℕ) (s : List ℕ) (around at stop place n : ℕ) → stop ≤ length s → head_at s at stop ≡ Ok (Foreign place n)
    → value (suc (suc depth)) s around at stop ≡ framed place n (reading_further place (document depth (take n (drop place s))))
foreign-alone depth s around at stop place n l e =
    let w : Stood s at stop (Ok (Foreign place n)) = subst (Stood s at stop) e (head_stood s at stop) in
    clauses.value-foreign (suc depth) s around at stop (head_at s at stop) refl place n e ∙ ap (framed place n) (body-alone depth s around place n (omega (arith, w.within)))

-- and one with no level left is damaged for that, whatever its bytes
pub foreign_deep : (s : List ℕ) (around at stop place n : ℕ) → head_at s at stop ≡ Ok (Foreign place n)
    → value (suc zero) s around at stop ≡ right (damaged (damaged_own place n (refusal_number why.Deep))) (place + n)
unfolding value
foreign_deep s around at stop place n e = clauses.value-damaged zero s around at stop (head_at s at stop) refl place n e why.Deep place refl

-- ---- its rows

mutual
  unfolding size tree_further

  size_further : (by : ℕ) (t : Tree) → size (tree_further by t) ≡ size t
  size_further by (leaf o) = refl
  size_further by (refer o) = refl
  size_further by (hold o ts) = ap (λ (n : ℕ). 1 + n) (sizes_further by ts)
  size_further by (declare o es t) = ap₂ (λ (m n : ℕ). 1 + (m + n)) (sizes_further by es) (size_further by t)
  size_further by (foreign o t) = ap (λ (n : ℕ). 1 + n) (size_further by t)
  size_further by (damaged o) = refl

  sizes_further : (by : ℕ) (ts : Trees) → sizes (trees_further by ts) ≡ sizes ts
  sizes_further by none = refl
  sizes_further by (more t ts) = ap₂ (λ (m n : ℕ). m + n) (size_further by t) (sizes_further by ts)

-- the rows of the entries in force, so far down
abbrev lower : ℕ → List ℕ → List ℕ
lower down registry = map (λ (r : ℕ). down + r) registry

lower_grown : (down : ℕ) (b : Bool) (registry : List ℕ) (row : ℕ) → lower down (grown b registry row) ≡ grown b (lower down registry) (down + row)
lower_grown down true registry row = map-append (λ (r : ℕ). down + r) registry (row ∷ [])
lower_grown down false registry row = refl

lower_at : (down : ℕ) (registry : List ℕ) (i : ℕ) → i < length registry → get_or (lower down registry) i 0 ≡ down + get_or registry i 0
lower_at down [] i h = absurd (omega arith)
lower_at down (r ∷ registry) zero h = refl
lower_at down (r ∷ registry) (suc i) h = lower_at down registry i (omega arith)

lower_entries : (down by : ℕ) (es : Trees) (row : ℕ) (registry : List ℕ) → entries (trees_further by es) (down + row) (lower down registry) ≡ lower down (entries es row registry)
unfolding entries tree_further
lower_entries down by none row registry = refl
lower_entries down by (more t ts) row registry =
    let e : down + row + size (tree_further by t) ≡ down + (row + size t) = omega (arith, size_further by t) in
    ap₂ (λ (r : ℕ) (l : List ℕ). entries (trees_further by ts) r l) e (sym (lower_grown down true registry row)) ∙ lower_entries down by ts (row + size t) (grown true registry row)

-- a row at the front of a table
row-further : (down by n : ℕ) (w : Row) (rest : List ℕ) → rows_further down by (suc n) (words_of w ++ rest) ≡ words_of (row_further down by w) ++ rows_further down by n rest
unfolding rows_further words_of row_at
row-further down by n w rest = refl

-- a row that is no reference says no row but its end
aim_still : (down by : ℕ) (o : Own) → eqb o.kind kind_reference ≡ false → aim_further down (own_further by o) ≡ own_further by o
aim_still down by o e = let q : eqb (own_further by o).kind kind_reference ≡ false = ap (λ (k : ℕ). eqb k kind_reference) (moved-kind o (by + o.w0)) ∙ e in rw q refl

-- by what a row is
module _ (down by : ℕ) (s : List ℕ) (o : Own) where
  leaf-row : shape_of s o ≡ shape.Leaf → aim_further down (own_further by o) ≡ own_further by o
  unfolding named
  leaf-row e = aim_still down by o (bool_case (eqb o.kind kind_reference) (λ b. absurd (never (eqb-true o.kind kind_reference b))) (λ b. b))
    where
      never : o.kind ≡ kind_reference → ⊥
      never k =
          let l : shape_for (named o) ≡ shape.Leaf = (told_of s o shape.Leaf e (λ z. let i : ◌≡◌ {A = ℕ} 0 1 = cc in omega arith)).is in
          let r : named o ≡ Reference = rw k refl in
          let i : ◌≡◌ {A = ℕ} 0 1 = cc in
          omega arith

  key_row_lem : key_fits s o ≡ true → aim_further down (own_further by o) ≡ own_further by o
  key_row_lem f = aim_still down by o (ap (λ (k : ℕ). eqb k kind_reference) (key_kind s o f))

  damaged-row : shape_of s o ≡ shape.Damaged → aim_further down (own_further by o) ≡ own_further by o
  damaged-row e = aim_still down by o (ap (λ (q : Own). eqb q.kind kind_reference) (damaged-own s o e))

  holder_row : (h : Holder) → aim_further down (own_further by (holder_own (kind_of h) o.w0)) ≡ holder_own (kind_of h) o.w0
  unfolding named
  holder_row Array = refl
  holder_row Record = refl
  holder_row Map = refl

  hold_row : (h : Holder) → shape_of s o ≡ shape.Hold h → aim_further down (own_further by o) ≡ o
  hold_row h e = subst (λ (q : Own). aim_further down (own_further by q) ≡ q) (sym (hold-own s o h e)) (holder_row h)

  declare-row : shape_of s o ≡ shape.Declare → aim_further down (own_further by o) ≡ o
  unfolding named
  declare-row e = subst (λ (q : Own). aim_further down (own_further by q) ≡ q) (sym (declare-own s o e)) refl

  foreign-row : shape_of s o ≡ shape.Whole → aim_further down (own_further by o) ≡ o
  unfolding named
  foreign-row e = subst (λ (q : Own). aim_further down (own_further by q) ≡ q) (sym (foreign-own s o e)) refl

  refer-row : shape_of s o ≡ shape.Refer → (entry : ℕ) → aim_further down (own_further by (aimed o entry)) ≡ aimed o (down + entry)
  unfolding named
  refer-row e entry = subst (λ (q : Own). aim_further down (own_further by (aimed q entry)) ≡ aimed q (down + entry)) (sym (refer-own s o e)) refl

-- a row and what follows it
row_then : (down by m n : ℕ) (o o' : Own) (end end' : ℕ) (rest there : List ℕ) → m ≡ suc n → aim_further down (own_further by o) ≡ o' → down + end ≡ end' → rows_further down by n rest ≡ there
    → rows_further down by m (words_of (row_of o end) ++ rest) ≡ words_of (row_of o' end') ++ there
row_then down by m n o o' end end' rest there c e f g =
    ap (λ (i : ℕ). rows_further down by i (words_of (row_of o end) ++ rest)) c ∙ row-further down by n (row_of o end) rest
    ∙ ap₂ (λ (w : Row) (l : List ℕ). words_of w ++ l) (ap₂ row_of e f) g

-- how the rows of a tree stand further on, with m rows behind them
abbrev Moves : ℕ → ℕ → List ℕ → Tree → Type 0
Moves down by s t = (d k row row' m : ℕ) (registry registry' rest : List ℕ) → Obeys s d k t → length registry ≡ k → row' ≡ down + row → registry' ≡ lower down registry
    → rows_further down by (size t + m) (layout t row registry ++ rest) ≡ layout (tree_further by t) row' registry' ++ rows_further down by m rest

abbrev MoveAll : ℕ → ℕ → List ℕ → Trees → Type 0
MoveAll down by s ts = (d : ℕ) (c : Children) (b : Bool) (k i row row' m : ℕ) (registry registry' rest : List ℕ)
    → ObeyAll s d c k i ts → is_entry c ≡ b → length registry ≡ k → row' ≡ down + row → registry' ≡ lower down registry
    → rows_further down by (sizes ts + m) (layouts ts b row registry ++ rest) ≡ layouts (trees_further by ts) b row' registry' ++ rows_further down by m rest

module _ (down by : ℕ) (s : List ℕ) where
  -- a row that has no child
  one_moves : (t : Tree) (o o' : Own) (row row' m : ℕ) (rest : List ℕ) → size t ≡ 1 → aim_further down (own_further by o) ≡ o' → row' ≡ down + row
      → rows_further down by (size t + m) (words_of (row_of o (row + 1)) ++ rest) ≡ words_of (row_of o' (row' + 1)) ++ rows_further down by m rest
  one_moves t o o' row row' m rest c e q = row_then down by (size t + m) m o o' (row + 1) (row' + 1) rest (rows_further down by m rest) (omega arith) e (omega arith) refl

  -- a row that has children: n rows of them, with these words
  under_moves : (o : Own) (row row' n n' m : ℕ) (words words' rest : List ℕ) → n' ≡ n → aim_further down (own_further by o) ≡ o → row' ≡ down + row
      → rows_further down by (n + m) (words ++ rest) ≡ words' ++ rows_further down by m rest
      → rows_further down by (1 + n + m) ((words_of (row_of o (row + (1 + n))) ++ words) ++ rest) ≡ (words_of (row_of o (row' + (1 + n'))) ++ words') ++ rows_further down by m rest
  under_moves o row row' n n' m words words' rest c e q f =
      ap (rows_further down by (1 + n + m)) (append_assoc (words_of (row_of o (row + (1 + n)))) words rest)
      ∙ row_then down by (1 + n + m) (n + m) o o (row + (1 + n)) (row' + (1 + n')) (words ++ rest) (words' ++ rows_further down by m rest) (omega arith) e (omega arith) f
      ∙ sym (append_assoc (words_of (row_of o (row' + (1 + n')))) words' (rows_further down by m rest))

  -- rows behind rows
  both_move : (a b m : ℕ) (first second first' second' rest : List ℕ)
      → rows_further down by (a + (b + m)) (first ++ (second ++ rest)) ≡ first' ++ rows_further down by (b + m) (second ++ rest)
      → rows_further down by (b + m) (second ++ rest) ≡ second' ++ rows_further down by m rest
      → rows_further down by (a + b + m) ((first ++ second) ++ rest) ≡ (first' ++ second') ++ rows_further down by m rest
  both_move a b m first second first' second' rest f g =
      let e : a + b + m ≡ a + (b + m) = omega arith in
      ap₂ (rows_further down by) e (append_assoc first second rest) ∙ f ∙ ap (λ (l : List ℕ). first' ++ l) g ∙ sym (append_assoc first' second' (rows_further down by m rest))

  key_moves : (t : Tree) → KeyObeys s t → (row row' m : ℕ) (registry registry' rest : List ℕ) → row' ≡ down + row
      → rows_further down by (size t + m) (layout t row registry ++ rest) ≡ layout (tree_further by t) row' registry' ++ rows_further down by m rest
  unfolding size layout tree_further
  key_moves t f row row' m registry registry' rest q =
      rw f.is (one_moves (leaf f.own) f.own (own_further by f.own) row row' m rest refl (key_row_lem down by s f.own f.fits) q)

  item_moves : (t : Tree) → Moves down by s t → (b : Bool) (d k row row' m : ℕ) (registry registry' rest : List ℕ) → IfKey b (KeyObeys s t) (Obeys s d k t) → length registry ≡ k
      → row' ≡ down + row → registry' ≡ lower down registry
      → rows_further down by (size t + m) (layout t row registry ++ rest) ≡ layout (tree_further by t) row' registry' ++ rows_further down by m rest
  item_moves t own true d k row row' m registry registry' rest f r q g = key_moves t f row row' m registry registry' rest q
  item_moves t own false d k row row' m registry registry' rest f r q g = own d k row row' m registry registry' rest f r q g

  mutual
    unfolding size layout tree_further Obeys

    moves : (t : Tree) → Moves down by s t
    moves (leaf o) d k row row' m registry registry' rest f r q g = one_moves (leaf o) o (own_further by o) row row' m rest refl (leaf-row down by s o f.1) q
    moves (refer o) d k row row' m registry registry' rest f r q g =
        one_moves (refer o) (aimed o (get_or registry o.w0 0)) (aimed o (get_or registry' o.w0 0)) row row' m rest refl
        (refer-row down by s o f.1 (get_or registry o.w0 0) ∙ ap (aimed o) (sym (ap (λ (l : List ℕ). get_or l o.w0 0) g ∙ lower_at down registry o.w0 (omega (arith, f.3, r))))) q
    moves (hold o ts) d k row row' m registry registry' rest f r q g =
        under_moves o row row' (sizes ts) (sizes (trees_further by ts)) m (layouts ts false (row + 1) registry) (layouts (trees_further by ts) false (row' + 1) registry') rest (sizes_further by ts) (hold_row down by s o f.1.0 f.1.1) q
        (move_all ts (d - 1) (children_of f.1.0) false k 0 (row + 1) (row' + 1) m registry registry' rest f.1.3 (no_entry f.1.0) r (omega arith) g)
    moves (declare o es t) d k row row' m registry registry' rest f r q g =
        let n = sizes_further by es in
        let n' = size_further by t in
        let E : List ℕ = layouts es true (row + 1) [] in
        let E' : List ℕ = layouts (trees_further by es) true (row' + 1) [] in
        let U : List ℕ = layout t (row + 1 + sizes es) (entries es (row + 1) []) in
        let U' : List ℕ = layout (tree_further by t) (row' + 1 + sizes (trees_further by es)) (entries (trees_further by es) (row' + 1) []) in
        under_moves o row row' (sizes es + size t) (sizes (trees_further by es) + size (tree_further by t)) m (E ++ U) (E' ++ U') rest (omega arith) (declare-row down by s o f.1) q
        (both_move (sizes es) (size t) m E U E' U' rest
        (move_all es (d - 1) Entries true 0 0 (row + 1) (row' + 1) (size t + m) [] [] (U ++ rest) f.3 refl refl (omega arith) refl)
        (moves t (d - 1) o.w0 (row + 1 + sizes es) (row' + 1 + sizes (trees_further by es)) m (entries es (row + 1) []) (entries (trees_further by es) (row' + 1) []) rest
        f.4 (length-entries es (row + 1) [] ∙ zero-add (many es) ∙ f.2) (omega arith) (ap (λ (i : ℕ). entries (trees_further by es) i []) (omega arith) ∙ lower_entries down by es (row + 1) [])))
    moves (foreign o t) d k row row' m registry registry' rest f r q g =
        under_moves o row row' (size t) (size (tree_further by t)) m (layout t (row + 1) (in_body registry)) (layout (tree_further by t) (row' + 1) (in_body registry')) rest (size_further by t) (foreign-row down by s o f.1) q
        (moves t (d - 1) (in_foreign k) (row + 1) (row' + 1) m (in_body registry) (in_body registry') rest f.2 (length-body registry ∙ ap in_foreign r) (omega arith)
        (body-none registry' ∙ sym (ap (lower down) (body-none registry))))
    moves (damaged o) d k row row' m registry registry' rest f r q g = one_moves (damaged o) o (own_further by o) row row' m rest refl (damaged-row down by s o f.1) q

    move_all : (ts : Trees) → MoveAll down by s ts
    move_all none d c b k i row row' m registry registry' rest f e r q g = ap (λ (n : ℕ). rows_further down by n rest) (zero-add m)
    move_all (more t ts) d c b k i row row' m registry registry' rest f e r q g =
        let T : List ℕ = layouts ts b (row + size t) (grown b registry row) in
        let T' : List ℕ = layouts (trees_further by ts) b (row' + size (tree_further by t)) (grown b registry' row') in
        both_move (size t) (sizes ts) m (layout t row registry) T (layout (tree_further by t) row' registry') T' rest
        (item_moves t (λ d k row row' m registry registry' rest f r q g. moves t d k row row' m registry registry' rest f r q g) (is_key c i) d k row row' (sizes ts + m) registry registry' (T ++ rest)
        f.0 r q g)
        (move_all ts d c b (after (is_entry c) k) (i + 1) (row + size t) (row' + size (tree_further by t)) m (grown b registry row) (grown b registry' row') rest f.1 e
        (ap (λ (a : Bool). length (grown a registry row)) (sym e) ∙ length-grown (is_entry c) registry row ∙ ap (after (is_entry c)) r)
        (omega (arith, size_further by t)) (ap₂ (grown b) g q ∙ sym (lower_grown down b registry row)))

-- the rows of a body's tree, whatever is around it, are those that the tree has alone, moved: its places by `by`, its row numbers by `row`
pub rows-alone : (s : List ℕ) (d : ℕ) (t : Tree) → Obeys s d 0 t → (by row : ℕ) (registry : List ℕ)
    → layout (tree_further by t) row (in_body registry) ≡ rows_further row by (size t) (layout t 0 [])
unfolding rows_further
rows-alone s d t f by row registry =
    ap (layout (tree_further by t) row) (body-none registry)
    ∙ sym (ap₂ (rows_further row by) (sym (add-zero (size t))) (sym (append-nil (layout t 0 []))) ∙ moves row by s t d 0 0 row 0 [] [] [] f refl (sym (add-zero row)) refl ∙ append-nil (layout (tree_further by t) row []))

-- "same rows with row numbers and places moved" (request §14): the rows of a foreign document whose bytes read alone as t, its own row first
pub foreign-moved : (depth : ℕ) (b : List ℕ) (t : Tree) (next : ℕ) → document depth b ≡ right t next → (place row : ℕ) (registry : List ℕ)
    → layout (foreign foreign_own (tree_further place t)) row registry
    ≡ words_of (row_of foreign_own (row + (1 + size t))) ++ rows_further (row + 1) place (size t) (layout t 0 [])
unfolding layout
foreign-moved depth b t next e place row registry =
    ap₂ (λ (n : ℕ) (l : List ℕ). words_of (row_of foreign_own (row + (1 + n))) ++ l) (size_further place t)
    (rows-alone b (suc depth) t (document_fine depth b t next e) place (row + 1) registry)

-- ---- in a table by any maker

own-here : (o : Own) → own_further 0 o ≡ o
own-here o = ap (moved o) (zero-add o.w0) ∙ of (has_bytes (named o))
  where
    of : (b : Bool) → moved_if b o o.w0 ≡ o
    of true = refl
    of false = refl

mutual
  unfolding tree_further

  tree_here : (t : Tree) → tree_further 0 t ≡ t
  tree_here (leaf o) = ap leaf (own-here o)
  tree_here (refer o) = refl
  tree_here (hold o ts) = ap (hold o) (trees_here ts)
  tree_here (declare o es t) = ap₂ (declare o) (trees_here es) (tree_here t)
  tree_here (foreign o t) = ap (foreign o) (tree_here t)
  tree_here (damaged o) = ap damaged (own-here o)

  trees_here : (ts : Trees) → trees_further 0 ts ≡ ts
  trees_here none = refl
  trees_here (more t ts) = ap₂ more (tree_here t) (trees_here ts)

-- the rows below a right foreign document, whatever is around it, are those that they are at row 0 with nothing around them, moved
pub body-rows : (s : List ℕ) (d k : ℕ) (o : Own) (t : Tree) → Obeys s d k (foreign o t) → (row : ℕ) (registry : List ℕ)
    → layout t row (in_body registry) ≡ rows_further row 0 (size t) (layout t 0 [])
unfolding Obeys
body-rows s d k o t f row registry =
    ap (λ (u : Tree). layout u row (in_body registry)) (sym (tree_here t)) ∙ rows-alone s (d - 1) t (subst (λ (i : ℕ). Obeys s (d - 1) i t) (in_foreign-none k) f.2) 0 row registry

-- and these are a table of their own over the same data
pub body_stands : (depth : ℕ) (s : List ℕ) (k : ℕ) (o : Own) (t : Tree) → Obeys s (suc (suc depth)) k (foreign o t) → length s ≤ limit → size t ≤ limit
    → Stands depth (layout t 0 []) (size t) s t
unfolding Obeys
body_stands depth s k o t f l few =
    let w = length-layout t 0 [] in
    record {
      some = size_pos t;
      few = few;
      rows-lent = omega arith;
      short = l;
      rows = refl;
      words = take_all (words_per_row * size t) (layout t 0 []) (omega arith);
      obeys = subst (λ (i : ℕ). Obeys s (suc depth) i t) (in_foreign-none k) (subst (λ (d : ℕ). Obeys s d (in_foreign k) t) (less_one (suc depth)) f.2);
    }

-- ---- what is in force around it plays no part in whether it obeys the rules

pub foreign_anywhere : (s : List ℕ) (d k k' : ℕ) (o : Own) (t : Tree) → Obeys s d k (foreign o t) → Obeys s d k' (foreign o t)
unfolding Obeys
foreign_anywhere s d k k' o t f = (f.0, f.1, subst (λ (i : ℕ). Obeys s (d - 1) i t) (in_foreign-none k ∙ sym (in_foreign-none k')) f.2)

pub damaged_anywhere : (s : List ℕ) (d k k' : ℕ) (o : Own) → Obeys s d k (damaged o) → Obeys s d k' (damaged o)
unfolding Obeys
damaged_anywhere s d k k' o f = (f.0, f.1, subst (λ (i : ℕ). Spoilt s (d - 1) i o) (in_foreign-none k ∙ sym (in_foreign-none k')) f.2)

-- and the verdict of a damaged one, with a level left, is why its bytes alone are refused
pub damaged-alone : (depth : ℕ) (s : List ℕ) (k : ℕ) (o : Own) → Obeys s (suc (suc depth)) k (damaged o)
    → (e : Refusal) × (place : ℕ) × (document depth (take o.w1 (drop o.w0 s)) ≡ wrong e place) × (o.w2 ≡ refusal_number e)
unfolding Obeys
damaged-alone depth s k o f =
    let v : Spoilt s (suc depth) (in_foreign k) o = subst (λ (d : ℕ). Spoilt s d (in_foreign k) o) (less_one (suc depth)) f.2 in
    let b : Reading = document depth (take o.w1 (drop o.w0 s)) in
    let u = further_wrong o.w0 b v.why v.place (sym (body-alone depth s k o.w0 o.w1 (damaged-inside s o f.1)) ∙ v.reads) in
    (v.why, u.0, u.1, v.verdict)
