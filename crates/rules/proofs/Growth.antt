-- What grows is right: the table has the layout of the tree, row after row, and the tree is fine. Assumes nothing.
use mathlib.Core.Path.{◌≡◌, refl, sym, ap, ap₂, ◌∙◌, subst}
use Prim.Native.Nat.{ℕ, zero, suc, ◌+◌, ◌*◌, ◌≤◌, ◌<◌}
use native.Mathlib.Omega.{arith}
use native.Mathlib.Nat.{add-zero, zero-add}
use mathlib.Core.Bool.{Bool, true, false, cond, ◌&&◌}
use mathlib.Core.List.{List, [], ◌∷◌, ◌++◌, append_assoc}
use lib.ListN.{length, get_or, drop, length-append}
use lib.Dec.{ltb, eqb}
use borrow.Author.Tests.{ltb-true, eqb-true}
use Rattle.wide.proofs.Families.{cond-case}
use Rattle.rows.specs.declared.row.Row.{Row}
use Rattle.rows.specs.Table.{words_per_row, Own, row_of, own_of, words_of, row_at, lent, aimed}
use Rattle.rows.proofs.Rows.{drop-row}
use Rattle.format.specs.declared.head.Holder.{Holder}
use Rattle.format.specs.declared.head.Children.{Children}
use Rattle.format.specs.declared.head.Children.TheVariants.{Entries}
use Rattle.format.specs.Tree.{Tree, leaf, refer, hold, declare, foreign, damaged, Trees, none, more, many, size, sizes}
use Rattle.format.specs.Value.{Reading, right, wrong, child_count, children_of, in_foreign, value, whole, is_key}
use Rattle.format.specs.Layout.{is_entry, layout, layouts, grown, entries, in_body}
use Rattle.format.proofs.Layouts.{no_entry, length-body}
use Rattle.rules.specs.declared.shape.Shape.{Shape}
use Rattle.rules.specs.declared.shape.Shape.TheVariants.{Bad, Leaf, Refer, Hold, Declare, Whole, Damaged}
use Rattle.rules.specs.Shape.{shape_of, key_fits}
use Rattle.rules.specs.Grow.{Growth, grew, bad, Growths, grew_all, bad_all, Grower, ends_at, at_front, and_then, pointing, over_children, over_value, over_entries, over_body, judged, key_row, grow_key, item, grows, by_shape, row_grows, grow}
use Rattle.rules.specs.Obeys.{KeyObeys, IfKey, after, Obeys, ObeyAll}
use Rattle.rules.proofs.Levels.{down}
use Rattle.rules.proofs.Says.{aimed_shape}
use Rattle.lists.proofs.Tests.{and_first, and_second}
use Rattle.format.specs.Refusal.{refusal_number}

-- a tree of the kind F stands from `row` up to e
pub record Grew (F : Tree → Type 0) (table : List ℕ) (n : ℕ) (registry : List ℕ) (row : ℕ) (t : Tree) (e : ℕ) : Type 0 where
  pub past : e ≡ row + size t
  pub before : row < e
  pub within : e ≤ n
  pub last : (row_at table row).end ≡ e
  pub words : drop (words_per_row * row) table ≡ layout t row registry ++ drop (words_per_row * e) table
  pub obeys : F t

-- trees in a row, the first of them number i of a holder of the sort c; d levels are left
pub record GrewAll (s : List ℕ) (d : ℕ) (c : Children) (table : List ℕ) (n : ℕ) (registry : List ℕ) (i count row : ℕ) (ts : Trees) (e : ℕ) : Type 0 where
  pub past : e ≡ row + sizes ts
  pub within : e ≤ n
  pub words : drop (words_per_row * row) table ≡ layouts ts (is_entry c) row registry ++ drop (words_per_row * e) table
  pub number : many ts ≡ count
  pub fines : ObeyAll s d c (length registry) i ts

abbrev pub Sound : (Tree → Type 0) → List ℕ → ℕ → List ℕ → ℕ → Growth → Type 0
Sound F table n registry row (grew t e) = Grew F table n registry row t e
Sound F table n registry row bad = Unit {0}

abbrev pub SoundAll : List ℕ → ℕ → Children → List ℕ → ℕ → List ℕ → ℕ → ℕ → ℕ → Growths → Type 0
SoundAll s d c table n registry i count row (grew_all ts e) = GrewAll s d c table n registry i count row ts e
SoundAll s d c table n registry i count row bad_all = Unit {0}

-- the same but for the row's end
abbrev Inner : (Tree → Type 0) → List ℕ → ℕ → List ℕ → ℕ → Growth → Type 0
Inner F table n registry row (grew t e) = (row_at table row).end ≡ e → Grew F table n registry row t e
Inner F table n registry row bad = Unit {0}

-- ---- registries

pub length-grown : (g : Bool) (registry : List ℕ) (row : ℕ) → length (grown g registry row) ≡ after g (length registry)
length-grown true registry row = length-append registry (row ∷ [])
length-grown false registry row = refl

pub length-entries : (ts : Trees) (row : ℕ) (registry : List ℕ) → length (entries ts row registry) ≡ length registry + many ts
unfolding entries many
length-entries none row registry = sym (add-zero (length registry))
length-entries (more t ts) row registry =
    let h = length-entries ts (row + size t) (grown true registry row) in
    let g = length-grown true registry row in
    omega arith

-- ---- words

-- a run of words and the next, back to back
pub glue : {D D₁ : List ℕ} (R R' X D₂ : List ℕ) → D ≡ R ++ D₁ → R ≡ R' → D₁ ≡ X ++ D₂ → D ≡ (R' ++ X) ++ D₂
glue R R' X D₂ a e b = a ∙ ap₂ (λ (r d : List ℕ). r ++ d) e b ∙ sym (append_assoc R' X D₂)

-- a row's words, by its end and what it says itself
own-words : (w : Row) (e : ℕ) → w.end ≡ e → words_of w ≡ words_of (row_of (own_of w) e)
unfolding words_of
own-words w e h = ap (λ (x : ℕ). words_of (row_of (own_of w) x)) h

-- a reference's, by its entry's row
aimed-words : (w : Row) (e entry : ℕ) → w.end ≡ e → w.w1 ≡ entry → words_of w ≡ words_of (row_of (aimed (own_of w) entry) e)
unfolding words_of
aimed-words w e entry h k = ap₂ (λ (x y : ℕ). words_of (row_of (aimed (own_of w) y) x)) h k

module _ (table : List ℕ) (n : ℕ) (s : List ℕ) (room : n ≤ lent table) where
  row_first : (row : ℕ) → row < n → drop (words_per_row * row) table ≡ words_of (row_at table row) ++ drop (words_per_row * (row + 1)) table
  row_first row h = drop-row table row (omega arith)

  ends_sound : (F : Tree → Type 0) (registry : List ℕ) (row : ℕ) (g : Growth) → Inner F table n registry row g → Sound F table n registry row (ends_at (row_at table row).end g)
  ends_sound F registry row (grew t e) f =
      cond-case (Sound F table n registry row) (eqb e (row_at table row).end) (grew t e) bad (λ q. f (sym (eqb-true e (row_at table row).end q))) (λ _. tt)
  ends_sound F registry row bad f = tt

  -- a tree of one row
  one_inner : (F : Tree → Type 0) (registry : List ℕ) (row : ℕ) (t : Tree) → row < n → size t ≡ 1
      → ((row_at table row).end ≡ row + 1 → words_of (row_at table row) ≡ layout t row registry) → F t → Inner F table n registry row (grew t (row + 1))
  one_inner F registry row t h z g f e =
      record {
        past = omega arith;
        before = omega arith;
        within = omega arith;
        last = e;
        words = row_first row h ∙ ap (λ (x : List ℕ). x ++ drop (words_per_row * (row + 1)) table) (g e);
        obeys = f;
      }

  leaf_inner : (F : Tree → Type 0) (registry : List ℕ) (row : ℕ) → row < n → F (leaf (own_of (row_at table row)))
      → Inner F table n registry row (grew (leaf (own_of (row_at table row))) (row + 1))
  unfolding layout size
  leaf_inner F registry row h f = one_inner F registry row (leaf (own_of (row_at table row))) h refl (own-words (row_at table row) (row + 1)) f

  pub key_sound : (registry : List ℕ) (row : ℕ) → Sound (KeyObeys s) table n registry row (grow_key table n s row)
  unfolding grow_key
  key_sound registry row =
      let w : Row = row_at table row in
      let T : Bool = key_fits s (own_of w) in
      cond-case (Sound (KeyObeys s) table n registry row) (ltb row n) (key_row s row w) bad
      (λ h. ends_sound (KeyObeys s) registry row (cond T (grew (leaf (own_of w)) (row + 1)) bad)
      (cond-case (Inner (KeyObeys s) table n registry row) T (grew (leaf (own_of w)) (row + 1)) bad
      (λ q. leaf_inner (KeyObeys s) registry row (ltb-true row n h) (record { own = own_of w; is = refl; fits = q }))
      (λ _. tt)))
      (λ _. tt)

  module _ (d : ℕ) (G : Grower) (good : (registry : List ℕ) (row : ℕ) → Sound (Obeys s d (length registry)) table n registry row (G registry row)) where
    abbrev pub ItemFine : Bool → List ℕ → Tree → Type 0
    ItemFine key registry t = IfKey key (KeyObeys s t) (Obeys s d (length registry) t)

    pub item_sound : (key : Bool) (registry : List ℕ) (row : ℕ) → Sound (ItemFine key registry) table n registry row (item table n s key G registry row)
    unfolding item
    item_sound true registry row = key_sound registry row
    item_sound false registry row = good registry row

    before_sound : (c : Children) (i count : ℕ) (registry : List ℕ) (row : ℕ) (t : Tree) (m : ℕ) → Grew (ItemFine (is_key c i) registry) table n registry row t m
        → (q : Growths) → SoundAll s d c table n (grown (is_entry c) registry row) (i + 1) count m q → SoundAll s d c table n registry i (suc count) row (at_front t q)
    unfolding size layout many Obeys
    before_sound c i count registry row t m a bad_all b = tt
    before_sound c i count registry row t m a (grew_all ts e) b =
        let R : List ℕ = grown (is_entry c) registry row in
        record {
          past = omega (arith, a.past, b.past);
          within = b.within;
          words =
              glue (layout t row registry) (layout t row registry) (layouts ts (is_entry c) m R) (drop (words_per_row * e) table) a.words refl b.words
              ∙ ap (λ (x : ℕ). (layout t row registry ++ layouts ts (is_entry c) x R) ++ drop (words_per_row * e) table) a.past;
          number = ap suc b.number;
          fines = (a.obeys, subst (λ (k : ℕ). ObeyAll s d c k (i + 1) ts) (length-grown (is_entry c) registry row) b.fines);
        }

    then_sound : (c : Children) (i count : ℕ) (registry : List ℕ) (row : ℕ) (p : Growth) → Sound (ItemFine (is_key c i) registry) table n registry row p
        → (rest : ℕ → Growths) → ((m : ℕ) → m ≤ n → SoundAll s d c table n (grown (is_entry c) registry row) (i + 1) count m (rest m))
        → SoundAll s d c table n registry i (suc count) row (and_then p rest)
    then_sound c i count registry row bad a rest b = tt
    then_sound c i count registry row (grew t m) a rest b = before_sound c i count registry row t m a (rest m) (b m a.within)

    pub all_sound : (c : Children) (i count : ℕ) (registry : List ℕ) (row : ℕ) → row ≤ n → SoundAll s d c table n registry i count row (grows table n s G c registry i count row)
    unfolding grows size layout many Obeys
    all_sound c i zero registry row h = record { past = omega arith; within = h; words = refl; number = refl; fines = tt }
    all_sound c i (suc count) registry row h =
        then_sound c i count registry row (item table n s (is_key c i) G registry row) (item_sound (is_key c i) registry row) _
        (λ m k. all_sound c (i + 1) count (grown (is_entry c) registry row) m k)

    module _ (registry : List ℕ) (row : ℕ) (h : row < n) where
      abbrev w : Row
      w = row_at table row

      abbrev o : Own
      o = own_of w

      abbrev F : Tree → Type 0
      F = Obeys s (suc d) (length registry)

      leaf_sound : shape_of s o ≡ Leaf → Inner F table n registry row (grew (leaf o) (row + 1))
      unfolding Obeys
      leaf_sound e = leaf_inner F registry row h (omega arith, e)

      judged_sound : shape_of s o ≡ Damaged → (x : Reading) → whole (o.w0 + o.w1) (value d s (in_foreign (length registry)) o.w0 (o.w0 + o.w1)) ≡ x
          → Inner F table n registry row (judged row o x)
      unfolding Obeys layout size
      judged_sound e (right t next) q = tt
      judged_sound e (wrong r place) q =
          cond-case (Inner F table n registry row) (eqb o.w2 (refusal_number r)) (grew (damaged o) (row + 1)) bad
          (λ v. one_inner F registry row (damaged o) h refl (own-words w (row + 1))
          (omega arith, e, record { why = r; place = place; reads = rw (down d) q; verdict = eqb-true o.w2 (refusal_number r) v }))
          (λ _. tt)

      pointing_sound : shape_of s o ≡ Refer → Inner F table n registry row (pointing registry row o)
      unfolding Obeys layout size
      pointing_sound e =
          let A : Bool = ltb o.w0 (length registry) in
          let B : Bool = eqb o.w1 (get_or registry o.w0 0) in
          cond-case (Inner F table n registry row) (A && B) (grew (refer (aimed o 0)) (row + 1)) bad
          (λ q. one_inner F registry row (refer (aimed o 0)) h refl
          (λ l. aimed-words w (row + 1) (get_or registry o.w0 0) l (eqb-true o.w1 (get_or registry o.w0 0) (and_second A B q)))
          (omega arith, aimed_shape s o 0 e, refl, ltb-true o.w0 (length registry) (and_first A B q)))
          (λ _. tt)

      -- its row, and the words of its children behind it
      over : (t : Tree) (e : ℕ) → e ≡ row + size t → (X : List ℕ) → drop (words_per_row * (row + 1)) table ≡ X ++ drop (words_per_row * e) table
          → w.end ≡ e → drop (words_per_row * row) table ≡ (words_of (row_of o (row + size t)) ++ X) ++ drop (words_per_row * e) table
      over t e past X x l = glue (words_of w) (words_of (row_of o (row + size t))) X (drop (words_per_row * e) table) (row_first row h) (own-words w (row + size t) (l ∙ past)) x

      hold_sound : (x : Holder) → shape_of s o ≡ Hold x → (q : Growths) → SoundAll s d (children_of x) table n registry 0 (child_count x o.w0) (row + 1) q
          → Inner F table n registry row (over_children o q)
      unfolding Obeys layout size
      hold_sound x y bad_all b = tt
      hold_sound x y (grew_all ts e) b = λ l.
          let past' : e ≡ row + (1 + sizes ts) = omega (arith, b.past) in
          record {
            past = past';
            before = omega arith;
            within = b.within;
            last = l;
            words =
                over (hold o ts) e past' (layouts ts false (row + 1) registry)
                (subst (λ (z : Bool). drop (words_per_row * (row + 1)) table ≡ layouts ts z (row + 1) registry ++ drop (words_per_row * e) table) (no_entry x) b.words) l;
            obeys = (omega arith, (x, y, b.number, subst (λ (z : ℕ). ObeyAll s z (children_of x) (length registry) 0 ts) (sym (down d)) b.fines));
          }

      value_sound : shape_of s o ≡ Declare → (es : Trees) (m : ℕ) → GrewAll s d Entries table n [] 0 o.w0 (row + 1) es m → (p : Growth)
          → Sound (Obeys s d (length (entries es (row + 1) []))) table n (entries es (row + 1) []) m p → Inner F table n registry row (over_value o es p)
      unfolding Obeys layout size
      value_sound y es m b bad g = tt
      value_sound y es m b (grew t e) g = λ l.
          let A : List ℕ = entries es (row + 1) [] in
          let past' : e ≡ row + (1 + (sizes es + size t)) = omega (arith, b.past, g.past) in
          let k : length A ≡ o.w0 = length-entries es (row + 1) [] ∙ zero-add (many es) ∙ b.number in
          record {
            past = past';
            before = omega arith;
            within = g.within;
            last = l;
            words =
                over (declare o es t) e past' (layouts es true (row + 1) [] ++ layout t (row + 1 + sizes es) A)
                (glue (layouts es true (row + 1) []) (layouts es true (row + 1) []) (layout t (row + 1 + sizes es) A) (drop (words_per_row * e) table) b.words refl
                (g.words ∙ ap (λ (x : ℕ). layout t x A ++ drop (words_per_row * e) table) b.past)) l;
            obeys = (
              omega arith,
              y,
              b.number,
              subst (λ (x : ℕ). ObeyAll s x Entries 0 0 es) (sym (down d)) b.fines,
              subst (λ (x : ℕ). Obeys s x o.w0 t) (sym (down d)) (subst (λ (x : ℕ). Obeys s d x t) k g.obeys),
            );
          }

      entries_sound : shape_of s o ≡ Declare → (q : Growths) → SoundAll s d Entries table n [] 0 o.w0 (row + 1) q → Inner F table n registry row (over_entries G o (row + 1) q)
      entries_sound y bad_all b = tt
      entries_sound y (grew_all es m) b = value_sound y es m b (G (entries es (row + 1) []) m) (good (entries es (row + 1) []) m)

      body_sound : shape_of s o ≡ Whole → (p : Growth) → Sound (Obeys s d (length (in_body registry))) table n (in_body registry) (row + 1) p → Inner F table n registry row (over_body o p)
      unfolding Obeys layout size
      body_sound y bad g = tt
      body_sound y (grew t e) g = λ l.
          let past' : e ≡ row + (1 + size t) = omega (arith, g.past) in
          record {
            past = past';
            before = omega arith;
            within = g.within;
            last = l;
            words = over (foreign o t) e past' (layout t (row + 1) (in_body registry)) g.words l;
            obeys = (
              omega arith,
              y,
              subst (λ (x : ℕ). Obeys s x (in_foreign (length registry)) t) (sym (down d)) (subst (λ (x : ℕ). Obeys s d x t) (length-body registry) g.obeys),
            );
          }

      shape_sound : (x : Shape) → shape_of s o ≡ x → Inner F table n registry row (by_shape table n s G d registry row o x)
      unfolding by_shape
      shape_sound Bad e = tt
      shape_sound Leaf e = leaf_sound e
      shape_sound Refer e = pointing_sound e
      shape_sound (Hold x) e =
          hold_sound x e (grows table n s G (children_of x) registry 0 (child_count x o.w0) (row + 1)) (all_sound (children_of x) 0 (child_count x o.w0) registry (row + 1) (omega arith))
      shape_sound Declare e = entries_sound e (grows table n s G Entries [] 0 o.w0 (row + 1)) (all_sound Entries 0 o.w0 [] (row + 1) (omega arith))
      shape_sound Whole e = body_sound e (G (in_body registry) (row + 1)) (good (in_body registry) (row + 1))
      shape_sound Damaged e = judged_sound e (whole (o.w0 + o.w1) (value d s (in_foreign (length registry)) o.w0 (o.w0 + o.w1))) refl

  pub grow_sound : (d : ℕ) (registry : List ℕ) (row : ℕ) → Sound (Obeys s d (length registry)) table n registry row (grow table n s d registry row)
  unfolding grow
  grow_sound zero registry row = tt
  grow_sound (suc d) registry row =
      let w : Row = row_at table row in
      let x : Shape = shape_of s (own_of w) in
      cond-case (Sound (Obeys s (suc d) (length registry)) table n registry row) (ltb row n) (row_grows table n s (grow table n s d) d registry row w) bad
      (λ h. ends_sound (Obeys s (suc d) (length registry)) registry row (by_shape table n s (grow table n s d) d registry row (own_of w) x)
      (shape_sound d (grow table n s d) (grow_sound d) registry row (ltb-true row n h) x refl))
      (λ _. tt)
