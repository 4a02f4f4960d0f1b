-- A value position, its children and a declaration, a law for each way out of the code. Assumes nothing.
use mathlib.Core.Path.{◌≡◌, refl, sym, ap, ap₂, ◌∙◌, subst}
use mathlib.Core.Bool.{Bool, true, false, ◌&&◌}
use mathlib.Core.List.{List, []}
use Prim.Native.Nat.{ℕ, zero, suc, ◌+◌, ◌-◌, ◌≤◌, ◌<◌}
use native.Mathlib.Omega.{arith}
use mir.Val.{Fits}
use mir.Syntax.{w64}
use lib.Dec.{ltb}
use Rattle.lists.proofs.Tests.{and_first, and_second}
use native.Mathlib.Nat.{sub-zero, add-zero, zero-add}
use lib.ListN.{length, take}
use borrow.Author.Tests.{lt-ltb, le-ltb, ltb-true, eq-eqb, eqb-true}
use Rattle.rows.specs.declared.row.Row.{Row}
use Rattle.rows.specs.Table.{Own, own_of, row_at, lent, limit}
use Rattle.rows.specs.Kinds.{declaration_own}
use Rattle.registry.specs.Inner.{chain, first_in, Based, base_of}
use Rattle.registry.proofs.Walks.{based-plain, based-rows, chain_fewer, first_base, first_plain, length-chain, below_none, below_fewer, walk_start, chain-grown, walk-grown, below-grown}
use Rattle.format.specs.declared.head.Holder.{Holder}
use Rattle.format.specs.declared.head.Children.{Children}
use Rattle.format.specs.declared.head.Children.TheVariants.{Plain, Keyed, Entries}
use Rattle.format.specs.Tree.{Tree, Trees, many, size, sizes}
use Rattle.format.specs.Value.{child_count, children_of, in_force, in_foreign, value, whole, is_key}
use Rattle.format.specs.Layout.{is_entry, grown, entries, in_body}
use Rattle.format.proofs.Layouts.{no_entry, around_force, entries_each, in_foreign-few}
use Rattle.rules.specs.declared.shape.Shape.{Shape}
use Rattle.rules.specs.declared.shape.Shape.TheVariants.{Bad, Leaf, Refer, Hold, Declare, Whole, Damaged}
use Rattle.rules.specs.Shape.{shape_of}
use Rattle.rules.specs.Grow.{Growth, grew, bad, Growths, grew_all, bad_all, Grower, grow_key, item, at_front, and_then, grows, pointing, over_children, over_value, over_entries, over_body, judged, by_shape, grow}
use Rattle.rules.specs.Obeys.{KeyObeys, IfKey, Obeys}
use Rattle.rules.proofs.Says.{damaged-inside as inside-data}
use Rattle.rules.proofs.Growth.{Grew, Sound, item_sound, grow_sound}
use Rattle.std.specs.Prelude.{Option, Some, None}
use Rattle.checker.specs.Inner.{EntriesBefore, EntriesBeforeChild, BasedForChild, is_alone, stands_alone, extent_of, extent_all, ending_at}
use Rattle.checker.proofs.Leaves.{ends-grown}

-- ---- one value position

grow-row : (d : ℕ) (table : List ℕ) (n : ℕ) (s : List ℕ) (registry : List ℕ) (row : ℕ) (w : Row) (x : Shape) → row < n → w ≡ row_at table row
    → x ≡ shape_of s (own_of w)
    → extent_of (grow table n s (suc d) registry row) ≡ ending_at w.end (extent_of (by_shape table n s (grow table n s d) d registry row (own_of w) x))
unfolding grow
grow-row d table n s registry row w x h q e = rw (lt-ltb row n h, ← q, ← e) (ends-grown w.end (by_shape table n s (grow table n s d) d registry row (own_of w) x))

module _ (d : ℕ) (table : List ℕ) (n : ℕ) (s : List ℕ) (registry : List ℕ) (row : ℕ) where
  pub value_deep : d ≡ 0 → None ≡ extent_of (grow table n s d registry row)
  unfolding grow
  value_deep e = rw e

  pub value_out : n ≤ row → None ≡ extent_of (grow table n s d registry row)
  unfolding grow
  value_out h = go d
    where
      go : (x : ℕ) → None ≡ extent_of (grow table n s x registry row)
      go zero = refl
      go (suc x) = rw (le-ltb row n h)

  pub value_in : (w : Row) (x : Shape) (g r : Option ℕ) → (d ≡ 0 → ⊥) → row < n → w ≡ row_at table row → x ≡ shape_of s (own_of w)
      → g ≡ extent_of (by_shape table n s (grow table n s (d - 1)) (d - 1) registry row (own_of w) x) → r ≡ ending_at w.end g → r ≡ extent_of (grow table n s d registry row)
  value_in w x g r left h q e f j =
      let p : suc (d - 1) ≡ d = omega arith in
      subst (λ (y : ℕ). r ≡ extent_of (grow table n s y registry row)) p (j ∙ ap (ending_at w.end) f ∙ sym (grow-row (d - 1) table n s registry row w x h q e))

-- a leaf that ends behind itself
module _ (d : ℕ) (table : List ℕ) (n : ℕ) (s : List ℕ) (row : ℕ) (b : Bool) (is : b ≡ stands_alone table n s row) (t : b ≡ true) where
  abbrev W : Row
  W = row_at table row

  abbrev X : Shape
  X = shape_of s (own_of W)

  stands : ltb row n && is_alone X row W.end ≡ true
  unfolding stands_alone
  stands = sym is ∙ t

  alone-here : row < n
  alone-here = ltb-true row n (and_first (ltb row n) (is_alone X row W.end) stands)

  pub alone-fits : n ≤ limit → Fits w64 (row + 1)
  alone-fits few = omega (arith, alone-here)

  alone-is : (x : Shape) → is_alone x row W.end ≡ true → (x ≡ Leaf) × (W.end ≡ row + 1)
  alone-is Bad e = absurd (let z : ◌≡◌ {A = ℕ} 0 1 = cc in omega arith)
  alone-is Leaf e = (refl, eqb-true W.end (row + 1) e)
  alone-is Refer e = absurd (let z : ◌≡◌ {A = ℕ} 0 1 = cc in omega arith)
  alone-is (Hold h) e = absurd (let z : ◌≡◌ {A = ℕ} 0 1 = cc in omega arith)
  alone-is Declare e = absurd (let z : ◌≡◌ {A = ℕ} 0 1 = cc in omega arith)
  alone-is Whole e = absurd (let z : ◌≡◌ {A = ℕ} 0 1 = cc in omega arith)
  alone-is Damaged e = absurd (let z : ◌≡◌ {A = ℕ} 0 1 = cc in omega arith)

  pub value-alone : (registry : List ℕ) → 0 < d → Some (row + 1) ≡ extent_of (grow table n s d registry row)
  unfolding by_shape
  value-alone registry left =
      let l = alone-is X (and_second (ltb row n) (is_alone X row W.end) stands) in
      value_in d table n s registry row W X (Some (row + 1)) (Some (row + 1)) (λ z. absurd (let q : ⊥ = omega arith in q)) alone-here refl refl
      (ap (λ (x : Shape). extent_of (by_shape table n s (grow table n s (d - 1)) (d - 1) registry row (own_of W) x)) (sym l.0))
      (rw (eq-eqb (row + 1) W.end (sym l.1)))

-- ---- a row by its shape; d levels are left below it

over-value : (o : Own) (es : Trees) (p : Growth) → extent_of (over_value o es p) ≡ extent_of p
over-value o es (grew t a) = refl
over-value o es bad = refl

-- a declaration stands as its entries and its value do, whatever its row says
entries_alike : (G : Grower) (o p : Own) (row : ℕ) (q : Growths) → extent_of (over_entries G o row q) ≡ extent_of (over_entries G p row q)
entries_alike G o p row (grew_all es next) = over-value o es (G (entries es row []) next) ∙ sym (over-value p es (G (entries es row []) next))
entries_alike G o p row bad_all = refl

module _ (d : ℕ) (table : List ℕ) (n : ℕ) (s : List ℕ) (registry : List ℕ) (row : ℕ) (w : Row) (x : Shape) where
  abbrev R : Shape → Growth
  R = by_shape table n s (grow table n s d) d registry row (own_of w)

  like : (y : Shape) (r : Option ℕ) → x ≡ y → r ≡ extent_of (R y) → r ≡ extent_of (R x)
  like y r e f = f ∙ ap (λ (z : Shape). extent_of (R z)) (sym e)

  pub row-bad : x ≡ Bad → None ≡ extent_of (R x)
  unfolding by_shape
  row-bad e = like Bad None e refl

  pub row-leaf : x ≡ Leaf → Some (row + 1) ≡ extent_of (R x)
  unfolding by_shape
  row-leaf e = like Leaf (Some (row + 1)) e refl

  pub row-refer : (r : Option ℕ) → x ≡ Refer → r ≡ extent_of (pointing registry row (own_of w)) → r ≡ extent_of (R x)
  unfolding by_shape
  row-refer r e f = like Refer r e f

  over-children : (q : Growths) → extent_of (over_children (own_of w) q) ≡ extent_all q
  over-children (grew_all ts next) = refl
  over-children bad_all = refl

  row_holder : (h : Holder) (count : ℕ) (r : Option ℕ) → x ≡ Hold h → count ≡ child_count h w.w0
      → r ≡ extent_all (grows table n s (grow table n s d) (children_of h) registry 0 count (row + 1)) → r ≡ extent_of (R x)
  unfolding by_shape
  row_holder h count r e i f =
      like (Hold h) r e (f ∙ ap (λ (z : ℕ). extent_all (grows table n s (grow table n s d) (children_of h) registry 0 z (row + 1))) i
      ∙ sym (over-children (grows table n s (grow table n s d) (children_of h) registry 0 (child_count h w.w0) (row + 1))))

  over-body : (p : Growth) → extent_of (over_body (own_of w) p) ≡ extent_of p
  over-body (grew t next) = refl
  over-body bad = refl

  row-body : (r : Option ℕ) → x ≡ Whole → r ≡ extent_of (grow table n s d (in_body registry) (row + 1)) → r ≡ extent_of (R x)
  unfolding by_shape
  row-body r e f = like Whole r e (f ∙ sym (over-body (grow table n s d (in_body registry) (row + 1))))

  pub row-declare : (m : ℕ) (r : Option ℕ) → x ≡ Declare → m ≡ w.w0
      → r ≡ extent_of (over_entries (grow table n s d) (declaration_own m) (row + 1) (grows table n s (grow table n s d) Entries [] 0 m (row + 1))) → r ≡ extent_of (R x)
  unfolding by_shape
  row-declare m r e l f =
      like Declare r e
      (f ∙ ap (λ (z : ℕ). extent_of (over_entries (grow table n s d) (declaration_own z) (row + 1) (grows table n s (grow table n s d) Entries [] 0 z (row + 1)))) l
      ∙ entries_alike (grow table n s d) (declaration_own w.w0) (own_of w) (row + 1) (grows table n s (grow table n s d) Entries [] 0 w.w0 (row + 1)))

  row_spoilt : (r : Option ℕ) → x ≡ Damaged
      → r ≡ extent_of (judged row (own_of w) (whole (w.w0 + w.w1) (value d s (in_foreign (length registry)) w.w0 (w.w0 + w.w1)))) → r ≡ extent_of (R x)
  unfolding by_shape
  row_spoilt r e f = like Damaged r e f

-- the registry as the code has it: k entries, the first of them at `first`
module _ (d : ℕ) (table : List ℕ) (n : ℕ) (s : List ℕ) (first k row : ℕ) (w : Row) (x : Shape) where
  pub row-hold : (h : Holder) (c : Children) (m count : ℕ) (r : Option ℕ) → x ≡ Hold h → c ≡ children_of h → m ≡ w.w0 → count ≡ child_count h m
      → r ≡ extent_all (grows table n s (grow table n s d) c (chain table first (in_force c k 0)) 0 count (row + 1))
      → r ≡ extent_of (by_shape table n s (grow table n s d) d (chain table first k) row (own_of w) x)
  row-hold h c m count r e i l j f =
      row_holder d table n s (chain table first k) row w x h count r e (j ∙ ap (child_count h) l)
      (f ∙ ap (λ (y : Children). extent_all (grows table n s (grow table n s d) y (chain table first (in_force y k 0)) 0 count (row + 1))) i
      ∙ ap (λ (y : ℕ). extent_all (grows table n s (grow table n s d) (children_of h) (chain table first y) 0 count (row + 1))) (around_force h k 0))

  pub row-whole : (m : ℕ) (r : Option ℕ) → x ≡ Whole → m ≡ in_foreign k → r ≡ extent_of (grow table n s d (chain table first m) (row + 1))
      → r ≡ extent_of (by_shape table n s (grow table n s d) d (chain table first k) row (own_of w) x)
  row-whole m r e i f =
      let q : in_body (chain table first k) ≡ chain table first m =
      ap (λ (y : ℕ). take (in_foreign y) (chain table first k)) (length-chain table first k) ∙ chain_fewer table first k (in_foreign k) (in_foreign-few k) ∙ ap (chain table first) (sym i) in
      row-body d table n s (chain table first k) row w x r e (f ∙ ap (λ (l : List ℕ). extent_of (grow table n s d l (row + 1))) (sym q))

  pub row-damaged : (r : Option ℕ) → x ≡ Damaged → r ≡ extent_of (judged row (own_of w) (whole (w.w0 + w.w1) (value d s (in_foreign k) w.w0 (w.w0 + w.w1))))
      → r ≡ extent_of (by_shape table n s (grow table n s d) d (chain table first k) row (own_of w) x)
  row-damaged r e f =
      row_spoilt d table n s (chain table first k) row w x r e
      (f ∙ ap (λ (y : ℕ). extent_of (judged row (own_of w) (whole (w.w0 + w.w1) (value d s (in_foreign y) w.w0 (w.w0 + w.w1))))) (sym (length-chain table first k)))

pub damaged-inside : (s : List ℕ) (w : Row) (x : Shape) → x ≡ shape_of s (own_of w) → x ≡ Damaged → w.w0 + w.w1 ≤ length s
damaged-inside s w x is e = inside-data s (own_of w) (sym is ∙ e)

-- ---- what a call asks

module _ (table : List ℕ) (n first k row : ℕ) (ready : EntriesBefore table n first k row) where
  pub ready_room : n ≤ lent table
  ready_room = ready.room

  pub ready_few : n ≤ limit
  ready_few = ready.few

  pub ready_lent : row ≤ lent table
  ready_lent = omega (arith, ready.room, ready.here)

  -- below the row, with m of the entries in force
  pub under : (m : ℕ) → m ≤ k → row < n → EntriesBefore table n first m (row + 1)
  under m f h =
      record { room = ready.room; few = ready.few; here = omega arith; below = below_fewer table first k m row (row + 1) ready.below (omega arith) (omega arith) }

  pub hold_asks : (h : Holder) (c : Children) → c ≡ children_of h → row < n → EntriesBeforeChild table n first k c 0 (row + 1)
  hold_asks h c e l =
      rw e record { before = subst (λ (x : ℕ). EntriesBefore table n first x (row + 1)) (sym (around_force h k 0)) (under k (omega arith) l); linked = λ q. absurd (let z : ◌≡◌ {A = ℕ} 0 1 = cc (no_entry h) in omega arith) }

entries_ready : (table : List ℕ) (n row : ℕ) → n ≤ lent table → n ≤ limit → row ≤ n → EntriesBeforeChild table n row 0 Entries 0 row
entries_ready table n row a b c = record { before = record { room = a; few = b; here = c; below = below_none table row row }; linked = λ q. sym (walk_start table row) }

pub entries_ask : (table : List ℕ) (n row : ℕ) → n ≤ lent table → n ≤ limit → row ≤ n → EntriesBeforeChild table n (first_in row) 0 Entries 0 row
entries_ask table n row a b c = rw (first_plain row (omega arith)) (entries_ready table n row a b c)

-- ---- the base of the entries in force

pub entries-based : (table : List ℕ) (n row : ℕ) → n ≤ limit → row ≤ n → BasedForChild table row 0 Entries
entries-based table n row a b = record { based = based-plain table row 0 (omega arith); walked = λ e. omega arith }

pub hold-based : (table : List ℕ) (base k : ℕ) (h : Holder) (c : Children) → c ≡ children_of h → Based table base k → BasedForChild table base k c
hold-based table base k h c e b = rw e record { based = b; walked = λ q. absurd (let z : ◌≡◌ {A = ℕ} 0 1 = cc (no_entry h) in omega arith) }

pub whole-few : (k m : ℕ) → m ≡ in_foreign k → m ≤ k
whole-few k m e = omega (arith, in_foreign-few k)

pub child-based : (table : List ℕ) (base k : ℕ) (c : Children) (i : ℕ) → BasedForChild table base k c → Based table base (in_force c k i)
child-based table base k Plain i b = b.based
child-based table base k Keyed i b = b.based
child-based table base k Entries i b = based-plain table base i (b.walked refl)

pub value-based : (table : List ℕ) (base k m : ℕ) → m ≡ k → Based table base k → Based table base m
value-based table base k m e b = rw e b

-- ---- a child

module _ (d : ℕ) (table : List ℕ) (n : ℕ) (s : List ℕ) (row first k : ℕ) (c : Children) (i : ℕ) (r : Option ℕ) where
  abbrev I : Option ℕ
  I = extent_of (item table n s (is_key c i) (grow table n s d) (chain table first (in_force c k i)) row)

  module _ (b : Bool) (e : b ≡ is_key c i) where
    pub child_key : b ≡ true → r ≡ extent_of (grow_key table n s row) → r ≡ I
    unfolding item
    child_key t f = rw (← e, t) f

    pub child-alone : b ≡ false → (q : Bool) → q ≡ stands_alone table n s row → q ≡ true → 0 < d → r ≡ Some (row + 1) → r ≡ I
    unfolding item
    child-alone t q is y left f = rw (← e, t) (f ∙ value-alone d table n s row q is y (chain table first (in_force c k i)) left)

    pub child-value : b ≡ false → (m : ℕ) → m ≡ in_force c k i → r ≡ extent_of (grow table n s d (chain table first m) row) → r ≡ I
    unfolding item
    child-value t m g f = rw (← e, t, ← g) f

pub child_asks : (table : List ℕ) (n first k row m : ℕ) → m ≡ k → EntriesBefore table n first k row → EntriesBefore table n first m row
child_asks table n first k row m e ready = rw e ready

-- ---- children, one behind the other

-- a child from `row` to m: the next is ready, and the chain of entries is one longer where it is an entry
module _ (F : Tree → Type 0) (table : List ℕ) (n first k i row : ℕ) (registry : List ℕ) (t : Tree) (m : ℕ) (w : Grew F table n registry row t m) where
  on : (x : ℕ) → EntriesBefore table n first x row → EntriesBefore table n first x m
  on x a = record { room = a.room; few = a.few; here = w.within; below = below_fewer table first x x row m a.below (omega arith) (omega (arith, w.before)) }

  pub ready_next : (c : Children) → EntriesBeforeChild table n first k c i row → EntriesBeforeChild table n first k c (i + 1) m
  ready_next Plain a = record { before = on k a.before; linked = λ q. absurd (let z : ◌≡◌ {A = ℕ} 0 1 = cc in omega arith) }
  ready_next Keyed a = record { before = on k a.before; linked = λ q. absurd (let z : ◌≡◌ {A = ℕ} 0 1 = cc in omega arith) }
  ready_next Entries a =
      record {
        before = record { room = a.before.room; few = a.before.few; here = w.within; below = below-grown table first i row (a.linked refl) m a.before.below w.before };
        linked = λ q. walk-grown table first i row (a.linked refl) m w.last;
      }

pub chain_next : (table : List ℕ) (n first k i row : ℕ) (c : Children) → EntriesBeforeChild table n first k c i row
    → chain table first (in_force c k (i + 1)) ≡ grown (is_entry c) (chain table first (in_force c k i)) row
chain_next table n first k i row Plain a = refl
chain_next table n first k i row Keyed a = refl
chain_next table n first k i row Entries a = chain-grown table first i row (a.linked refl)

-- ---- the loop

before-grown : (t : Tree) (q : Growths) → extent_all (at_front t q) ≡ extent_all q
before-grown t (grew_all ts e) = refl
before-grown t bad_all = refl

then_until : (p : Growth) (rest : ℕ → Growths) (a : ℕ) → extent_of p ≡ Some a → extent_all (and_then p rest) ≡ extent_all (rest a)
then_until (grew t m) rest a e = let i : m ≡ a = cc in before-grown t (rest m) ∙ ap (λ (x : ℕ). extent_all (rest x)) i
then_until bad rest a e = cc

then_broken : (p : Growth) (rest : ℕ → Growths) → extent_of p ≡ None → extent_all (and_then p rest) ≡ None
then_broken (grew t m) rest e = cc
then_broken bad rest e = refl

grew_of : (F : Tree → Type 0) (table : List ℕ) (n : ℕ) (registry : List ℕ) (row : ℕ) (p : Growth) (a : ℕ) → extent_of p ≡ Some a → Sound F table n registry row p → (t : Tree) × Grew F table n registry row t a
grew_of F table n registry row (grew t m) a e w = let i : m ≡ a = cc in (t, subst (λ (x : ℕ). Grew F table n registry row t x) i w)
grew_of F table n registry row bad a e w = absurd (let z : ◌≡◌ {A = ℕ} 0 1 = cc in omega arith)

-- i of count children are checked, up to `here`, and the rest from there makes the whole
pub record Going (d : ℕ) (table : List ℕ) (n : ℕ) (s : List ℕ) (first k : ℕ) (c : Children) (count row i here : ℕ) : Type 0 where
  pub few : i ≤ count
  pub ready : EntriesBeforeChild table n first k c i here
  pub same :
      extent_all (grows table n s (grow table n s d) c (chain table first (in_force c k i)) i (count - i) here)
      ≡ extent_all (grows table n s (grow table n s d) c (chain table first (in_force c k 0)) 0 count row)

module _ (d : ℕ) (table : List ℕ) (n : ℕ) (s : List ℕ) (first k : ℕ) (c : Children) (count row : ℕ) where
  abbrev All : Option ℕ
  All = extent_all (grows table n s (grow table n s d) c (chain table first (in_force c k 0)) 0 count row)

  pub going_first : EntriesBeforeChild table n first k c 0 row → Going d table n s first k c count row 0 row
  going_first a = record { few = omega arith; ready = a; same = rw (sub-zero count) refl }

  module _ (i here : ℕ) (v : Going d table n s first k c count row i here) where
    pub going_ready : EntriesBefore table n first (in_force c k i) here
    going_ready = v.ready.before

    pub going_all : count ≤ i → Some here ≡ All
    unfolding grows
    going_all h = let z : count - i ≡ 0 = omega (arith, v.few) in rw z at v.same

    module _ (turn : i < count) (g : Option ℕ) (read : g ≡ extent_of (item table n s (is_key c i) (grow table n s d) (chain table first (in_force c k i)) here)) where
      abbrev reg : List ℕ
      reg = chain table first (in_force c k i)

      abbrev P : Growth
      P = item table n s (is_key c i) (grow table n s d) reg here

      abbrev rest : ℕ → Growths
      rest next = grows table n s (grow table n s d) c (grown (is_entry c) reg here) (i + 1) (count - (i + 1)) next

      one_more : grows table n s (grow table n s d) c reg i (count - i) here ≡ and_then P rest
      unfolding grows
      one_more =
          let e : count - i ≡ suc (count - (i + 1)) = omega arith in
          ap (λ (x : ℕ). grows table n s (grow table n s d) c reg i x here) e

      pub going_broken : g ≡ None → None ≡ All
      going_broken e = sym (ap extent_all one_more ∙ then_broken P rest (sym read ∙ e)) ∙ v.same

      pub going_next : (a : ℕ) → g ≡ Some a → Going d table n s first k c count row (i + 1) a
      going_next a e =
          let room : n ≤ lent table = v.ready.before.room in
          let F : Tree → Type 0 = λ t. IfKey (is_key c i) (KeyObeys s t) (Obeys s d (length reg) t) in
          let w = grew_of F table n reg here P a (sym read ∙ e) (item_sound table n s room d (grow table n s d) (grow_sound table n s room d) (is_key c i) reg here) in
          record {
            few = omega arith;
            ready = ready_next F table n first k i here reg w.0 a w.1 c v.ready;
            same =
                ap (λ (l : List ℕ). extent_all (grows table n s (grow table n s d) c l (i + 1) (count - (i + 1)) a)) (chain_next table n first k i here c v.ready)
                ∙ sym (ap extent_all one_more ∙ then_until P rest a (sym read ∙ e))
                ∙ v.same;
          }

-- ---- a declaration

-- what entries leave behind: the chain of them, and that they stand before what follows
record Ran (table : List ℕ) (n first i count row : ℕ) (ts : Trees) (e : ℕ) : Type 0 where
  pub ready : EntriesBefore table n first (i + count) e
  pub registry : chain table first (i + count) ≡ entries ts row (chain table first i)
  pub past : e ≡ row + sizes ts
  pub number : many ts ≡ count

abbrev RanAt : List ℕ → ℕ → ℕ → ℕ → ℕ → ℕ → Growths → Type 0
RanAt table n first i count row (grew_all ts e) = Ran table n first i count row ts e
RanAt table n first i count row bad_all = Unit {0}

module _ (d : ℕ) (table : List ℕ) (n : ℕ) (s : List ℕ) (first : ℕ) where
  abbrev G : Grower
  G = grow table n s d

  before-ran : (i count row : ℕ) → EntriesBeforeChild table n first 0 Entries i row → (t : Tree) (m : ℕ) → Grew (Obeys s d (length (chain table first i))) table n (chain table first i) row t m
      → (q : Growths) → RanAt table n first (i + 1) count m q → RanAt table n first i (suc count) row (at_front t q)
  unfolding entries size many
  before-ran i count row a t m w bad_all r = tt
  before-ran i count row a t m w (grew_all ts e) r =
      let j : i + 1 + count ≡ i + suc count = omega arith in
      record {
        ready = subst (λ (x : ℕ). EntriesBefore table n first x e) j r.ready;
        registry = ap (chain table first) (sym j) ∙ r.registry ∙ ap₂ (λ (x : ℕ) (l : List ℕ). entries ts x l) w.past (chain_next table n first 0 i row Entries a);
        past = omega (arith, r.past, w.past);
        number = omega (arith, r.number);
      }

  then_ran : (i count row : ℕ) → EntriesBeforeChild table n first 0 Entries i row → (p : Growth) → Sound (Obeys s d (length (chain table first i))) table n (chain table first i) row p
      → (rest : ℕ → Growths) → ((m : ℕ) → EntriesBeforeChild table n first 0 Entries (i + 1) m → RanAt table n first (i + 1) count m (rest m)) → RanAt table n first i (suc count) row (and_then p rest)
  then_ran i count row a bad w rest h = tt
  then_ran i count row a (grew t m) w rest h =
      before-ran i count row a t m w (rest m) (h m (ready_next (Obeys s d (length (chain table first i))) table n first 0 i row (chain table first i) t m w Entries a))

  all-ran : (count i row : ℕ) → EntriesBeforeChild table n first 0 Entries i row → RanAt table n first i count row (grows table n s G Entries (chain table first i) i count row)
  unfolding grows entries item size many
  all-ran zero i row a = record { ready = subst (λ (x : ℕ). EntriesBefore table n first x row) (sym (add-zero i)) a.before; registry = ap (chain table first) (add-zero i); past = omega arith; number = refl }
  all-ran (suc count) i row a =
      then_ran i count row a (G (chain table first i) row) (grow_sound table n s a.before.room d (chain table first i) row)
      (λ next. grows table n s G Entries (grown true (chain table first i) row) (i + 1) count next)
      (λ m b. subst (λ (l : List ℕ). RanAt table n first (i + 1) count m (grows table n s G Entries l (i + 1) count m)) (chain_next table n first 0 i row Entries a) (all-ran count (i + 1) m b))

ran_of : (table : List ℕ) (n first count row : ℕ) (q : Growths) (e : ℕ) → extent_all q ≡ Some e → RanAt table n first 0 count row q → (ts : Trees) × (q ≡ grew_all ts e) × Ran table n first 0 count row ts e
ran_of table n first count row (grew_all ts m) e h r = let i : m ≡ e = cc in (ts, ap (grew_all ts) i, subst (λ (x : ℕ). Ran table n first 0 count row ts x) i r)
ran_of table n first count row bad_all e h r = absurd (let z : ◌≡◌ {A = ℕ} 0 1 = cc in omega arith)

module _ (d : ℕ) (table : List ℕ) (n : ℕ) (s : List ℕ) (row count : ℕ) (room : n ≤ lent table) (few : n ≤ limit) (here : row ≤ n) (g : Option ℕ)
    (read : g ≡ extent_all (grows table n s (grow table n s d) Entries (chain table (first_in row) (in_force Entries 0 0)) 0 count row)) where
  abbrev Q : Growths
  Q = grows table n s (grow table n s d) Entries [] 0 count row

  there : g ≡ extent_all Q
  unfolding chain
  there = read

  ran : (e : ℕ) → g ≡ Some e → (ts : Trees) × (Q ≡ grew_all ts e) × Ran table n row 0 count row ts e
  unfolding chain
  ran e h = ran_of table n row count row Q e (sym there ∙ h) (all-ran d table n s row count 0 row (entries_ready table n row room few here))

  registry_of : (e : ℕ) (h : g ≡ Some e) → chain table row count ≡ entries (ran e h).0 row []
  unfolding chain
  registry_of e h = sym (ap (chain table row) (zero-add count)) ∙ (ran e h).2.registry

  pub own_under : (e : ℕ) → g ≡ Some e → row ≤ e
  own_under e h = omega (arith, (ran e h).2.past)

  module _ (e inner : ℕ) (h : g ≡ Some e) (b : inner ≡ base_of row e count) where
    first_inner : first_in inner ≡ row
    first_inner = ap first_in b ∙ first_base row e count (omega arith)

    pub own_asks : EntriesBefore table n (first_in inner) count e
    own_asks = rw first_inner (subst (λ (x : ℕ). EntriesBefore table n row x e) (zero-add count) (ran e h).2.ready)

    pub own-based : Based table inner count
    own-based =
        let t = ran e h in
        rw b (based-rows table row e count (entries t.0 row []) (omega arith) (registry_of e h) (entries_each t.0 row e count t.2.number t.2.past))

  pub declared_broken : g ≡ None → None ≡ extent_of (over_entries (grow table n s d) (declaration_own count) row Q)
  declared_broken h = go Q (sym there ∙ h)
    where
      go : (q : Growths) → extent_all q ≡ None → None ≡ extent_of (over_entries (grow table n s d) (declaration_own count) row q)
      go (grew_all ts m) h = cc
      go bad_all h = refl

  pub declared_until : (e inner : ℕ) (r : Option ℕ) → g ≡ Some e → inner ≡ base_of row e count → r ≡ extent_of (grow table n s d (chain table (first_in inner) count) e)
      → r ≡ extent_of (over_entries (grow table n s d) (declaration_own count) row Q)
  declared_until e inner r h b j =
      let t = ran e h in
      let i : chain table (first_in inner) count ≡ entries t.0 row [] = ap (λ (x : ℕ). chain table x count) (first_inner e inner h b) ∙ registry_of e h in
      j ∙ ap (λ (l : List ℕ). extent_of (grow table n s d l e)) i ∙ sym (over-value (declaration_own count) t.0 (grow table n s d (entries t.0 row []) e))
      ∙ sym (ap (λ (q : Growths). extent_of (over_entries (grow table n s d) (declaration_own count) row q)) t.1)
