-- What is measured of a value position, a law for each way out of the code. Assumes nothing.
use Rattle.std.specs.Prelude.{Result, Ok, Err}
use mathlib.Core.Path.{◌≡◌, refl, sym, ap, ap₂, ◌∙◌}
use mathlib.Core.Bool.{Bool, true, false, ◌||◌}
use mathlib.Core.List.{List}
use Prim.Native.Nat.{ℕ, suc, ◌+◌, ◌-◌, ◌≤◌, ◌<◌}
use native.Mathlib.Omega.{arith}
use native.Mathlib.Nat.{zero-add, add-zero, sub-zero, add_assoc}
use lib.ListN.{length, get_or}
use lib.Dec.{eqb}
use borrow.Author.Tests.{eq-eqb, ne_eqb, eqb-true, le-leb, lt-leb}
use mir.Syntax.{w64}
use mir.Val.{Fits}
use Rattle.wide.proofs.Numbers.{either}
use Rattle.wide.proofs.Ranks.{bool_case}
use Rattle.rows.specs.Table.{Own, limit}
use Rattle.rows.specs.Kinds.{holder_own, reference_own}
use Rattle.format.specs.declared.refused.Refused.{Refused}
use Rattle.format.specs.declared.refusal.Refusal.{Refusal}
use Rattle.format.specs.declared.refusal.Refusal.TheVariants as why
use Rattle.format.specs.declared.head.Spelling.{Spelling}
use Rattle.format.specs.declared.head.Content.{Content}
use Rattle.format.specs.declared.head.Holder.{Holder}
use Rattle.format.specs.declared.head.Head.{Head}
use Rattle.format.specs.declared.head.Head.TheVariants.{Leaf, Hold, Refer, Declare, Foreign}
use Rattle.format.specs.declared.head.Children.{Children}
use Rattle.format.specs.declared.head.Children.TheVariants.{Entries}
use Rattle.format.specs.declared.unmeasured.Unmeasured.TheVariants as needs
use Rattle.format.specs.Tree.{Tree, leaf, refer, Trees, size, sizes}
use Rattle.format.specs.Head.{refuse, head_at, key_at}
use Rattle.format.specs.Value.{Reading, right, wrong, Readings, ran, broke, Reader, leaf_own, kind_of, child_count, children_of, keyed, child, is_key, in_force, ahead, follow, readings, holding, closed, declaring, whole, framed, in_foreign, value, document}
use Rattle.format.specs.Answer.{needed, needed_for}
use Rattle.format.proofs.Steps as clauses
use Rattle.format.proofs.Heads.{hold-after, declare-after, foreign-after, foreign_within, key_within, leaf_within, refer_within, refuse_place}
use Rattle.format.proofs.Values.{ReadAt, RunAt, value_read, values_run, values_child, whole_read, document_read}
use Rattle.heads.proofs.Positions.{head_refer}
use Rattle.leaves.specs.Inner.{LeafAsked, KeyAsked}
use Rattle.measure.specs.Inner.{ReferAsked, OneRow, Measured, Right, Wrong, measured_of, measured_all, harmed, some_harmed, place_in, row_in, told, is_broken, number_wrong, place_wrong, refusal_of, ended_at}
use Rattle.measure.proofs.Numbers.{Little, told-right, told-wrong, read_little, run_little, ReadRight, read_right, read_wrong}

-- ---- rows and places stay within the bytes

read_bound : (at stop : ℕ) (x : Reading) → ReadAt at stop x → (r n : ℕ) (b : Bool) → measured_of x ≡ Right r n b → (at + r ≤ n) × (n ≤ stop)
read_bound at stop (right t m) k r n b e =
    let h : size t ≡ r = cc in
    let i : m ≡ n = cc in
    (omega (arith, k.rows), omega (arith, k.within))
read_bound at stop (wrong x p) k r n b e = absurd (let z : ◌≡◌ {A = ℕ} 0 1 = cc in omega arith)

run_bound : (at stop : ℕ) (y : Readings) → RunAt at stop y → (r n : ℕ) (b : Bool) → measured_all y ≡ Right r n b → (at + r ≤ n) × (n ≤ stop)
run_bound at stop (ran ts m) k r n b e =
    let h : sizes ts ≡ r = cc in
    let i : m ≡ n = cc in
    (omega (arith, k.rows), omega (arith, k.within))
run_bound at stop (broke x p) k r n b e = absurd (let z : ◌≡◌ {A = ℕ} 0 1 = cc in omega arith)

-- a row in a number is one of the limit's
pub row_fits : (f r : ℕ) → r ≡ row_in f → Fits w64 (1 + r)
row_fits f r e = omega arith

pub rows_fit : (f g a r : ℕ) → a ≡ row_in f → r ≡ row_in g → Fits w64 (a + r)
rows_fit f g a r e h = omega arith

pub all_fit : (f g a r : ℕ) → a ≡ row_in f → r ≡ row_in g → Fits w64 (1 + (a + r))
all_fit f g a r e h = omega arith

-- ---- readings by what is measured of them

held_right : (o : Own) (y : Readings) (r n : ℕ) (b : Bool) → measured_all y ≡ Right r n b → Right (1 + r) n b ≡ measured_of (holding o y)
unfolding size harmed
held_right o (ran ts m) r n b e = cc
held_right o (broke x p) r n b e = cc

held_wrong : (o : Own) (y : Readings) (e : Refusal) (p : ℕ) → measured_all y ≡ Wrong e p → Wrong e p ≡ measured_of (holding o y)
held_wrong o (ran ts m) e p h = cc
held_wrong o (broke x q) e p h = cc

closed-right : (c : ℕ) (es : Trees) (x : Reading) (r n : ℕ) (b : Bool) → measured_of x ≡ Right r n b → Right (1 + (sizes es + r)) n (some_harmed es || b) ≡ measured_of (closed c es x)
unfolding size harmed
closed-right c es (right t m) r n b e = cc
closed-right c es (wrong x p) r n b e = cc

closed-wrong : (c : ℕ) (es : Trees) (x : Reading) (e : Refusal) (p : ℕ) → measured_of x ≡ Wrong e p → Wrong e p ≡ measured_of (closed c es x)
closed-wrong c es (right t m) e p h = cc
closed-wrong c es (wrong x q) e p h = cc

declaring-right : (c : ℕ) (y : Readings) (R : Reader) (stop a m r n : ℕ) (u v : Bool) → measured_all y ≡ Right a m u → measured_of (R c m stop) ≡ Right r n v
    → Right (1 + (a + r)) n (u || v) ≡ measured_of (declaring c y R stop)
declaring-right c (ran es q) R stop a m r n u v e g =
    let h : sizes es ≡ a = cc in
    let i : m ≡ q = cc in
    let j : some_harmed es ≡ u = cc in
    rw (← h, ← j) (closed-right c es (R c q stop) r n v (rw i at g))
declaring-right c (broke x p) R stop a m r n u v e g = cc

declaring-wrong : (c : ℕ) (y : Readings) (R : Reader) (stop : ℕ) (e : Refusal) (p : ℕ) → measured_all y ≡ Wrong e p → Wrong e p ≡ measured_of (declaring c y R stop)
declaring-wrong c (ran es q) R stop e p h = cc
declaring-wrong c (broke x q) R stop e p h = cc

declaring-wrong_last : (c : ℕ) (y : Readings) (R : Reader) (stop a m : ℕ) (u : Bool) (e : Refusal) (p : ℕ) → measured_all y ≡ Right a m u → measured_of (R c m stop) ≡ Wrong e p
    → Wrong e p ≡ measured_of (declaring c y R stop)
declaring-wrong_last c (ran es q) R stop a m u e p h g =
    let i : m ≡ q = cc in
    closed-wrong c es (R c q stop) e p (rw i at g)
declaring-wrong_last c (broke x q) R stop a m u e p h g = cc

whole-right : (stop : ℕ) (x : Reading) (r n : ℕ) (b : Bool) → measured_of x ≡ Right r n b → n ≡ stop → Right r n b ≡ measured_of (whole stop x)
whole-right stop (right t m) r n b e h =
    let i : m ≡ n = cc in
    let j : m ≡ stop = cc in
    rw (eq-eqb m stop j) (sym e)
whole-right stop (wrong x p) r n b e h = cc

whole_extra : (stop : ℕ) (x : Reading) (r n : ℕ) (b : Bool) → measured_of x ≡ Right r n b → (n ≡ stop → ⊥) → Wrong why.Extra n ≡ measured_of (whole stop x)
whole_extra stop (right t m) r n b e h = let i : m ≡ n = cc in rw (i, ne_eqb n stop h)
whole_extra stop (wrong x p) r n b e h = cc

whole-wrong : (stop : ℕ) (x : Reading) (e : Refusal) (p : ℕ) → measured_of x ≡ Wrong e p → Wrong e p ≡ measured_of (whole stop x)
whole-wrong stop (right t m) e p h = cc
whole-wrong stop (wrong x q) e p h = cc

framed-right : (p z : ℕ) (x : Reading) (r n : ℕ) (b : Bool) → measured_of x ≡ Right r n b → Right (1 + r) (p + z) b ≡ measured_of (framed p z x)
unfolding size harmed
framed-right p z (right t m) r n b e = cc
framed-right p z (wrong x q) r n b e = cc

framed-wrong : (p z : ℕ) (x : Reading) (e : Refusal) (q : ℕ) → measured_of x ≡ Wrong e q → Right 1 (p + z) true ≡ measured_of (framed p z x)
unfolding size harmed
framed-wrong p z (right t m) e q h = cc
framed-wrong p z (wrong x w) e q h = refl

-- ---- keys

module _ (s : List ℕ) (at stop : ℕ) (x : Result Spelling Refusal) (key : x ≡ key_at s at stop) where
  module _ (y : Spelling) (e : x ≡ Ok y) where
    pub key_fits_lem : Fits w64 stop → Fits w64 (y.place + y.size)
    key_fits_lem fit = omega (arith, key_within s at stop x key y.place y.size e)

    pub key_low : stop ≤ length s → length s ≤ limit → y.place + y.size ≤ limit
    key_low l big = omega (arith, key_within s at stop x key y.place y.size e)

    pub key_right : (v : ℕ) → v ≡ told (Right 1 (y.place + y.size) false) → v ≡ told (measured_of (keyed at (key_at s at stop)))
    unfolding size harmed
    key_right v f = f ∙ sym (ap (λ (r : Reading). told (measured_of r)) (clauses.keyed_at s at stop x key y.place y.size e))

  pub key_wrong : (e : Refusal) → x ≡ Err e → (v : ℕ) → v ≡ told (Wrong e at) → v ≡ told (measured_of (keyed at (key_at s at stop)))
  key_wrong e q v f = f ∙ sym (ap (λ (y : Reading). told (measured_of y)) (clauses.keyed_no s at stop x key e q))

-- ---- a value position, by its head h and the levels left d; the number v tells it

pub value_deep : (s : List ℕ) (d k at stop v : ℕ) → d ≡ 0 → v ≡ told (Wrong why.Deep at) → v ≡ told (measured_of (value d s k at stop))
value_deep s d k at stop v z f = f ∙ sym (ap (λ (y : Reading). told (measured_of y)) (clauses.value_deep d s k at stop z))

module _ (s : List ℕ) (d k at stop : ℕ) (h : Result Head Refused) (head : h ≡ head_at s at stop) (left : d ≡ 0 → ⊥) (v : ℕ) where
  by : (x : Reading) → value (suc (d - 1)) s k at stop ≡ x → v ≡ told (measured_of x) → v ≡ told (measured_of (value d s k at stop))
  by x e f = f ∙ ap (λ (y : Reading). told (measured_of y)) (sym (clauses.value-left d s k at stop x left e))

  pub value_refuse : (x : Refusal) (p : ℕ) → h ≡ refuse x p → v ≡ told (Wrong x p) → v ≡ told (measured_of (value d s k at stop))
  value_refuse x p e f = by (wrong x p) (clauses.value_refuse (d - 1) s k at stop h head x p e) f

  module _ (g : Head) (ok : h ≡ Ok g) where
    pub value-leaf : (c : Content) (n : ℕ) → g ≡ Leaf c n → v ≡ told (Right 1 n false) → v ≡ told (measured_of (value d s k at stop))
    unfolding size harmed
    value-leaf c n e f = by (right (leaf (leaf_own s c)) n) (clauses.value-leaf (d - 1) s k at stop h head c n (ok ∙ ap Ok e)) f

    pub value-refer : (i n : ℕ) → g ≡ Refer i n → i < k → v ≡ told (Right 1 n false) → v ≡ told (measured_of (value d s k at stop))
    unfolding size harmed
    value-refer i n e l f = by (right (refer (reference_own i 0)) n) (clauses.value-refer (d - 1) s k at stop h head i n (ok ∙ ap Ok e) l) f

    pub value_no_entry : (i n : ℕ) → g ≡ Refer i n → k ≤ i → v ≡ told (Wrong why.NoEntry at) → v ≡ told (measured_of (value d s k at stop))
    value_no_entry i n e l f = by (wrong why.NoEntry at) (clauses.value_no_entry (d - 1) s k at stop h head i n (ok ∙ ap Ok e) l) f

    pub value-hold : (x : Holder) (c n : ℕ) → g ≡ Hold x c n
        → v ≡ told (measured_of (holding (holder_own (kind_of x) c) (readings (value (d - 1) s) (children_of x) s k 0 (child_count x c) n stop)))
        → v ≡ told (measured_of (value d s k at stop))
    value-hold x c n e f = by _ (clauses.value-hold (d - 1) s k at stop h head x c n (ok ∙ ap Ok e)) f

    pub value-declare : (c n : ℕ) → g ≡ Declare c n → v ≡ told (measured_of (declaring c (readings (value (d - 1) s) Entries s 0 0 c n stop) (value (d - 1) s) stop))
        → v ≡ told (measured_of (value d s k at stop))
    value-declare c n e f = by _ (clauses.value-declare (d - 1) s k at stop h head c n (ok ∙ ap Ok e)) f

    pub value-foreign : (p z : ℕ) → g ≡ Foreign p z → v ≡ told (measured_of (framed p z (whole (p + z) (value (d - 1) s (in_foreign k) p (p + z)))))
        → v ≡ told (measured_of (value d s k at stop))
    value-foreign p z e f = by _ (clauses.value-foreign (d - 1) s k at stop h head p z (ok ∙ ap Ok e)) f

-- ---- where a call starts, and within what

module _ (s : List ℕ) (at stop : ℕ) (h : Result Head Refused) (head : h ≡ head_at s at stop) where
  pub refuse_low : stop ≤ length s → length s ≤ limit → (w : Refused) → h ≡ Err w → at ≤ stop → w.place ≤ limit
  refuse_low l big w e a = omega (arith, refuse_place s at stop h head w.why w.place e)

  module _ (g : Head) (ok : h ≡ Ok g) where
    module _ (l : stop ≤ length s) (big : length s ≤ limit) where
      pub leaf-low : (c : Content) (n : ℕ) → g ≡ Leaf c n → n ≤ limit
      leaf-low c n e = omega (arith, leaf_within s at stop h head c n (ok ∙ ap Ok e))

      pub refer-low : (i n : ℕ) → g ≡ Refer i n → n ≤ limit
      refer-low i n e = omega (arith, refer_within s at stop h head i n (ok ∙ ap Ok e))

    pub hold_pos : (x : Holder) (c n : ℕ) → g ≡ Hold x c n → 0 < n
    hold_pos x c n e = omega (arith, hold-after s at stop h head x c n (ok ∙ ap Ok e))

    pub declare_pos : (c n : ℕ) → g ≡ Declare c n → 0 < n
    declare_pos c n e = omega (arith, declare-after s at stop h head c n (ok ∙ ap Ok e))

    pub foreign_pos : (p z : ℕ) → g ≡ Foreign p z → 0 < p
    foreign_pos p z e = omega (arith, foreign-after s at stop h head p z (ok ∙ ap Ok e))

    pub foreign-inside : (p z : ℕ) → g ≡ Foreign p z → (l : ℕ) → stop ≤ l → p + z ≤ l
    foreign-inside p z e l i = omega (arith, foreign_within s at stop h head p z (ok ∙ ap Ok e))

-- ---- children, from `at` on; the number f tells them

module _ (s : List ℕ) (d at stop k : ℕ) (c : Children) (count f : ℕ) (children : f ≡ told (measured_all (readings (value d s) c s k 0 count at stop))) (a : at ≤ stop)
    (l : stop ≤ length s) (big : length s ≤ limit) where
  abbrev y : Readings
  y = readings (value d s) c s k 0 count at stop

  all-wrong : 72057594037927936 ≤ f → measured_all y ≡ Wrong (refusal_of (number_wrong f)) (place_wrong f)
  all-wrong h = told-wrong (measured_all y) f (run_little at stop y (values_run d c s k 0 count at stop a) (omega arith)) children h

  pub entry-wrong : 72057594037927936 ≤ f → (e : ℕ) → f ≡ told (measured_of (declaring e (readings (value d s) c s k 0 count at stop) (value d s) stop))
  entry-wrong h e = children ∙ ap told (all-wrong h ∙ declaring-wrong e y (value d s) stop _ _ (all-wrong h))

  module _ (x : Holder) (w : ℕ) (ec : c ≡ children_of x) (en : count ≡ child_count x w) where
    same : holding (holder_own (kind_of x) w) (readings (value d s) c s k 0 count at stop) ≡ holding (holder_own (kind_of x) w) (readings (value d s) (children_of x) s k 0 (child_count x w) at stop)
    same = ap₂ (λ (u : Children) (z : ℕ). holding (holder_own (kind_of x) w) (readings (value d s) u s k 0 z at stop)) ec en

    pub hold-wrong : 72057594037927936 ≤ f → f ≡ told (measured_of (holding (holder_own (kind_of x) w) (readings (value d s) (children_of x) s k 0 (child_count x w) at stop)))
    hold-wrong h = children ∙ ap told (all-wrong h ∙ held_wrong (holder_own (kind_of x) w) y _ _ (all-wrong h) ∙ ap measured_of same)

  module _ (h : f < 72057594037927936) where
    all_right : measured_all y ≡ Right (row_in f) (place_in f) (is_broken f)
    all_right = told-right (measured_all y) f (run_little at stop y (values_run d c s k 0 count at stop a) (omega arith)) children h

    bound : (at + row_in f ≤ place_in f) × (place_in f ≤ stop)
    bound = run_bound at stop y (values_run d c s k 0 count at stop a) (row_in f) (place_in f) (is_broken f) all_right

    pub children_stop : (q : ℕ) → q ≡ place_in f → q ≤ stop
    children_stop q e = omega (arith, bound.1)

    pub children-low : (q : ℕ) → q ≡ place_in f → q ≤ limit
    children-low q e = omega (arith, bound.1)

    pub holder_few : 0 < at → (r : ℕ) → r ≡ row_in f → 1 + r ≤ limit
    holder_few pos r e = omega (arith, bound.0, bound.1)

    pub hold-right : (x : Holder) (w : ℕ) → c ≡ children_of x → count ≡ child_count x w → (r q : ℕ) (b : Bool) → r ≡ row_in f → q ≡ place_in f → b ≡ is_broken f
        → (v : ℕ) → v ≡ told (Right (1 + r) q b)
        → v ≡ told (measured_of (holding (holder_own (kind_of x) w) (readings (value d s) (children_of x) s k 0 (child_count x w) at stop)))
    hold-right x w ec en r q b er eq eb v e =
        e ∙ ap told (held_right (holder_own (kind_of x) w) y r q b (rw (er, eq, eb) all_right) ∙ ap measured_of (same x w ec en))

    -- a declaration's value behind its entries; the number g tells it
    module _ (q : ℕ) (eq : q ≡ place_in f) (e g : ℕ) (read : g ≡ told (measured_of (value d s e q stop))) where
      abbrev last : Reading
      last = value d s e q stop

      last_wrong : 72057594037927936 ≤ g → measured_of last ≡ Wrong (refusal_of (number_wrong g)) (place_wrong g)
      last_wrong i = told-wrong (measured_of last) g (read_little q stop last (value_read d s e q stop) (children_stop q eq) (omega arith)) read i

      pub declare-wrong : 72057594037927936 ≤ g → g ≡ told (measured_of (declaring e (readings (value d s) c s k 0 count at stop) (value d s) stop))
      declare-wrong i = read ∙ ap told (last_wrong i ∙ declaring-wrong_last e y (value d s) stop (row_in f) q (is_broken f) _ _ (rw eq all_right) (last_wrong i))

      module _ (i : g < 72057594037927936) where
        last_right : measured_of last ≡ Right (row_in g) (place_in g) (is_broken g)
        last_right = told-right (measured_of last) g (read_little q stop last (value_read d s e q stop) (children_stop q eq) (omega arith)) read i

        last_bound : (q + row_in g ≤ place_in g) × (place_in g ≤ stop)
        last_bound = read_bound q stop last (value_read d s e q stop) (row_in g) (place_in g) (is_broken g) last_right

        pub declare-few : 0 < at → (u r : ℕ) → u ≡ row_in f → r ≡ row_in g → 1 + (u + r) ≤ limit
        declare-few pos u r eu er = omega (arith, bound.0, bound.1, last_bound.0, last_bound.1)

        pub declare-low : (n : ℕ) → n ≡ place_in g → n ≤ limit
        declare-low n en = omega (arith, last_bound.1)

        pub declare-right : (u r n : ℕ) (b b' b'' : Bool) → u ≡ row_in f → r ≡ row_in g → n ≡ place_in g → b ≡ is_broken f → b' ≡ is_broken g → b'' ≡ (b || b')
            → (v : ℕ) → v ≡ told (Right (1 + (u + r)) n b'') → v ≡ told (measured_of (declaring e (readings (value d s) c s k 0 count at stop) (value d s) stop))
        declare-right u r n b b' b'' eu er en eb eb' eb'' v ev =
            ev ∙ ap told (rw eb'' (declaring-right e y (value d s) stop u q r n b b' (rw (eu, eq, eb) all_right) (rw (er, en, eb') last_right)))

-- ---- all the bytes from `at` to `stop`; the number f tells the position at their front, and g all of them

ended-told : (at stop : ℕ) (x : Reading) → ReadAt at stop x → at ≤ stop → stop ≤ limit → (f : ℕ) → f ≡ told (measured_of x) → (g : ℕ) → g ≡ ended_at stop f → g ≡ told (measured_of (whole stop x))
unfolding ended_at
ended-told at stop x k a l f e g q =
    either 72057594037927936 f refused (λ (h : f < 72057594037927936). bool_case (eqb (place_in f) stop) (λ b. ends h (eqb-true (place_in f) stop b)) (λ b. longer h (λ i. apart (sym (eq-eqb (place_in f) stop i) ∙ b))))
  where
    apart : true ≡ false → ⊥
    apart e = absurd (let z : ◌≡◌ {A = ℕ} 0 1 = cc in omega arith)

    small : Little (measured_of x)
    small = read_little at stop x k a l

    refused : 72057594037927936 ≤ f → g ≡ told (measured_of (whole stop x))
    refused h =
        let m : measured_of x ≡ Wrong (refusal_of (number_wrong f)) (place_wrong f) = told-wrong (measured_of x) f small e h in
        q ∙ rw (le-leb 72057594037927936 f h) (e ∙ ap told (m ∙ whole-wrong stop x _ _ m))

    ends : f < 72057594037927936 → place_in f ≡ stop → g ≡ told (measured_of (whole stop x))
    ends h i =
        let m : measured_of x ≡ Right (row_in f) (place_in f) (is_broken f) = told-right (measured_of x) f small e h in
        q ∙ rw (lt-leb 72057594037927936 f h, eq-eqb (place_in f) stop i) (e ∙ ap told (m ∙ whole-right stop x (row_in f) (place_in f) (is_broken f) m i))

    longer : f < 72057594037927936 → (place_in f ≡ stop → ⊥) → g ≡ told (measured_of (whole stop x))
    longer h i =
        let m : measured_of x ≡ Right (row_in f) (place_in f) (is_broken f) = told-right (measured_of x) f small e h in
        q ∙ rw (lt-leb 72057594037927936 f h, ne_eqb (place_in f) stop i) (ap told (whole_extra stop x (row_in f) (place_in f) (is_broken f) m i))

pub whole-told : (s : List ℕ) (d k at stop f : ℕ) → f ≡ told (measured_of (value d s k at stop)) → at ≤ stop → stop ≤ length s → length s ≤ limit
    → (g : ℕ) → g ≡ ended_at stop f → g ≡ told (measured_of (whole stop (value d s k at stop)))
whole-told s d k at stop f e a l big g q = ended-told at stop (value d s k at stop) (value_read d s k at stop) a (omega arith) f e g q

-- a document is all of its bytes
pub document-whole : (s : List ℕ) (depth f : ℕ) → f ≡ told (measured_of (whole (length s) (value (depth + 1) s 0 0 (length s)))) → f ≡ told (measured_of (document depth s))
unfolding document
document-whole s depth f e =
    let g : depth + 1 ≡ suc depth = omega arith in
    e ∙ ap (λ (d : ℕ). told (measured_of (whole (length s) (value d s 0 0 (length s))))) g

-- ---- a foreign body, inside which k entries are in force; the number f tells it

module _ (s : List ℕ) (d around k p z : ℕ) (in-force : k ≡ in_foreign around) (m : ℕ) (inner : m ≡ told (measured_of (value d s k p (p + z))))
    (l : p + z ≤ length s) (big : length s ≤ limit) (f : ℕ) (inside : f ≡ ended_at (p + z) m) where
  abbrev body : Reading
  body = whole (p + z) (value d s (in_foreign around) p (p + z))

  there : f ≡ told (measured_of body)
  there = rw in-force at (whole-told s d k p (p + z) m inner (omega arith) l big f inside)

  body_read : ReadAt p (p + z) body
  body_read = whole_read p (p + z) (value d s (in_foreign around) p (p + z)) (value_read d s (in_foreign around) p (p + z))

  low : Little (measured_of body)
  low = read_little p (p + z) body body_read (omega arith) (omega arith)

  pub frame_wrong : 72057594037927936 ≤ f → (v : ℕ) → v ≡ told (Right 1 (p + z) true) → v ≡ told (measured_of (framed p z body))
  frame_wrong h v e = e ∙ ap told (framed-wrong p z body _ _ (told-wrong (measured_of body) f low there h))

  module _ (h : f < 72057594037927936) where
    body-right : measured_of body ≡ Right (row_in f) (place_in f) (is_broken f)
    body-right = told-right (measured_of body) f low there h

    pub frame_few : 0 < p → (r : ℕ) → r ≡ row_in f → 1 + r ≤ limit
    frame_few pos r er =
        let b : (p + row_in f ≤ place_in f) × (place_in f ≤ p + z) = read_bound p (p + z) body body_read (row_in f) (place_in f) (is_broken f) body-right in
        omega (arith, b.0, b.1)

    pub frame_right : (r : ℕ) (b : Bool) → r ≡ row_in f → b ≡ is_broken f → (v : ℕ) → v ≡ told (Right (1 + r) (p + z) b) → v ≡ told (measured_of (framed p z body))
    frame_right r b er eb v e = e ∙ ap told (framed-right p z body r (place_in f) b (rw (er, eb) body-right))

-- ---- one child

module _ (R : Reader) (s : List ℕ) (k i at stop : ℕ) (c : Children) (f : ℕ) (b : Bool) (e : b ≡ is_key c i) where
  pub child_key : b ≡ true → f ≡ told (measured_of (keyed at (key_at s at stop))) → f ≡ told (measured_of (child c R s k i at stop))
  child_key t g = rw (clauses.child_key R s k i at stop c (sym e ∙ t)) g

  pub child-value : b ≡ false → (n : ℕ) → n ≡ in_force c k i → f ≡ told (measured_of (R n at stop)) → f ≡ told (measured_of (child c R s k i at stop))
  child-value t n h g = rw (clauses.child-value R s k i at stop c (sym e ∙ t), ← h) g

-- a child of one row, met straight at its bytes
pub none-one : (x : Reading) → OneRow x 0
none-one x = record { one = λ n. absurd (n refl) }

pub none-referred : (h : Result Head Refused) (around : ℕ) → ReferAsked h around 0
none-referred h around = record { ends = λ n. absurd (n refl) }

pub referred-one : (s : List ℕ) (at stop around b : ℕ) → at < stop → stop ≤ length s → b ≡ get_or s at 0 → b < 256 → 193 ≤ b → (b ≡ 255 → ⊥) → b - 193 < around
    → ReferAsked (head_at s at stop) around (at + 1)
referred-one s at stop around b l h e small low other few =
    record { ends = λ n. record { number = b - 193; is = sym (head_refer s at stop l h b e low (omega arith)); low = few } }

module _ (s : List ℕ) (d k i at stop : ℕ) (c : Children) (r : ℕ) (b : Bool) (e : b ≡ is_key c i) where
  pub key_one : b ≡ true → KeyAsked (key_at s at stop) r → OneRow (child c (value d s) s k i at stop) r
  unfolding size harmed
  key_one t w =
      record {
        one = λ z.
            let x = w.ends z in
            ap measured_of (clauses.child_key (value d s) s k i at stop c (sym e ∙ t) ∙ clauses.keyed_at s at stop (key_at s at stop) refl x.place x.size x.is)
            ∙ ap (λ (n : ℕ). Right 1 n false) (sym x.ends);
      }

  pub leaf-one : b ≡ false → (d ≡ 0 → ⊥) → LeafAsked (head_at s at stop) r → OneRow (child c (value d s) s k i at stop) r
  unfolding size harmed
  leaf-one t left w =
      record {
        one = λ z.
            let x = w.ends z in
            ap measured_of (clauses.child-value (value d s) s k i at stop c (sym e ∙ t)
            ∙ clauses.value-left d s (in_force c k i) at stop _ left (clauses.value-leaf (d - 1) s (in_force c k i) at stop (head_at s at stop) refl x.content r x.is));
      }

  pub refer-one : b ≡ false → (d ≡ 0 → ⊥) → (n : ℕ) → n ≡ in_force c k i → ReferAsked (head_at s at stop) n r → OneRow (child c (value d s) s k i at stop) r
  unfolding size harmed
  refer-one t left n en w =
      record {
        one = λ z.
            let x = w.ends z in
            ap measured_of (clauses.child-value (value d s) s k i at stop c (sym e ∙ t)
            ∙ clauses.value-left d s (in_force c k i) at stop _ left (clauses.value-refer (d - 1) s (in_force c k i) at stop (head_at s at stop) refl x.number r x.is (omega (arith, x.low, en))));
      }

-- ---- the loop over children

-- rows before a run, one of which may be damaged
abbrev pub plus : ℕ → Bool → Measured → Measured
plus r u (Right a n v) = Right (r + a) n (u || v)
plus r u (Wrong e p) = Wrong e p

plus_zero : (m : Measured) → plus 0 false m ≡ m
plus_zero (Right a n v) = ap (λ (x : ℕ). Right x n v) (zero-add a)
plus_zero (Wrong e p) = refl

either_either : (u v w : Bool) → ((u || v) || w) ≡ (u || (v || w))
either_either true v w = refl
either_either false v w = refl

either_false : (u : Bool) → (u || false) ≡ u
either_false true = refl
either_false false = refl

plus_plus : (a b : ℕ) (u v : Bool) (m : Measured) → plus (a + b) (u || v) m ≡ plus a u (plus b v m)
plus_plus a b u v (Right c n w) = ap₂ (λ (x : ℕ) (y : Bool). Right x n y) (add_assoc a b c) (either_either u v w)
plus_plus a b u v (Wrong e p) = refl

-- i of count children are read, with `rows` rows, up to `place`, and the rest from there makes the whole
pub record Kept (R : Reader) (c : Children) (s : List ℕ) (k count at stop i rows place : ℕ) (broken : Bool) : Type 0 where
  pub few : i ≤ count
  pub before : at + rows ≤ place
  pub within : place ≤ stop
  pub same : plus rows broken (measured_all (readings R c s k i (count - i) place stop)) ≡ measured_all (readings R c s k 0 count at stop)

ahead_plus : (t : Tree) (y : Readings) → measured_all (ahead t y) ≡ plus (size t) (harmed t) (measured_all y)
unfolding sizes some_harmed
ahead_plus t (ran ts q) = refl
ahead_plus t (broke x p) = refl

follow-right : (x : Reading) (rest : ℕ → Readings) (r n : ℕ) (b : Bool) → measured_of x ≡ Right r n b → measured_all (follow x rest) ≡ plus r b (measured_all (rest n))
follow-right (right t m) rest r n b e =
    let h : size t ≡ r = cc in
    let i : m ≡ n = cc in
    let j : harmed t ≡ b = cc in
    rw (i, ← h, ← j) (ahead_plus t (rest n))
follow-right (wrong x p) rest r n b e = cc

follow-wrong : (x : Reading) (rest : ℕ → Readings) (e : Refusal) (p : ℕ) → measured_of x ≡ Wrong e p → measured_all (follow x rest) ≡ Wrong e p
follow-wrong (right t m) rest e p h = cc
follow-wrong (wrong x q) rest e p h = cc

pub kept-first : (R : Reader) (c : Children) (s : List ℕ) (k count at stop : ℕ) → at ≤ stop → Kept R c s k count at stop 0 0 at false
kept-first R c s k count at stop h = record { few = omega arith; before = omega arith; within = h; same = rw (sub-zero count) (plus_zero _) }

module _ (R : Reader) (c : Children) (s : List ℕ) (k count at stop i rows place : ℕ) (broken : Bool) (kept : Kept R c s k count at stop i rows place broken) where
  pub kept-all : count ≤ i → (v : ℕ) → v ≡ told (Right rows place broken) → v ≡ told (measured_all (readings R c s k 0 count at stop))
  unfolding readings sizes some_harmed
  kept-all h v e =
      let z : count - i ≡ 0 = omega arith in
      e ∙ ap told (sym (ap₂ (λ (x : ℕ) (y : Bool). Right x place y) (add-zero rows) (either_false broken)) ∙ rw z at kept.same)

  module _ (l : stop ≤ length s) (big : length s ≤ limit) where
    pub kept_low : place ≤ limit
    kept_low = omega (arith, kept.within)

    pub kept-few : rows ≤ limit
    kept-few = omega (arith, kept.before, kept.within)

    pub kept_plus : Fits w64 (rows + 1)
    kept_plus = omega (arith, kept-few)

    pub kept-fits : (f r : ℕ) → r ≡ row_in f → Fits w64 (rows + r)
    kept-fits f r e = omega (arith, kept-few)

module _ (s : List ℕ) (d : ℕ) (c : Children) (k count at stop i rows place : ℕ) (broken : Bool) (kept : Kept (value d s) c s k count at stop i rows place broken)
    (turn : i < count) where
  abbrev one : Reading
  one = child c (value d s) s k i place stop

  one_more : readings (value d s) c s k i (count - i) place stop ≡ follow one (λ next. readings (value d s) c s k (i + 1) (count - (i + 1)) next stop)
  one_more =
      clauses.run-left (value d s) c s k i count place stop _ turn (clauses.run-next (value d s) c s k i (count - (i + 1)) place stop)

  kept_on : (r n : ℕ) (b : Bool) → measured_of one ≡ Right r n b → (b' : Bool) → b' ≡ (broken || b) → Kept (value d s) c s k count at stop (i + 1) (rows + r) n b'
  kept_on r n b e b' eb' =
      let z : (place + r ≤ n) × (n ≤ stop) = read_bound place stop one (values_child d c s k i place stop) r n b e in
      record {
        few = omega arith;
        before = omega (arith, kept.before);
        within = z.1;
        same = rw eb' (
            plus_plus rows r broken b (measured_all (readings (value d s) c s k (i + 1) (count - (i + 1)) n stop))
            ∙ sym (ap (plus rows broken) (ap measured_all one_more ∙ follow-right one _ r n b e))
            ∙ kept.same);
      }

  -- it takes one row
  pub kept-one : (n : ℕ) → (n ≡ 0 → ⊥) → OneRow (child c (value d s) s k i place stop) n → Kept (value d s) c s k count at stop (i + 1) (rows + 1) n broken
  kept-one n z w = kept_on 1 n false (w.one z) broken (sym (either_false broken))

module _ (s : List ℕ) (d : ℕ) (c : Children) (k count at stop i rows place : ℕ) (broken : Bool) (kept : Kept (value d s) c s k count at stop i rows place broken)
    (turn : i < count) (f : ℕ) (read : f ≡ told (measured_of (child c (value d s) s k i place stop))) (l : stop ≤ length s) (big : length s ≤ limit) where
  pub kept-wrong : 72057594037927936 ≤ f → f ≡ told (measured_all (readings (value d s) c s k 0 count at stop))
  kept-wrong h =
      let one : Reading = child c (value d s) s k i place stop in
      let e : measured_of one ≡ Wrong (refusal_of (number_wrong f)) (place_wrong f) =
      told-wrong (measured_of one) f (read_little place stop one (values_child d c s k i place stop) kept.within (omega arith)) read h in
      read ∙ ap told (e ∙ sym (ap (plus rows broken) (ap measured_all (one_more s d c k count at stop i rows place broken kept turn) ∙ follow-wrong one _ _ _ e)) ∙ kept.same)

  pub kept_next : f < 72057594037927936 → (r n : ℕ) (b b' : Bool) → r ≡ row_in f → n ≡ place_in f → b ≡ is_broken f → b' ≡ (broken || b)
      → Kept (value d s) c s k count at stop (i + 1) (rows + r) n b'
  kept_next h r n b b' er en eb eb' =
      let one : Reading = child c (value d s) s k i place stop in
      kept_on s d c k count at stop i rows place broken kept turn r n b
      (rw (er, en, eb) (told-right (measured_of one) f (read_little place stop one (values_child d c s k i place stop) kept.within (omega arith)) read h)) b' eb'

-- ---- what a caller is told by name; the number f tells the document

pub needed_too_long : (s : List ℕ) (depth : ℕ) → limit < length s → Err needs.TooLong ≡ needed depth s
unfolding needed
needed_too_long s depth h = rw (lt-leb (length s) limit h)

module _ (s : List ℕ) (depth f : ℕ) (read : f ≡ told (measured_of (document depth s))) (big : length s ≤ limit) where
  by_name : (x : Reading) → document depth s ≡ x → needed_for x ≡ needed depth s
  unfolding needed
  by_name x e = rw (le-leb (length s) limit big, e)

  pub needed-rows : f < 72057594037927936 → (r : ℕ) → r ≡ row_in f → Ok r ≡ needed depth s
  needed-rows h r e =
      let k : ReadRight (document depth s) f = read_right 0 (length s) (document depth s) (document_read depth s) (omega arith) big f read h in
      ap Ok (e ∙ sym k.rows) ∙ by_name (right k.tree (place_in f)) k.is

  pub needed-refused : 72057594037927936 ≤ f → (e : Refusal) (p : ℕ) → e ≡ refusal_of (number_wrong f) → p ≡ place_wrong f → Err (needs.Refused e p) ≡ needed depth s
  needed-refused h e p ee ep =
      ap₂ (λ (x : Refusal) (y : ℕ). Err (needs.Refused x y)) ee ep
      ∙ by_name (wrong (refusal_of (number_wrong f)) (place_wrong f)) (read_wrong 0 (length s) (document depth s) (document_read depth s) (omega arith) big f read h)
