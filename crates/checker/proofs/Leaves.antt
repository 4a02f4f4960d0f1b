-- Rows that have no child, a law for each way out of the code. Assumes nothing.
use mathlib.Core.Path.{◌≡◌, refl, sym, ap, ap₂, ◌∙◌}
use mathlib.Core.Bool.{Bool, true, false, cond}
use mathlib.Core.List.{List}
use Prim.Native.Nat.{ℕ, ◌+◌, ◌≤◌, ◌<◌}
use native.Mathlib.Omega.{arith}
use lib.ListN.{length, get_or}
use lib.Dec.{ltb, eqb}
use borrow.Author.Tests.{lt-ltb, le-ltb, eq-eqb, ne_eqb}
use Rattle.rows.specs.declared.row.Row.{Row}
use Rattle.rows.specs.Table.{own_of, row_at, limit, aimed}
use Rattle.rows.specs.Kinds.{kind_key}
use Rattle.registry.specs.Inner.{walk, chain}
use Rattle.registry.proofs.Walks.{length-chain, chain_at}
use Rattle.format.specs.declared.refusal.Refusal.{Refusal}
use Rattle.format.specs.Value.{Reading, wrong, in_foreign, value, whole}
use Rattle.format.proofs.Values.{ReadAt, value_read, whole_read}
use Rattle.measure.specs.Inner.{measured_of, told, number_wrong, place_wrong, refusal_of}
use Rattle.measure.proofs.Numbers.{read_right, read_wrong, wrong-number}
use Rattle.rules.specs.declared.shape.Shape.{Shape}
use Rattle.rules.specs.declared.shape.Shape.TheVariants.{Bad, Leaf, Refer, Hold, Declare, Whole, Damaged}
use Rattle.format.specs.Tree.{leaf, refer, damaged}
use Rattle.rules.specs.Shape.{spelt, shape_of, key_fits}
use Rattle.rules.specs.Grow.{Growth, grew, bad, ends_at, key_row, grow_key, pointing, judged}
use Rattle.std.specs.Prelude.{Option, Some, None}
use Rattle.std.specs.Bool.{then_some}
use Rattle.checker.specs.Inner.{is_alone, stands_alone, extent_of, ending_at, verdict_is}
use Rattle.format.specs.Refusal.{refusal_number}

-- ---- where a row ends

pub ends_yes : (end next e : ℕ) (g : Option ℕ) → g ≡ Some next → e ≡ end → next ≡ e → Some next ≡ ending_at end g
ends_yes end next e g q f h = rw (q, eq-eqb next end (h ∙ f))

pub ends-other : (end next e : ℕ) (g : Option ℕ) → g ≡ Some next → e ≡ end → (next ≡ e → ⊥) → None ≡ ending_at end g
ends-other end next e g q f h = rw (q, ne_eqb next end (λ x. h (x ∙ sym f)))

-- the same of what grows
pub ends-grown : (end : ℕ) (g : Growth) → extent_of (ends_at end g) ≡ ending_at end (extent_of g)
ends-grown end (grew t next) = go (eqb next end)
  where
    go : (b : Bool) → extent_of (cond b (grew t next) bad) ≡ cond b (Some next) None
    go true = refl
    go false = refl
ends-grown end bad = refl

-- ---- a key

module _ (s : List ℕ) (row : ℕ) (w : Row) where
  pub key_other : (w.kind ≡ kind_key → ⊥) → None ≡ extent_of (key_row s row w)
  key_other h = rw (ne_eqb w.kind kind_key h)

  module _ (is : w.kind ≡ kind_key) (b : Bool) (words : b ≡ spelt s (own_of w)) where
    fits_as : (v : Bool) → b ≡ v → key_fits s (own_of w) ≡ v
    fits_as v e = rw (eq-eqb w.kind kind_key is) (sym words ∙ e)

    pub key_yes : (r : Option ℕ) → b ≡ true → r ≡ ending_at w.end (Some (row + 1)) → r ≡ extent_of (key_row s row w)
    key_yes r e f = rw (fits_as true e) (f ∙ sym (ends-grown w.end (grew (leaf (own_of w)) (row + 1))))

    pub key_no : b ≡ false → None ≡ extent_of (key_row s row w)
    key_no e = rw (fits_as false e)

pub key_in : (table : List ℕ) (n : ℕ) (s : List ℕ) (row : ℕ) (w : Row) (r : Option ℕ) → row < n → w ≡ row_at table row → r ≡ extent_of (key_row s row w) → r ≡ extent_of (grow_key table n s row)
unfolding grow_key
key_in table n s row w r h q e = rw (lt-ltb row n h, ← q) e

pub key_out : (table : List ℕ) (n : ℕ) (s : List ℕ) (row : ℕ) → n ≤ row → None ≡ extent_of (grow_key table n s row)
unfolding grow_key
key_out table n s row h = rw (le-ltb row n h)

-- ---- a leaf that ends behind itself

pub alone-leaf : (x : Shape) (row end e : ℕ) → x ≡ Leaf → e ≡ end → eqb e (row + 1) ≡ is_alone x row end
alone-leaf x row end e q f = rw (q, f)

not_alone : (x : Shape) (row end : ℕ) → (end ≡ row + 1 → ⊥) → is_alone x row end ≡ false
not_alone Bad row end f = refl
not_alone Leaf row end f = ne_eqb end (row + 1) f
not_alone Refer row end f = refl
not_alone (Hold h) row end f = refl
not_alone Declare row end f = refl
not_alone Whole row end f = refl
not_alone Damaged row end f = refl

module _ (table : List ℕ) (n : ℕ) (s : List ℕ) (row : ℕ) where
  pub alone_out : n ≤ row → false ≡ stands_alone table n s row
  unfolding stands_alone
  alone_out h = rw (le-ltb row n h)

  -- a row that ends elsewhere than behind itself
  pub alone_elsewhere : (w : Row) (e : ℕ) → row < n → w ≡ row_at table row → e ≡ w.end → (e ≡ row + 1 → ⊥) → eqb e (row + 1) ≡ stands_alone table n s row
  unfolding stands_alone
  alone_elsewhere w e h q i f =
      rw (ne_eqb e (row + 1) f, lt-ltb row n h) (sym (not_alone (shape_of s (own_of (row_at table row))) row (row_at table row).end (λ z. f (i ∙ ap (λ (v : Row). v.end) q ∙ z))))

  pub alone_in : (w : Row) (x : Shape) (r : Bool) → row < n → w ≡ row_at table row → x ≡ shape_of s (own_of w) → r ≡ is_alone x row w.end
      → r ≡ stands_alone table n s row
  unfolding stands_alone
  alone_in w x r h q e f = rw (lt-ltb row n h, ← q, ← e) f

-- ---- a reference

module _ (table : List ℕ) (first k row : ℕ) (w : Row) (number : ℕ) (is : number ≡ w.w0) where
  A : Bool
  A = ltb w.w0 (length (chain table first k))

  known : number < k → A ≡ true
  unfolding A
  known l = lt-ltb w.w0 (length (chain table first k)) (omega (arith, length-chain table first k))

  module _ (l : number < k) (entry said : ℕ) (at : entry ≡ walk table first number) (f : said ≡ w.w1) where
    row_of : get_or (chain table first k) w.w0 0 ≡ entry
    row_of = chain_at table first k w.w0 (omega arith) ∙ ap (walk table first) (sym is) ∙ sym at

    pub refer_in : (r : Option ℕ) → r ≡ then_some (eqb said entry) (row + 1) → r ≡ extent_of (pointing (chain table first k) row (own_of w))
    unfolding A
    refer_in r is =
        rw (known l) (is ∙ ap₂ (λ (x y : ℕ). then_some (eqb x y) (row + 1)) f (sym row_of) ∙ go (eqb w.w1 (get_or (chain table first k) w.w0 0)))
      where
        go : (b : Bool) → then_some b (row + 1) ≡ extent_of (cond b (grew (refer (aimed (own_of w) 0)) (row + 1)) bad)
        go true = refl
        go false = refl

    pub refer_yes : said ≡ entry → Some (row + 1) ≡ extent_of (pointing (chain table first k) row (own_of w))
    refer_yes e = refer_in (Some (row + 1)) (rw (eq-eqb said entry e))

    pub refer-other : (said ≡ entry → ⊥) → None ≡ extent_of (pointing (chain table first k) row (own_of w))
    refer-other e = refer_in None (rw (ne_eqb said entry e))

  pub refer_out : k ≤ number → None ≡ extent_of (pointing (chain table first k) row (own_of w))
  refer_out l = rw (le-ltb w.w0 (length (chain table first k)) (omega (arith, length-chain table first k)))

-- ---- a damaged body, whose bytes are measured; the number m tells them

judged-wrong : (row : ℕ) (w : Row) (x : Reading) (e : Refusal) (p v : ℕ) → x ≡ wrong e p → v ≡ refusal_number e → verdict_is row w.w2 v ≡ extent_of (judged row (own_of w) x)
judged-wrong row w x e p v h is = rw (h, is) (go (eqb w.w2 (refusal_number e)))
  where
    go : (b : Bool) → cond b (Some (row + 1)) None ≡ extent_of (cond b (grew (damaged (own_of w)) (row + 1)) bad)
    go true = refl
    go false = refl

module _ (s : List ℕ) (row d around k place size : ℕ) (w : Row) (in-force : k ≡ in_foreign around) (f : place ≡ w.w0) (g : size ≡ w.w1) (m : ℕ)
    (read : m ≡ told (measured_of (whole (place + size) (value d s k place (place + size))))) (inside : w.w0 + w.w1 ≤ length s) (big : length s ≤ limit) where
  abbrev stop : ℕ
  stop = w.w0 + w.w1

  abbrev x : Reading
  x = whole stop (value d s (in_foreign around) w.w0 stop)

  there : m ≡ told (measured_of x)
  there =
      read ∙ ap₂ (λ (a b : ℕ). told (measured_of (whole (a + b) (value d s k a (a + b))))) f g ∙ ap (λ (a : ℕ). told (measured_of (whole stop (value d s a w.w0 stop)))) in-force

  x_read : ReadAt w.w0 stop x
  x_read = whole_read w.w0 stop (value d s (in_foreign around) w.w0 stop) (value_read d s (in_foreign around) w.w0 stop)

  pub damaged-wrong : 72057594037927936 ≤ m → (v : ℕ) (q : Option ℕ) → v ≡ number_wrong m → q ≡ verdict_is row w.w2 v
      → q ≡ extent_of (judged row (own_of w) (whole (w.w0 + w.w1) (value d s (in_foreign around) w.w0 (w.w0 + w.w1))))
  damaged-wrong h v q is j =
      let e : x ≡ wrong (refusal_of (number_wrong m)) (place_wrong m) = read_wrong w.w0 stop x x_read (omega arith) (omega arith) m there h in
      j ∙ judged-wrong row w x (refusal_of (number_wrong m)) (place_wrong m) v e (is ∙ wrong-number w.w0 stop x x_read (omega arith) (omega arith) m there _ _ e)

  pub damaged-right : m < 72057594037927936 → None ≡ extent_of (judged row (own_of w) (whole (w.w0 + w.w1) (value d s (in_foreign around) w.w0 (w.w0 + w.w1))))
  damaged-right h = sym (ap (λ (z : Reading). extent_of (judged row (own_of w) z)) (read_right w.w0 stop x x_read (omega arith) (omega arith) m there h).is)
