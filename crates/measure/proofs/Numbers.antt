-- What one number tells is read from it again, where places and rows are within the limit; the law for each part. Assumes nothing.
use mathlib.Core.Path.{◌≡◌, refl, sym, ap, ap₂, ◌∙◌}
use mathlib.Core.Bool.{Bool, true, false}
use Prim.Native.Nat.{ℕ, ◌+◌, ◌*◌, ◌/◌, ◌%◌, ◌≤◌, ◌<◌}
use native.Mathlib.Omega.{arith}
use native.Mathlib.Nat.{add-zero}
use borrow.Author.Tests.{le-leb, lt-leb, eq-eqb, ne_eqb}
use mir.Syntax.{w64}
use mir.Val.{Fits}
use Rattle.rows.specs.Table.{limit}
use Rattle.format.specs.declared.refusal.Refusal.{Refusal}
use Rattle.format.specs.declared.refusal.Refusal.TheVariants as why
use Rattle.format.specs.Refusal.{refusal_number}
use Rattle.format.specs.Tree.{Tree, size}
use Rattle.format.specs.Value.{Reading, right, wrong, Readings, ran, broke}
use Rattle.format.proofs.Values.{ReadAt, RunAt, verdict-low, verdict_high}
use Rattle.measure.specs.Inner.{Measured, Right, Wrong, measured_of, measured_all, harmed, place_and_row, place_in, row_in, told, is_broken, number_wrong, place_wrong, refusal_of, ended_at}

-- its numbers are within the limit
abbrev pub Little : Measured → Type 0
Little (Right rows next broken) = (rows ≤ limit) × (next ≤ limit)
Little (Wrong e place) = place ≤ limit

-- ---- the parts

row-part : (r n x f : ℕ) → r ≤ limit → f ≡ n + 16777216 * r + 281474976710656 * x → n ≤ limit → f / 16777216 % 16777216 ≡ r
row-part r n x f a e b = omega arith

place-part : (r n x f : ℕ) → f ≡ n + 16777216 * r + 281474976710656 * x → n ≤ limit → f % 16777216 ≡ n
place-part r n x f e b = omega arith

number-part : (e p f : ℕ) → f ≡ p + 72057594037927936 * e → p ≤ limit → f / 72057594037927936 ≡ e
number-part e p f q b = omega arith

wrong-part : (e p f : ℕ) → f ≡ p + 72057594037927936 * e → p ≤ limit → f % 72057594037927936 ≡ p
wrong-part e p f q b = omega arith

few : (r n f : ℕ) → r ≤ limit → n ≤ limit → f ≡ n + 16777216 * r → f < 281474976710656
few r n f a b e = omega arith

-- a refusal is known by its number
refusal_back : (e : Refusal) → refusal_of (refusal_number e) ≡ e
unfolding refusal_of
refusal_back why.Short = refl
refusal_back why.Marker = refl
refusal_back why.Huge = refl
refusal_back why.Text = refl
refusal_back why.Char = refl
refusal_back why.NoEntry = refl
refusal_back why.Empty = refl
refusal_back why.Deep = refl
refusal_back why.Extra = refl

-- ---- all of it

pub told-right : (m : Measured) (f : ℕ) → Little m → f ≡ told m → f < 72057594037927936 → m ≡ Right (row_in f) (place_in f) (is_broken f)
unfolding told
told-right (Right r n true) f a e l =
    let q : f ≡ n + 16777216 * r + 281474976710656 * 1 = omega arith in
    rw (row-part r n 1 f a.0 q a.1, place-part r n 1 f q a.1, le-leb 281474976710656 f (omega arith))
told-right (Right r n false) f a e l =
    let q : f ≡ n + 16777216 * r + 281474976710656 * 0 = omega arith in
    rw (row-part r n 0 f a.0 q a.1, place-part r n 0 f q a.1, lt-leb 281474976710656 f (few r n f a.0 a.1 (omega arith)))
told-right (Wrong e p) f a q l = absurd (omega (arith, verdict-low e))

pub told-wrong : (m : Measured) (f : ℕ) → Little m → f ≡ told m → 72057594037927936 ≤ f → m ≡ Wrong (refusal_of (number_wrong f)) (place_wrong f)
unfolding told
told-wrong (Right r n true) f a e l = absurd (omega (arith, a.0, a.1))
told-wrong (Right r n false) f a e l = absurd (omega (arith, a.0, a.1))
told-wrong (Wrong e p) f a q l = rw (number-part (refusal_number e) p f q a, wrong-part (refusal_number e) p f q a, refusal_back e)

-- ---- how the code tells it

pub tell_broken : (r n f : ℕ) (b : Bool) → f ≡ place_and_row n r → b ≡ true → f + 281474976710656 ≡ told (Right r n b)
unfolding told
tell_broken r n f b e h = rw (h, e)

pub tell_sound : (r n f : ℕ) (b : Bool) → f ≡ place_and_row n r → b ≡ false → f ≡ told (Right r n b)
unfolding told
tell_sound r n f b e h = rw h (e ∙ sym (add-zero (place_and_row n r)))

module _ (e : Refusal) (p v : ℕ) (is : v ≡ refusal_number e) where
  pub tell_wrong : p + 72057594037927936 * v ≡ told (Wrong e p)
  unfolding told
  tell_wrong = rw is

  pub number_fits : Fits w64 (72057594037927936 * v)
  number_fits = omega (arith, verdict_high e)

  pub wrong-fits : p ≤ limit → Fits w64 (p + 72057594037927936 * v)
  wrong-fits l = omega (arith, verdict_high e)

module _ (f stop : ℕ) where
  pub end_refused : 72057594037927936 ≤ f → f ≡ ended_at stop f
  unfolding ended_at
  end_refused h = rw (le-leb 72057594037927936 f h)

  module _ (h : f < 72057594037927936) (n : ℕ) (en : n ≡ place_in f) where
    pub end_there : n ≡ stop → f ≡ ended_at stop f
    unfolding ended_at
    end_there i = rw (lt-leb 72057594037927936 f h, eq-eqb (place_in f) stop (sym en ∙ i))

    pub end-longer : (n ≡ stop → ⊥) → (v : ℕ) → v ≡ told (Wrong why.Extra n) → v ≡ ended_at stop f
    unfolding ended_at
    end-longer i v e = rw (lt-leb 72057594037927936 f h, ne_eqb (place_in f) stop (λ q. i (en ∙ q))) (e ∙ ap (λ (p : ℕ). told (Wrong why.Extra p)) en)

-- ---- of a reading

pub read_little : (at stop : ℕ) (x : Reading) → ReadAt at stop x → at ≤ stop → stop ≤ limit → Little (measured_of x)
read_little at stop (right t n) k a l = (omega (arith, k.rows, k.within), omega (arith, k.within))
read_little at stop (wrong e p) k a l = omega (arith, k.within a)

pub run_little : (at stop : ℕ) (y : Readings) → RunAt at stop y → stop ≤ limit → Little (measured_all y)
run_little at stop (ran ts n) k l = (omega (arith, k.rows, k.within), omega (arith, k.within))
run_little at stop (broke e p) k l = omega (arith, k.within)

-- a right reading, by the number that tells it
pub record ReadRight (x : Reading) (f : ℕ) : Type 0 where
  pub tree : Tree
  pub is : x ≡ right tree (place_in f)
  pub rows : size tree ≡ row_in f
  pub broken : harmed tree ≡ is_broken f

by_right : (x : Reading) (r n : ℕ) (b : Bool) → measured_of x ≡ Right r n b → (f : ℕ) → r ≡ row_in f → n ≡ place_in f → b ≡ is_broken f → ReadRight x f
by_right (right t m) r n b e f u v w =
    let i : m ≡ n = cc in
    record { tree = t; is = ap (right t) (i ∙ v); rows = (let h : size t ≡ r = cc in h ∙ u); broken = (let g : harmed t ≡ b = cc in g ∙ w) }
by_right (wrong y p) r n b e f u v w = absurd (let z : ◌≡◌ {A = ℕ} 0 1 = cc in omega arith)

by_wrong : (x : Reading) (e : Refusal) (p : ℕ) → measured_of x ≡ Wrong e p → x ≡ wrong e p
by_wrong (right t m) e p q = absurd (let z : ◌≡◌ {A = ℕ} 0 1 = cc in omega arith)
by_wrong (wrong y m) e p q = let i : y ≡ e = cc in let j : m ≡ p = cc in ap₂ wrong i j

module _ (at stop : ℕ) (x : Reading) (read : ReadAt at stop x) (a : at ≤ stop) (l : stop ≤ limit) (f : ℕ) (e : f ≡ told (measured_of x)) where
  pub read_right : f < 72057594037927936 → ReadRight x f
  read_right h = by_right x (row_in f) (place_in f) (is_broken f) (told-right (measured_of x) f (read_little at stop x read a l) e h) f refl refl refl

  pub read_wrong : 72057594037927936 ≤ f → x ≡ wrong (refusal_of (number_wrong f)) (place_wrong f)
  read_wrong h = by_wrong x (refusal_of (number_wrong f)) (place_wrong f) (told-wrong (measured_of x) f (read_little at stop x read a l) e h)

-- a refusal's number is told
pub wrong-number : (at stop : ℕ) (x : Reading) (read : ReadAt at stop x) → at ≤ stop → stop ≤ limit → (f : ℕ) → f ≡ told (measured_of x)
    → (e : Refusal) (p : ℕ) → x ≡ wrong e p → number_wrong f ≡ refusal_number e
unfolding told
wrong-number at stop (right t n) read a l f q e p h = absurd (let z : ◌≡◌ {A = ℕ} 0 1 = cc in omega arith)
wrong-number at stop (wrong y m) read a l f q e p h =
    let i : y ≡ e = cc in
    number-part (refusal_number y) m f q (omega (arith, read.within a)) ∙ ap refusal_number i
