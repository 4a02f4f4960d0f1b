-- What the shape of a row says of its words. Assumes nothing.
use mathlib.Core.Path.{◌≡◌, refl, sym, ap, ◌∙◌, subst}
use Prim.Native.Nat.{ℕ, ◌+◌, ◌≤◌, ◌<◌}
use native.Mathlib.Omega.{arith}
use mathlib.Core.Bool.{Bool, true, false, ◌&&◌}
use mathlib.Core.List.{List}
use lib.ListN.{length}
use Rattle.format.specs.Head.{float_sizes}
use Rattle.format.specs.declared.head.Holder.{Holder}
use Rattle.format.specs.Value.{kind_of}
use Rattle.rows.specs.Table.{aimed, Own}
use lib.Dec.{ltb, eqb}
use borrow.Author.Tests.{eqb-true, ltb-true, lt-ltb}
use Rattle.wide.proofs.Families.{cond-case}
use Rattle.rows.specs.Kinds.{kind_false, kind_true, kind_none, kind_small, kind_signed, kind_unsigned, kind_float, kind_text, kind_array, kind_record, kind_map, kind_binary, kind_char, kind_reference, kind_declaration, kind_foreign, kind_key, constant_own, span_own, holder_own, reference_own, declaration_own, foreign_own, damaged_own}
use Rattle.rules.specs.declared.kind.Kind.{Kind}
use Rattle.rules.specs.declared.kind.Kind.TheVariants.{Constant, Small, Signed, Unsigned, Float, Text, Holds, Binary, Char, Reference, Declaration, Whole, Damaged, Key, Unknown}
use Rattle.rules.specs.declared.shape.Shape.{Shape}
use Rattle.rules.specs.declared.shape.Shape.TheVariants as shape
use Rattle.rules.specs.Shape.{named, blank, inside, one_of, span, spelt, fits, shape_if, shape_of, key_fits}
use Rattle.lists.proofs.Tests.{and_first, and_second}
use Rattle.rules.proofs.Judged.{inside_within, span_within, spelt-span}

-- ---- words that are 0

-- the words behind the named ones
module _ (a b c d : ℕ) (e : blank a b c d ≡ true) where
  tests : eqb a 0 && (eqb b 0 && (eqb c 0 && eqb d 0)) ≡ true
  unfolding blank
  tests = e

  behind : eqb b 0 && (eqb c 0 && eqb d 0) ≡ true
  behind = and_second (eqb a 0) (eqb b 0 && (eqb c 0 && eqb d 0)) tests

  last : eqb c 0 && eqb d 0 ≡ true
  last = and_second (eqb b 0) (eqb c 0 && eqb d 0) behind

  pub blank-first : a ≡ 0
  blank-first = eqb-true a 0 (and_first (eqb a 0) (eqb b 0 && (eqb c 0 && eqb d 0)) tests)

  pub blank_second : b ≡ 0
  blank_second = eqb-true b 0 (and_first (eqb b 0) (eqb c 0 && eqb d 0) behind)

  pub blank_third : c ≡ 0
  blank_third = eqb-true c 0 (and_first (eqb c 0) (eqb d 0) last)

  pub blank_fourth : d ≡ 0
  blank_fourth = eqb-true d 0 (and_second (eqb c 0) (eqb d 0) last)

-- ---- what a kind's number is

abbrev pub Names : Kind → ℕ → Type 0
Names Constant k = (1 ≤ k) × (k ≤ 3)
Names Small k = k ≡ kind_small
Names Signed k = k ≡ kind_signed
Names Unsigned k = k ≡ kind_unsigned
Names Float k = k ≡ kind_float
Names Text k = k ≡ kind_text
Names (Holds h) k = k ≡ kind_of h
Names Binary k = k ≡ kind_binary
Names Char k = k ≡ kind_char
Names Reference k = k ≡ kind_reference
Names Declaration k = k ≡ kind_declaration
Names Whole k = k ≡ kind_foreign
Names Damaged k = k ≡ kind_foreign
Names Key k = k ≡ kind_key
Names Unknown k = Unit {0}

pub names : (o : Own) → Names (named o) o.kind
unfolding named
names o =
    cond-case N (eqb o.kind kind_false) _ _ (λ e. let q = eqb-true o.kind kind_false e in (omega arith, omega arith)) (λ _.
    cond-case N (eqb o.kind kind_true) _ _ (λ e. let q = eqb-true o.kind kind_true e in (omega arith, omega arith)) (λ _.
    cond-case N (eqb o.kind kind_none) _ _ (λ e. let q = eqb-true o.kind kind_none e in (omega arith, omega arith)) (λ _.
    cond-case N (eqb o.kind kind_small) _ _ (λ e. eqb-true o.kind kind_small e) (λ _.
    cond-case N (eqb o.kind kind_signed) _ _ (λ e. eqb-true o.kind kind_signed e) (λ _.
    cond-case N (eqb o.kind kind_unsigned) _ _ (λ e. eqb-true o.kind kind_unsigned e) (λ _.
    cond-case N (eqb o.kind kind_float) _ _ (λ e. eqb-true o.kind kind_float e) (λ _.
    cond-case N (eqb o.kind kind_text) _ _ (λ e. eqb-true o.kind kind_text e) (λ _.
    cond-case N (eqb o.kind kind_array) _ _ (λ e. eqb-true o.kind kind_array e) (λ _.
    cond-case N (eqb o.kind kind_record) _ _ (λ e. eqb-true o.kind kind_record e) (λ _.
    cond-case N (eqb o.kind kind_map) _ _ (λ e. eqb-true o.kind kind_map e) (λ _.
    cond-case N (eqb o.kind kind_binary) _ _ (λ e. eqb-true o.kind kind_binary e) (λ _.
    cond-case N (eqb o.kind kind_char) _ _ (λ e. eqb-true o.kind kind_char e) (λ _.
    cond-case N (eqb o.kind kind_reference) _ _ (λ e. eqb-true o.kind kind_reference e) (λ _.
    cond-case N (eqb o.kind kind_declaration) _ _ (λ e. eqb-true o.kind kind_declaration e) (λ _.
    cond-case N (eqb o.kind kind_foreign) _ _ (λ e. let q = eqb-true o.kind kind_foreign e in cond-case N (eqb o.w2 0) Whole Damaged (λ _. q) (λ _. q)) (λ _.
    cond-case N (eqb o.kind kind_key) _ _ (λ e. eqb-true o.kind kind_key e) (λ _.
    tt)))))))))))))))))
  where
    N : Kind → Type 0
    N K = Names K o.kind

pub key_named : (o : Own) → o.kind ≡ kind_key → named o ≡ Key
unfolding named
key_named o e = rw e

-- ---- what a row says, by its shape

own_is : (o p : Own) → o.kind ≡ p.kind → o.w0 ≡ p.w0 → o.w1 ≡ p.w1 → o.w2 ≡ p.w2 → o.w3 ≡ p.w3 → o ≡ p
own_is o p a b c d e = λ i. record { kind = a i; w0 = b i; w1 = c i; w2 = d i; w3 = e i }

abbrev pub Says : List ℕ → Own → Shape → Type 0
Says s o shape.Bad = Unit {0}
Says s o shape.Leaf = Unit {0}
Says s o shape.Refer = o ≡ reference_own o.w0 o.w1
Says s o (shape.Hold h) = o ≡ holder_own (kind_of h) o.w0
Says s o shape.Declare = (o ≡ declaration_own o.w0) × (0 < o.w0)
Says s o shape.Whole = o ≡ foreign_own
Says s o shape.Damaged = (o ≡ damaged_own o.w0 o.w1 o.w2) × (o.w0 + o.w1 ≤ length s)

module _ (s : List ℕ) (o : Own) where
  abbrev B : ℕ → Bool
  B a = blank a o.w1 o.w2 o.w3

  -- only w0 may be other than 0
  pub count-own : (kind a : ℕ) → o.kind ≡ kind → B a ≡ true → o ≡ holder_own kind o.w0
  count-own kind a m e =
      own_is o (holder_own kind o.w0) m refl (blank_second a o.w1 o.w2 o.w3 e) (blank_third a o.w1 o.w2 o.w3 e) (blank_fourth a o.w1 o.w2 o.w3 e)

  -- none may
  pub constant-own : (kind : ℕ) → o.kind ≡ kind → B o.w0 ≡ true → o ≡ constant_own kind
  constant-own kind m e = count-own kind o.w0 m e ∙ ap (holder_own kind) (blank-first o.w0 o.w1 o.w2 o.w3 e)

  -- only a place and a size
  pub span-own : (kind : ℕ) → o.kind ≡ kind → span s o ≡ true → o ≡ span_own kind o.w0 o.w1
  unfolding span
  span-own kind m e =
      let b : blank 0 0 o.w2 o.w3 ≡ true = and_first (blank 0 0 o.w2 o.w3) (inside s o.w0 o.w1) e in
      own_is o (span_own kind o.w0 o.w1) m refl refl (blank_third 0 0 o.w2 o.w3 b) (blank_fourth 0 0 o.w2 o.w3 b)

  by_kind : (k : Kind) → Names k o.kind → (b : Bool) → fits s o k ≡ b → Says s o (shape_if b k)
  unfolding fits
  by_kind k m false e = tt
  by_kind Constant m true e = tt
  by_kind Small m true e = tt
  by_kind Signed m true e = tt
  by_kind Unsigned m true e = tt
  by_kind Float m true e = tt
  by_kind Text m true e = tt
  by_kind (Holds h) m true e = count-own (kind_of h) 0 m e
  by_kind Binary m true e = tt
  by_kind Char m true e = tt
  by_kind Reference m true e =
      own_is o (reference_own o.w0 o.w1) m refl refl (blank_third 0 0 o.w2 o.w3 e) (blank_fourth 0 0 o.w2 o.w3 e)
  by_kind Declaration m true e = (count-own kind_declaration 0 m (and_first (B 0) (ltb 0 o.w0) e), ltb-true 0 o.w0 (and_second (B 0) (ltb 0 o.w0) e))
  by_kind Whole m true e = constant-own kind_foreign m e
  by_kind Damaged m true e = (
    own_is o (damaged_own o.w0 o.w1 o.w2) m refl refl refl (blank_fourth 0 0 0 o.w3 (and_first (blank 0 0 0 o.w3) (inside s o.w0 o.w1) e)),
    inside_within s o (and_second (blank 0 0 0 o.w3) (inside s o.w0 o.w1) e),
  )
  by_kind Key m true e = tt
  by_kind Unknown m true e = tt

  pub says : Says s o (shape_of s o)
  unfolding shape_of
  says = by_kind (named o) (names o) (fits s o (named o)) refl

  -- the same where the shape is known
  said_as : (x : Shape) → shape_of s o ≡ x → Says s o x
  said_as x e = subst (Says s o) e says

  pub refer-own : shape_of s o ≡ shape.Refer → o ≡ reference_own o.w0 o.w1
  refer-own e = said_as shape.Refer e

  pub hold-own : (h : Holder) → shape_of s o ≡ shape.Hold h → o ≡ holder_own (kind_of h) o.w0
  hold-own h e = said_as (shape.Hold h) e

  pub declare-own : shape_of s o ≡ shape.Declare → o ≡ declaration_own o.w0
  declare-own e = (said_as shape.Declare e).0

  pub declare-some : shape_of s o ≡ shape.Declare → 0 < o.w0
  declare-some e = (said_as shape.Declare e).1

  pub foreign-own : shape_of s o ≡ shape.Whole → o ≡ foreign_own
  foreign-own e = said_as shape.Whole e

  pub damaged-own : shape_of s o ≡ shape.Damaged → o ≡ damaged_own o.w0 o.w1 o.w2
  damaged-own e = (said_as shape.Damaged e).0

  pub damaged-inside : shape_of s o ≡ shape.Damaged → o.w0 + o.w1 ≤ length s
  damaged-inside e = (said_as shape.Damaged e).1

-- ---- shapes of rows that trees lay

pub refer_shape : (s : List ℕ) (number entry : ℕ) → shape_of s (reference_own number entry) ≡ shape.Refer
unfolding shape_of named fits blank
refer_shape s number entry = refl

pub declare_shape : (s : List ℕ) (count : ℕ) → 0 < count → shape_of s (declaration_own count) ≡ shape.Declare
unfolding shape_of named fits blank
declare_shape s count h = rw (lt-ltb 0 count h)

-- a reference is one wherever its entry stands
pub aimed_shape : (s : List ℕ) (o : Own) (entry : ℕ) → shape_of s o ≡ shape.Refer → shape_of s (aimed o entry) ≡ shape.Refer
aimed_shape s o entry e = ap (λ (p : Own). shape_of s (aimed p entry)) (refer-own s o e) ∙ refer_shape s o.w0 entry

-- ---- payloads

-- a leaf's payload lies in the data
abbrev pub HasInside : ℕ → Own → Shape → Type 0
HasInside l o shape.Bad = Unit {0}
HasInside l o shape.Leaf = o.w0 + o.w1 ≤ l
HasInside l o shape.Refer = ⊥
HasInside l o (shape.Hold h) = ⊥
HasInside l o shape.Declare = ⊥
HasInside l o shape.Whole = ⊥
HasInside l o shape.Damaged = ⊥

pub spelt_within : (s : List ℕ) (o : Own) → spelt s o ≡ true → o.w0 + o.w1 ≤ length s
spelt_within s o e = span_within s o (spelt-span s o e)

module _ (s : List ℕ) (o : Own) (f : key_fits s o ≡ true) where
  pub key_kind : o.kind ≡ kind_key
  key_kind = eqb-true o.kind kind_key (and_first (eqb o.kind kind_key) (spelt s o) f)

  pub key_spelt : spelt s o ≡ true
  key_spelt = and_second (eqb o.kind kind_key) (spelt s o) f

  pub key_inside : o.w0 + o.w1 ≤ length s
  key_inside = spelt_within s o key_spelt

module _ (s : List ℕ) (o : Own) (x : Shape) (is : shape_of s o ≡ x) where
  abbrev P : Shape → Type 0
  P = HasInside (length s) o

  abbrev S : Bool
  S = span s o

  pub float-inside : o.kind ≡ kind_float → P x
  unfolding shape_of named fits span
  float-inside e = subst P (rw e at is) (of (S && one_of float_sizes o.w1) refl)
    where
      of : (b : Bool) → S && one_of float_sizes o.w1 ≡ b → P (shape_if b Float)
      of true q = span_within s o (and_first S (one_of float_sizes o.w1) q)
      of false q = tt

  pub text-inside : o.kind ≡ kind_text → P x
  unfolding shape_of named fits spelt span
  text-inside e = subst P (rw e at is) (of (spelt s o) refl)
    where
      of : (b : Bool) → spelt s o ≡ b → P (shape_if b Text)
      of true q = spelt_within s o q
      of false q = tt

  pub binary-inside : o.kind ≡ kind_binary → P x
  unfolding shape_of named fits span
  binary-inside e = subst P (rw e at is) (of S refl)
    where
      of : (b : Bool) → S ≡ b → P (shape_if b Binary)
      of true q = span_within s o q
      of false q = tt

  -- a key stands at no value position
  pub key_bad : o.kind ≡ kind_key → x ≡ shape.Bad
  unfolding shape_of
  key_bad e = sym is ∙ ap (λ (K : Kind). shape_if (fits s o K) K) (key_named o e) ∙ of (fits s o Key)
    where
      of : (b : Bool) → shape_if b Key ≡ shape.Bad
      of true = refl
      of false = refl

-- ---- kinds that only one shape has

abbrev pub OnlyRefer : Shape → Type 0
OnlyRefer shape.Bad = Unit {0}
OnlyRefer shape.Leaf = ⊥
OnlyRefer shape.Refer = Unit {0}
OnlyRefer (shape.Hold h) = ⊥
OnlyRefer shape.Declare = ⊥
OnlyRefer shape.Whole = ⊥
OnlyRefer shape.Damaged = ⊥

abbrev pub OnlyDeclare : Shape → Type 0
OnlyDeclare shape.Bad = Unit {0}
OnlyDeclare shape.Leaf = ⊥
OnlyDeclare shape.Refer = ⊥
OnlyDeclare (shape.Hold h) = ⊥
OnlyDeclare shape.Declare = Unit {0}
OnlyDeclare shape.Whole = ⊥
OnlyDeclare shape.Damaged = ⊥

module _ (s : List ℕ) (o : Own) (x : Shape) (is : shape_of s o ≡ x) where
  pub reference_shape : o.kind ≡ kind_reference → OnlyRefer x
  unfolding shape_of named fits
  reference_shape e = subst OnlyRefer (rw e at is) (of (fits s o Reference))
    where
      of : (b : Bool) → OnlyRefer (shape_if b Reference)
      of true = tt
      of false = tt

  pub declaration_shape : o.kind ≡ kind_declaration → OnlyDeclare x
  unfolding shape_of named fits
  declaration_shape e = subst OnlyDeclare (rw e at is) (of (fits s o Declaration))
    where
      of : (b : Bool) → OnlyDeclare (shape_if b Declaration)
      of true = tt
      of false = tt
