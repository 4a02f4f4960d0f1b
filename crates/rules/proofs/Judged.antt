-- The words of a row and their tests: a part of the data, and what a kind asks of them. Assumes nothing.
use mathlib.Core.Path.{◌≡◌, sym, ap, ap₂, ◌∙◌}
use mathlib.Core.Bool.{Bool, true, not}
use mathlib.Core.List.{List}
use Prim.Native.Nat.{ℕ, ◌+◌, ◌-◌, ◌≤◌}
use native.Mathlib.Omega.{arith}
use lib.ListN.{length, take, drop}
use lib.Dec.{leb}
use borrow.Author.Tests.{leb-true}
use Rattle.wide.specs.declared.wide.Wide.{Wide}
use Rattle.wide.specs.Words.{value_of, words}
use Rattle.wide.specs.Family.{has_number}
use Rattle.wide.specs.Members.{integer}
use Rattle.text.specs.Check.{text_of, well_formed}
use Rattle.rows.specs.Table.{Own}
use Rattle.format.specs.Head.{codepoint}
use Rattle.lists.proofs.Tests.{and_yes, and_first, and_second}
use Rattle.rules.specs.declared.kind.Kind.{Kind}
use Rattle.rules.specs.declared.kind.Kind.TheVariants.{Char}
use Rattle.rules.specs.Shape.{blank, inside, is_small, span, spelt, fits}

-- ---- a part of the data

pub inside_is : (s : List ℕ) (place size a b : ℕ) → a ≡ place → b ≡ size → leb (a + b) (length s) ≡ inside s place size
unfolding inside
inside_is s place size a b e f = ap₂ (λ (x y : ℕ). leb (x + y) (length s)) e f

module _ (s : List ℕ) (o : Own) where
  pub inside_within : inside s o.w0 o.w1 ≡ true → o.w0 + o.w1 ≤ length s
  unfolding inside
  inside_within e = leb-true (o.w0 + o.w1) (length s) e

  pub span_within : span s o ≡ true → o.w0 + o.w1 ≤ length s
  unfolding span
  span_within e = inside_within (and_second (blank 0 0 o.w2 o.w3) (inside s o.w0 o.w1) e)

  pub spelt-span : spelt s o ≡ true → span s o ≡ true
  unfolding spelt
  spelt-span e = and_first (span s o) (well_formed (text_of (take o.w1 (drop o.w0 s)))) e

  module _ (b : Bool) (is : b ≡ span s o) (holds : b ≡ true) (from size : ℕ) (f : from ≡ o.w0) (g : size ≡ o.w1) where
    pub part_within : from + size ≤ length s
    part_within = let h = span_within (sym is ∙ holds) in omega arith

    pub spelt_as : (r : Bool) → r ≡ well_formed (text_of (take (from + size - from) (drop from s))) → r ≡ spelt s o
    unfolding spelt
    spelt_as r e =
        let n : from + size - from ≡ o.w1 = omega arith in
        and_yes b (span s o) _ r is holds (e ∙ ap₂ (λ (x y : ℕ). well_formed (text_of (take x (drop y s)))) n f)

-- ---- an integer

module _ (signed b : Bool) (w : Wide) (o : Own) (is : w ≡ words o.w0 o.w1 o.w2 o.w3) (told : b ≡ has_number (integer signed).direct (value_of w)) where
  pub small_is : b ≡ is_small signed o
  small_is = told ∙ ap (λ (x : Wide). has_number (integer signed).direct (value_of x)) is

  pub large_is : not b ≡ not (is_small signed o)
  large_is = ap not small_is

-- ---- a kind

pub fits_as : (s : List ℕ) (o : Own) (k x : Kind) (r : Bool) → k ≡ x → r ≡ fits s o x → r ≡ fits s o k
fits_as s o k x r e f = f ∙ ap (fits s o) (sym e)

-- a char's codepoint, as a number to reckon with
pub char_yes : (s : List ℕ) (o : Own) (n : ℕ) (k : Kind) (b r : Bool) → k ≡ Char → b ≡ blank 0 o.w1 o.w2 o.w3 → b ≡ true → n ≡ o.w0 → r ≡ codepoint n → r ≡ fits s o k
unfolding fits
char_yes s o n k b r e is h q f = fits_as s o k Char r e (and_yes b (blank 0 o.w1 o.w2 o.w3) (codepoint o.w0) r is h (f ∙ ap codepoint q))
