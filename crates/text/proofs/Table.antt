-- The table's lines: which bytes a range has, and that the first byte of a sequence tells its line. Assumes nothing.
use Prim.Native.Nat.{ℕ, suc, ◌≤◌, ◌<◌}
use mathlib.Core.Bool.{Bool, true, false, ◌&&◌, false≢true}
use mathlib.Core.List.{List, [], ◌∷◌}
use mathlib.Core.Path.{◌≡◌, refl, sym, ◌∙◌}
use native.Mathlib.Omega.{arith}
use borrow.Author.Rules.{rules}
use borrow.Author.Tests.{le-leb, lt-leb, leb-true}
use lib.Dec.{leb}
use lib.ListN.{length, replicate}
use Rattle.text.specs.Syntax.{◌to◌, Line, UTF8-tail, UTF8-char}
use Rattle.text.specs.Check.{in_range, taken}

pub within_true : (low high b : ℕ) → low ≤ b → b ≤ high → in_range (low to high) b ≡ true
within_true low high b p q = simp (le-leb, p, q)

pub within_false : (low high b : ℕ) → (low ≤ b → high < b) → in_range (low to high) b ≡ false
within_false low high b p = go (leb low b) refl
  where
    go : (t : Bool) → leb low b ≡ t → t && leb b high ≡ false
    go true e = lt-leb b high (p (leb-true low b e))
    go false e = refl

pub within_bounds : (low high b : ℕ) → in_range (low to high) b ≡ true → (low ≤ b) × (b ≤ high)
within_bounds low high b w = go (leb low b) refl w
  where
    go : (t : Bool) → leb low b ≡ t → t && leb b high ≡ true → (low ≤ b) × (b ≤ high)
    go true e q = (leb-true low b e, leb-true b high q)
    go false e q = absurd (false≢true q)

-- what a test of a range says, and a test of a byte
pub by_test : (low high b : ℕ) (x y : Bool) → x ≡ in_range (low to high) b → x ≡ y → in_range (low to high) b ≡ y
by_test low high b x y e t = sym e ∙ t

pub this_byte : (byte b : ℕ) → b ≡ byte → in_range (byte to byte) b ≡ true
this_byte byte b e = within_true byte byte b (omega arith) (omega arith)

pub other_byte : (byte b : ℕ) → (b ≡ byte → ⊥) → in_range (byte to byte) b ≡ false
other_byte byte b e = within_false byte byte b (λ h. omega arith)

-- behind its second range a line has tails alone; l is the line without its first
abbrev pub Tailed : Line → Type 0
Tailed [] = Unit {0}
Tailed (r ∷ l) = l ≡ replicate (length l) UTF8-tail

-- the first ranges rise from line to line, from floor on
abbrev pub Ordered : ℕ → List Line → Type 0
Ordered floor [] = Unit {0}
Ordered floor ([] ∷ ls) = ⊥
Ordered floor ((low to high ∷ l) ∷ ls) = (floor ≤ low) × (low ≤ high) × Tailed l × Ordered (suc high) ls

pub ordered : Ordered 0 UTF8-char
ordered = search rules depth 12

-- below the first ranges no line fits
pub below : (floor : ℕ) (ls : List Line) → Ordered floor ls → (b : ℕ) → b < floor → (s : List ℕ) → taken ls (b ∷ s) ≡ 0
below floor [] o b h s = refl
below floor ([] ∷ ls) o b h s = absurd o
below floor ((low to high ∷ l) ∷ ls) o b h s = simp (within_false low high b (omega arith)) (below (suc high) ls o.3 b (omega arith) s)
