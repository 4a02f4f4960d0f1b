-- Laws of tests, one behind the other. Assumes nothing.
use mathlib.Core.Path.{◌≡◌, refl, sym, ap, ◌∙◌}
use mathlib.Core.Bool.{Bool, true, false, ◌&&◌}

-- where the first fails, all do
pub and_no : (a p q : Bool) → a ≡ p → a ≡ false → false ≡ p && q
and_no a p q e f = ap (λ (b : Bool). b && q) (sym f ∙ e)

-- where it holds, the others decide
pub and_yes : (a p q r : Bool) → a ≡ p → a ≡ true → r ≡ q → r ≡ p && q
and_yes a p q r e f g = g ∙ ap (λ (b : Bool). b && q) (sym f ∙ e)

-- where all hold, each does
pub and_first : (p q : Bool) → p && q ≡ true → p ≡ true
and_first true q e = refl
and_first false q e = cc

pub and_second : (p q : Bool) → p && q ≡ true → q ≡ true
and_second true q e = e
and_second false q e = cc
