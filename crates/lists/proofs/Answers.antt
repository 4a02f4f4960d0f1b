-- Two answers that a promise allows are equal, where the promise is an equation with what its definition gives, and so are two lists
-- afterwards: one law serves them all. Assumes nothing.
use mathlib.Core.Path.{◌≡◌, sym, ◌∙◌}

pub one_answer : {A : Type 0} (x a b : A) → a ≡ x → b ≡ x → a ≡ b
one_answer x a b p q = p ∙ sym q
