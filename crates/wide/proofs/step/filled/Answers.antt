-- `wide::step::filled` meets its contract. Assumes nothing.
use mathlib.Core.Path.{◌≡◌, ◌∙◌, ap, sym, refl}
use mathlib.Core.Bool.{Bool, true}
use Rattle.wide.specs.Words.{wide_end, words, wide_of}
use Rattle.wide.specs.Body.{extended}
use Rattle.wide.proofs.step.filled.Goals as goal

ones : words 4294967295 4294967295 4294967295 4294967295 ≡ wide_of (extended true 0 0)
unfolding wide_end wide_of
ones = refl

zeros : words 0 0 0 0 ≡ wide_of 0
unfolding wide_of
zeros = refl

pub returns-then-ones : goal.returns-then-ones
returns-then-ones c = ones ∙ ap (λ (b : Bool). wide_of (extended b 0 0)) (sym c.if-ones.true)

pub returns-else-ones : goal.returns-else-ones
returns-else-ones c = zeros ∙ ap (λ (b : Bool). wide_of (extended b 0 0)) (sym c.if-ones.false)
