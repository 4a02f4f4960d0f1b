-- `wide::integer::is_small` meets its contract: -31 is 31 before 0, and an unsigned number is not below 0. Assumes nothing.
use mathlib.Core.Path.{ap, ◌∙◌}
use Prim.Native.Nat.{ℕ}
use lib.Dec.{ltb}
use Rattle.wide.specs.Words.{value_of}
use Rattle.wide.proofs.Nearness.{behind_zero}
use Rattle.wide.proofs.integer.is_small.Goals as goal

pub returns-then-signed : goal.returns-then-signed
returns-then-signed c = rw c.if-signed.true c.is_near.ensures

pub returns : goal.returns
returns c =
    rw c.if-signed.false (c.is_near-2.ensures ∙ ap (λ (x : ℕ). ltb x 65) (behind_zero (value_of c.args.w)))
