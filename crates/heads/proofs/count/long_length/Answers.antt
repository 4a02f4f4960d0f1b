-- `heads::count::long_length` meets its contract. Assumes nothing.
use mathlib.Core.Path.{◌∙◌, sym}
use native.Mathlib.Omega.{arith}
use Rattle.heads.proofs.Counts.{got_there, got_is, got_huge, got_short}
use Rattle.heads.proofs.count.long_length.Goals as goal

pub overflow_add-result : goal.overflow_add-result
overflow_add-result c =
    let a = c.args in
    omega (arith, got_there a.s.now a.at a.stop (λ i. (c.type_inv.s i).fits) _ (sym c.in-Ok.is ∙ c.read_unsigned-r.ensures) c.requires.0 c.requires.1)

pub returns-then-within : goal.returns-then-within
returns-then-within c =
    let a = c.args in
    got_is a.s.now a.at a.stop (λ i. (c.type_inv.s i).fits) _ c.number.result c.within.result (sym c.in-Ok.is ∙ c.read_unsigned-r.ensures) c.within.ensures c.if-within.true c.number.ensures.0

pub returns-else-within : goal.returns-else-within
returns-else-within c =
    let a = c.args in
    got_huge a.s.now a.at a.stop (λ i. (c.type_inv.s i).fits) _ c.within.result (sym c.in-Ok.is ∙ c.read_unsigned-r.ensures) c.within.ensures c.if-within.false

pub returns-in-Err : goal.returns-in-Err
returns-in-Err c =
    let a = c.args in
    got_short a.s.now a.at a.stop (λ i. (c.type_inv.s i).fits) _ (sym c.in-Err.is ∙ c.read_unsigned-r.ensures)
