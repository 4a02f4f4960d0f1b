-- `spell::put::row_size` meets its contract. Assumes nothing.
use Rattle.spell.proofs.Puts.{size_with, size_without}
use native.Mathlib.Omega.{arith}
use Rattle.plan.proofs.Plans.{marks_few, plan_long}
use borrow.Author.Rules.{rules}
use Rattle.spell.proofs.put.row_size.Goals as goal

pub returns-then-has_bytes : goal.returns-then-has_bytes
returns-then-has_bytes c = search (size_with, rules)

pub returns : goal.returns
returns c = search (size_without, rules)

pub overflow_add-result : goal.overflow_add-result
overflow_add-result c =
    let p = c.head_of-p.result in
    omega (arith, plan_long p, marks_few p.marks, c.head_of-p.ensures.short, c.len-head.ensures, c.number.ensures.1)
