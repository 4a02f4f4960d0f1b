-- `writer::sizes::told_size` meets its contract. Assumes nothing.
use native.Mathlib.Omega.{arith}
use borrow.Author.Rules.{rules}
use Rattle.writer.proofs.Writing.{told-long, told_none, spelt-end, spelt-low}
use Rattle.writer.proofs.sizes.told_size.Goals as goal

pub overflow_add-row : goal.overflow_add-row
overflow_add-row c = omega (arith, spelt-low _ _ _ c.requires)

pub size_children-requires : goal.size_children-requires
size_children-requires c = search (spelt-end, rules)

pub returns-then-w-eq-FOREIGN : goal.returns-then-w-eq-FOREIGN
returns-then-w-eq-FOREIGN c = search (told-long, rules)

pub returns : goal.returns
returns c = search (told_none, rules)
