-- `lists::zero_from` meets its contract. Assumes nothing.
use mathlib.Core.Path.{sym}
use borrow.Author.Rules.{rules}
use Rattle.lists.proofs.Zeros.{zeroed_out, zeroed_filled}
use Rattle.lists.proofs.zero_from.Goals as goal

pub returns-then-from-table : goal.returns-then-from-table
returns-then-from-table c = search (zeroed_filled, rules)

pub returns-else-from-table : goal.returns-else-from-table
returns-else-from-table c = sym (zeroed_out c.args.from c.args.table.now c.if-from-table.false)
