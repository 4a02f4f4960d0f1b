-- `registry::entry_row` meets its contract. The invariant: `at` is the row that so many ends lead to. Assumes nothing.
use borrow.Author.Rules.{rules}
use Rattle.registry.proofs.Walks.{walk_start, walk-next, walk-lent}
use Rattle.registry.proofs.entry_row.Goals as goal

pub loop-init : goal.loop-init
loop-init c = search (walk_start, rules)

pub end_at-requires : goal.end_at-requires
end_at-requires c = search walk-lent

pub loop-preserved : goal.loop-preserved
loop-preserved c = search (walk-next, rules)
