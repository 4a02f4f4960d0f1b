-- `plan::leads::is_alone` meets its contract. Assumes nothing.
use borrow.Author.Rules.{rules}
use Rattle.plan.proofs.Forms.{none_below, some-from}
use Rattle.plan.proofs.leads.is_alone.Goals as goal

pub returns-then-n-from : goal.returns-then-n-from
returns-then-n-from c = search (none_below, rules)

pub returns : goal.returns
returns c = search (some-from, rules)
