-- `checker::one::check_reference` meets its contract. Assumes nothing.
use borrow.Author.Rules.{rules}
use Rattle.registry.proofs.Walks.{entry-below, entry-based}
use Rattle.checker.proofs.Leaves.{refer_in, refer_out}
use Rattle.checker.proofs.one.check_reference.Goals as goal

pub entry_in-entry-requires : goal.entry_in-entry-requires
entry_in-entry-requires c = (search rules, search rules, search entry-below, search entry-based)

pub returns-then-around-number : goal.returns-then-around-number
returns-then-around-number c = search refer_out

pub returns : goal.returns
returns c = search refer_in
