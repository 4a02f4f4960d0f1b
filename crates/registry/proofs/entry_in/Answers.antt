-- `registry::entry_in` meets its contract. Assumes nothing.
use borrow.Author.Rules.{rules}
use Rattle.registry.proofs.Walks.{based-below, based-even, based-walk}
use Rattle.registry.proofs.entry_in.Goals as goal

pub entry_row-requires : goal.entry_row-requires
entry_row-requires c = (search rules, search based-below)

pub returns-then-base-lt4294967296 : goal.returns-then-base-lt4294967296
returns-then-base-lt4294967296 c = search based-walk

pub returns : goal.returns
returns c = search based-even
