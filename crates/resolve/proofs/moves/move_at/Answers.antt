-- `resolve::moves::move_at` meets its contract. Assumes nothing.
use Rattle.resolve.proofs.Moving.{move_along}
use Rattle.resolve.proofs.moves.move_at.Goals as goal

pub returns-else-row-entry-clause-value : goal.returns-else-row-entry-clause-value
returns-else-row-entry-clause-value c = search move_along
