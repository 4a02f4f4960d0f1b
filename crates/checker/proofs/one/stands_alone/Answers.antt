-- `checker::one::stands_alone` meets its contract. Assumes nothing.
use Rattle.checker.proofs.Leaves.{alone_out, alone_elsewhere, alone_in}
use Rattle.checker.proofs.one.stands_alone.Goals as goal

pub returns-then-n-row : goal.returns-then-n-row
returns-then-n-row c = search alone_out

pub returns-then-number-row : goal.returns-then-number-row
returns-then-number-row c = search alone_in

pub returns-else-number-row : goal.returns-else-number-row
returns-else-number-row c = search alone_elsewhere
