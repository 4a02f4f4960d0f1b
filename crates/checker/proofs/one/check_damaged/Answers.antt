-- `checker::one::check_damaged` meets its contract. Assumes nothing.
use Rattle.checker.proofs.Leaves.{damaged-wrong, damaged-right}
use Rattle.checker.proofs.one.check_damaged.Goals as goal

pub returns-then-f-ge-WRONG : goal.returns-then-f-ge-WRONG
returns-then-f-ge-WRONG c = search damaged-wrong

pub returns : goal.returns
returns c = search damaged-right
