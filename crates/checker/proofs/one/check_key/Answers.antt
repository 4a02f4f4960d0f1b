-- `checker::one::check_key` meets its contract. Assumes nothing.
use Rattle.checker.proofs.Leaves.{key_in, key_out}
use Rattle.checker.proofs.one.check_key.Goals as goal

pub returns-then-row-n : goal.returns-then-row-n
returns-then-row-n c = search key_in

pub returns : goal.returns
returns c = search key_out
