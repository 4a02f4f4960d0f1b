-- `leaves::ends::end_key` meets its contract. Assumes nothing.
use Rattle.leaves.proofs.Straight.{key_asked}
use Rattle.leaves.proofs.ends.end_key.Goals as goal

pub returns : goal.returns
returns c = search key_asked
