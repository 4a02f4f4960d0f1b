-- `leaves::plain::lay_integer` meets its contract. Assumes nothing.
use Rattle.leaves.proofs.Straight.{integer-laid}
use Rattle.leaves.proofs.plain.lay_integer.Goals as goal

pub returns : goal.returns
returns c = search integer-laid
