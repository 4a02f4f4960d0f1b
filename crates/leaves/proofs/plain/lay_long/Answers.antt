-- `leaves::plain::lay_long` meets its contract. Assumes nothing.
use Rattle.leaves.proofs.Straight.{count_low, long_stands, next_low, span-laid}
use Rattle.leaves.proofs.plain.lay_long.Goals as goal

pub span-requires : goal.span-requires
span-requires c = search (count_low, next_low)

pub returns : goal.returns
returns c = search (span-laid, long_stands)
