-- `resolve::moves::value_row` meets its contract. Assumes nothing.
use Rattle.resolve.proofs.Moving.{past_counted, value_counted}
use Rattle.resolve.proofs.moves.value_row.Goals as goal

pub loop-preserved : goal.loop-preserved
loop-preserved c = search past_counted

pub returns : goal.returns
returns c = search value_counted
