-- `feed::fill` meets its contract. The invariant: filling what is left, from word `i` on, gives what filling the whole gives. Assumes nothing.
use Rattle.feed.proofs.Words.{fill_next, fill_last}
use Rattle.feed.proofs.fill.Goals as goal

pub loop-i-preserved : goal.loop-i-preserved
loop-i-preserved c = search fill_next

pub returns : goal.returns
returns c = search fill_last
