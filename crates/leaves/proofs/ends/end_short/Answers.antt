-- `leaves::ends::end_short` meets its contract: a law of Straight for each way out. Assumes nothing.
use Rattle.leaves.proofs.Straight.{short-binary-asked, short-text-asked}
use Rattle.leaves.proofs.ends.end_short.Goals as goal

pub returns-then-marker-eq8 : goal.returns-then-marker-eq8
returns-then-marker-eq8 c = search short-text-asked

pub returns-then-marker-eq12 : goal.returns-then-marker-eq12
returns-then-marker-eq12 c = search short-binary-asked
