-- `leaves::ends::end_plain` meets its contract: a law of Straight for each way out. Assumes nothing.
use Rattle.leaves.proofs.Straight.{asked_as, constant-asked, integer-asked, small-asked, text_head_lem}
use Rattle.leaves.proofs.ends.end_plain.Goals as goal

pub returns-then-b-lt3 : goal.returns-then-b-lt3
returns-then-b-lt3 c = search constant-asked

pub returns-then-b-lt32 : goal.returns-then-b-lt32
returns-then-b-lt32 c = search integer-asked

pub returns-then-b-lt128 : goal.returns-then-b-lt128
returns-then-b-lt128 c = search small-asked

pub returns-then-b-lt160 : goal.returns-then-b-lt160
returns-then-b-lt160 c = search (asked_as, text_head_lem)
