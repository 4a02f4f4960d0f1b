-- `measure::told::ended` meets its contract: a law of Numbers for each way out. Assumes nothing.
use Rattle.measure.proofs.Numbers.{end_refused, end_there, end-longer}
use Rattle.measure.proofs.told.ended.Goals as goal

pub returns-then-f-ge-WRONG : goal.returns-then-f-ge-WRONG
returns-then-f-ge-WRONG c = search end_refused

pub returns-then-next-stop : goal.returns-then-next-stop
returns-then-next-stop c = search end_there

pub returns : goal.returns
returns c = search end-longer
