-- `measure::measure_within` meets its contract. Assumes nothing.
use Rattle.measure.proofs.Measures.{needed_too_long, needed-rows, needed-refused}
use Rattle.measure.proofs.measure_within.Goals as goal

pub returns-then-data-gt-LIMIT : goal.returns-then-data-gt-LIMIT
returns-then-data-gt-LIMIT c = search needed_too_long

pub returns-then-f-lt-WRONG : goal.returns-then-f-lt-WRONG
returns-then-f-lt-WRONG c = search needed-rows

pub returns : goal.returns
returns c = search needed-refused
