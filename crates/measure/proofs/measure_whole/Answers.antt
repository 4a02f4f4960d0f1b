-- `measure::measure_whole` meets its contract. Assumes nothing.
use Rattle.measure.proofs.Measures.{whole-told}
use Rattle.measure.proofs.measure_whole.Goals as goal

pub returns : goal.returns
returns c = search whole-told
