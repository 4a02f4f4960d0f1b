-- `measure::told::wrong` meets its contract. Assumes nothing.
use Rattle.measure.proofs.Numbers.{tell_wrong, number_fits, wrong-fits}
use Rattle.measure.proofs.told.wrong.Goals as goal

pub overflow_mul-result : goal.overflow_mul-result
overflow_mul-result c = search number_fits

pub overflow_add-result : goal.overflow_add-result
overflow_add-result c = search wrong-fits

pub returns : goal.returns
returns c = search tell_wrong
