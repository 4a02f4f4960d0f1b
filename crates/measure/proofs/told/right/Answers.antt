-- `measure::told::right` meets its contract. Assumes nothing.
use Rattle.measure.proofs.Numbers.{tell_broken, tell_sound}
use Rattle.measure.proofs.told.right.Goals as goal

pub returns-then-broken : goal.returns-then-broken
returns-then-broken c = search tell_broken

pub returns : goal.returns
returns c = search tell_sound
