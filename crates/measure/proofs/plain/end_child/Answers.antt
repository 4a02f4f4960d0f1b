-- `measure::plain::end_child` meets its contract: a law of Measures for each way out. Assumes nothing.
use Rattle.measure.proofs.Measures.{key_one, leaf-one, none-one, refer-one}
use Rattle.measure.proofs.plain.end_child.Goals as goal

pub returns-then-is_key : goal.returns-then-is_key
returns-then-is_key c = search key_one

pub returns-then-levels-eq0 : goal.returns-then-levels-eq0
returns-then-levels-eq0 c = search none-one

pub returns-then-next-eq0 : goal.returns-then-next-eq0
returns-then-next-eq0 c = search refer-one

pub returns : goal.returns
returns c = search leaf-one
