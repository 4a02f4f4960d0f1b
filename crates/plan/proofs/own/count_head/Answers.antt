-- `plan::own::count_head` meets its contract. Assumes nothing.
use Rattle.format.specs.declared.head.Holder.TheVariants.{Array, Record, Map}
use Rattle.plan.proofs.Owns.{count_head}
use Rattle.plan.proofs.own.count_head.Goals as goal

pub returns-in-Array : goal.returns-in-Array
returns-in-Array c = count_head _ Array _ _ c.in-Array.is c.headed.ensures

pub returns-in-Record : goal.returns-in-Record
returns-in-Record c = count_head _ Record _ _ c.in-Record.is c.headed-in-Record.ensures

pub returns-in-Map : goal.returns-in-Map
returns-in-Map c = count_head _ Map _ _ c.in-Map.is c.headed-in-Map.ensures
