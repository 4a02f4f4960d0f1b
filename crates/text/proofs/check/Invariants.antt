-- `text::check` meets its contract: before each sequence the walk from there on gives the answer for the whole (Reached); before each
-- continuation byte the sequence stands exactly when what is left of it fits (Passing). Assumes nothing.
use Prim.Native.Nat.{◌-◌}
use lib.ListN.{length}
use Rattle.text.proofs.Steps.{Reached, Passing}
use Rattle.text.proofs.check.Given as goal

abbrev pub invariant-loop-at : goal.invariant-loop-at
invariant-loop-at l = Passing l.s l.first l.end l.low l.high l.at

abbrev pub decreases-loop-at : goal.decreases-loop-at
decreases-loop-at l = l.end - l.at

abbrev pub invariant-sequences : goal.invariant-sequences
invariant-sequences l = Reached l.s l.first

abbrev pub decreases-sequences : goal.decreases-sequences
decreases-sequences l = length l.s - l.first
