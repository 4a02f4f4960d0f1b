-- `resolve::resolve` meets its contract. Assumes nothing.
use Rattle.resolve.proofs.Moving.{Chasing}
use Rattle.resolve.proofs.resolve.Given as goal

-- the moves that are left, from there on, lead to the same end
abbrev pub invariant-loop-moves : goal.invariant-loop-moves
invariant-loop-moves l = Chasing l.table l.n l.row l.moves l.here
