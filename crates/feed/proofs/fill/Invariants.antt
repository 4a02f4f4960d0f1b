-- `feed::fill` meets its contract. The invariant: filling what is left, from word `i` on, gives what filling the whole gives. Assumes nothing.
use Rattle.feed.proofs.Words.{Filling}
use Rattle.feed.proofs.fill.Given as goal

abbrev pub invariant-loop-i : goal.invariant-loop-i
invariant-loop-i l = Filling l.initial.table l.words l.s l.table l.i
