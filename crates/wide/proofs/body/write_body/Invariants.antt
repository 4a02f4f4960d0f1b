-- `wide::body::write_body` meets its contract: what is left to write completes the body. Assumes nothing.
use Rattle.wide.proofs.Bodies.{Writing}
use Rattle.wide.proofs.body.write_body.Given as goal

abbrev pub invariant-loop-i : goal.invariant-loop-i
invariant-loop-i l = Writing l.initial.out l.at l.size l.initial.rest l.out l.i l.rest
