-- `wide::body::write_body` meets its contract: what is left to write completes the body. Assumes nothing.
use native.Mathlib.Omega.{arith}
use borrow.Author.Rules.{rules}
use Rattle.wide.proofs.Bodies.{write_next, write_last}
use Rattle.wide.proofs.body.write_body.Goals as goal

pub loop-i-preserved : goal.loop-i-preserved
loop-i-preserved c = search (write_next, rules)

pub returns : goal.returns
returns c = write_last _ _ _ _ _ c.loop-i.i _ _ c.loop-i.invariant (omega arith) c.put_word-2.ensures
