-- `wide::body::put_word` meets its contract: a law of Bodies for each count. Assumes nothing.
use native.Mathlib.Omega.{arith}
use lib.ListN.{length-set}
use Rattle.wide.proofs.Bodies.{put_one, put_two, put_three, put_four}
use Rattle.wide.proofs.body.put_word.Goals as goal

pub returns-then-count-eq1 : goal.returns-then-count-eq1
returns-then-count-eq1 c = search put_one

pub bounds-out-at-2 : goal.bounds-out-at-2
bounds-out-at-2 c = simp length-set (omega (arith, c.requires))

pub returns-then-count-eq2 : goal.returns-then-count-eq2
returns-then-count-eq2 c = search put_two

pub bounds-out-at-3 : goal.bounds-out-at-3
bounds-out-at-3 c = simp length-set (omega (arith, c.requires))

pub returns-then-count-eq3 : goal.returns-then-count-eq3
returns-then-count-eq3 c = search put_three

pub bounds-out-at-4 : goal.bounds-out-at-4
bounds-out-at-4 c = simp length-set (omega (arith, c.requires))

pub returns : goal.returns
returns c = search put_four
