-- `wide::body::read_body` meets its contract: what is passed, top byte first, is read. Assumes nothing.
use mathlib.Core.Bool.{◌&&◌}
use Prim.Native.Nat.{◌-◌}
use lib.ListN.{take, drop, get_or}
use lib.Dec.{leb}
use Rattle.wide.specs.Body.{extended}
use Rattle.wide.proofs.Bodies.{Reading}
use Rattle.wide.proofs.body.read_body.Given as goal

abbrev pub invariant-loop-b : goal.invariant-loop-b
invariant-loop-b l =
    Reading (take l.size (drop l.at l.s)) (extended (l.signed && leb 128 (get_or (take l.size (drop l.at l.s)) (l.size - 1) 0)) 0 0)
    l.b-iterator.iter.rest.now l.w
