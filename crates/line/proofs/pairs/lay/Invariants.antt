-- The pairs of the bytes so far stand at the start of the buffer. Assumes nothing.
use Rattle.std.proofs.Common.{◌≡◌, ◌*◌, ◌++◌, take, drop}
use Rattle.line.specs.Pairs.{pairs}
use Rattle.line.proofs.pairs.lay.Given as goal

abbrev pub invariant-loop-i : goal.invariant-loop-i
invariant-loop-i l =
    take (3 * l.i) l.text ++ pairs (drop l.i l.bytes) ≡ pairs l.bytes
