-- `integers::show_all` ends: each turn leaves fewer bytes. Assumes nothing.
use Rattle.std.proofs.Common.{length}
use Rattle.integers.proofs.show_all.Given as goal

abbrev pub decreases-loop-size : goal.decreases-loop-size
decreases-loop-size g l = length l.rest
