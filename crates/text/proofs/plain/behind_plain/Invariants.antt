-- `text::plain::behind_plain` meets its contract: all bytes passed so far are plain. Assumes nothing.
use Prim.Native.Nat.{◌-◌}
use lib.ListN.{length}
use Rattle.text.specs.Inner.{PlainTo}
use Rattle.text.proofs.plain.behind_plain.Given as goal

abbrev pub invariant-loop-eight : goal.invariant-loop-eight
invariant-loop-eight l = PlainTo l.s l.from l.at

abbrev pub decreases-loop-eight : goal.decreases-loop-eight
decreases-loop-eight l = length l.s - l.at

abbrev pub invariant-loop-at : goal.invariant-loop-at
invariant-loop-at l = PlainTo l.s l.from l.at

abbrev pub decreases-loop-at : goal.decreases-loop-at
decreases-loop-at l = length l.s - l.at
