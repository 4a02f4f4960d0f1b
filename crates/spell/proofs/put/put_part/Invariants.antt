-- `spell::put::put_part` meets its contract: what is left to lay completes a short part; a long one is laid in eights. Assumes nothing.
use mathlib.Core.Path.{◌≡◌}
use Prim.Native.Nat.{◌+◌, ◌-◌, ◌≤◌}
use lib.ListN.{length, take, drop}
use lib.Seq.{sets}
use Rattle.spell.proofs.put.put_part.Given as goal

abbrev pub invariant-loop-i : goal.invariant-loop-i
invariant-loop-i l = sets l.out (l.at + l.i) (take (l.size - l.i) (drop (l.place + l.i) l.data)) ≡ sets l.initial.out l.at (take l.size (drop l.place l.data))

abbrev pub invariant-loop-laid : goal.invariant-loop-laid
invariant-loop-laid l = (l.laid ≤ l.size) × (length l.out ≡ length l.initial.out) × (l.out ≡ sets l.initial.out l.at (take l.laid (drop l.place l.data)))

abbrev pub decreases-loop-laid : goal.decreases-loop-laid
decreases-loop-laid l = l.size - l.laid
