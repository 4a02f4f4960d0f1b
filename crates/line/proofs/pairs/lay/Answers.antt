-- The bytes are laid one by one. Assumes nothing.
use Rattle.std.proofs.Common.{arith, rules}
use Rattle.line.proofs.Laid.{lay_step, lay_done}
use Rattle.line.proofs.pairs.lay.Goals as goal

pub loop-i-preserved : goal.loop-i-preserved
loop-i-preserved c =
    lay_step c.args.bytes.now c.loop-i.text c.loop-i.i _ _ (omega arith) (omega arith) (search rules) (search rules) c.loop-i.invariant

pub returns : goal.returns
returns c = lay_done _ _ c.loop-i.i (omega arith) (omega arith) c.loop-i.invariant
