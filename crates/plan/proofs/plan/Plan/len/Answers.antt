-- `plan::plan::Plan::len` meets its contract. Assumes nothing.
use native.Mathlib.Omega.{arith}
use Rattle.plan.proofs.Plans.{plan_long}
use Rattle.plan.proofs.plan.Plan.len.Goals as goal

pub returns : goal.returns
returns c = omega (arith, plan_long c.args.self, c.len.ensures)
