-- `plan::leads::lead_and` meets its contract. Assumes nothing.
use Rattle.plan.proofs.Plans.{lead_plan}
use Rattle.plan.proofs.leads.lead_and.Goals as goal

pub returns : goal.returns
returns c = search lead_plan
