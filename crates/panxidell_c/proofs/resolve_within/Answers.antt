-- `panxidell_c::resolve_within` meets its contract. Assumes nothing.
use Rattle.packing.proofs.Packs.{resolved_few, resolved_many}
use Rattle.panxidell_c.proofs.resolve_within.Goals as goal

pub returns-then-n-gt-LIMIT : goal.returns-then-n-gt-LIMIT
returns-then-n-gt-LIMIT c = search resolved_many

pub returns : goal.returns
returns c = search resolved_few
