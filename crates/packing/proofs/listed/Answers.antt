-- `packing::listed` meets its contract. Assumes nothing.
use Rattle.packing.proofs.Lists.{short-answer, short_list, long-answer, long_list}
use Rattle.packing.proofs.listed.Goals as goal

pub returns-then-out-clause-value : goal.returns-then-out-clause-value
returns-then-out-clause-value g c = search short-answer

pub returns-then-out-clause-out_after : goal.returns-then-out-clause-out_after
returns-then-out-clause-out_after g c = search short_list

pub returns-clause-value : goal.returns-clause-value
returns-clause-value g c = search long-answer

pub returns-clause-out_after : goal.returns-clause-out_after
returns-clause-out_after g c = search long_list
