-- `resolve::resolve` meets its contract. Assumes nothing.
use Rattle.resolve.proofs.Moving.{few-lent, chasing_first, chasing_stop, chasing_next, chasing_all, stop_lent}
use Rattle.resolve.proofs.resolve.Goals as goal

pub returns-then-lent-n : goal.returns-then-lent-n
returns-then-lent-n c = search few-lent

pub loop-moves-init : goal.loop-moves-init
loop-moves-init c = search chasing_first

pub end_at-requires : goal.end_at-requires
end_at-requires c = search (stop_lent, c.in_ok-next.ensures.value)

pub returns-in_default : goal.returns-in_default
returns-in_default c = search (chasing_stop, c.in_ok-next.ensures.value)

pub loop-moves-preserved : goal.loop-moves-preserved
loop-moves-preserved c = search (chasing_next, c.in_ok-next.ensures.value)

pub returns : goal.returns
returns c = search chasing_all
