-- `text::check` meets its contract: before each sequence the walk from there on gives the answer for the whole (Reached); before each
-- continuation byte the sequence stands exactly when what is left of it fits (Passing). Assumes nothing.
use borrow.Author.Rules.{rules}
use Rattle.text.proofs.Steps.{start, at_end, passed_plain, no_lead, lead, cut, turn, outside, whole}
use Rattle.text.proofs.check.Goals as goal

pub sequences-init : goal.sequences-init
sequences-init c = search start

pub returns-then-s-first : goal.returns-then-s-first
returns-then-s-first c = search (at_end, passed_plain)

pub loop-at-init : goal.loop-at-init
loop-at-init c = search (lead, passed_plain, rules)

pub loop-at-preserved : goal.loop-at-preserved
loop-at-preserved c = search turn

pub sequences-preserved : goal.sequences-preserved
sequences-preserved c = search whole

pub returns-in_default : goal.returns-in_default
returns-in_default c = search (no_lead, passed_plain, rules)

pub returns-then-s-second : goal.returns-then-s-second
returns-then-s-second c = search (cut, passed_plain, rules)

pub returns-then-not-within : goal.returns-then-not-within
returns-then-not-within c = search (outside, c.loop-at.invariant, c.within.ensures)
