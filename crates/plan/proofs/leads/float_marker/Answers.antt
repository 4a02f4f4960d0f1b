-- `plan::leads::float_marker` meets its contract. Assumes nothing.
use borrow.Author.Rules.{rules}
use Rattle.encode.specs.Encode.{float_marker}
use borrow.Author.Tests.{eq-eqb, ne_eqb}
use Rattle.plan.proofs.leads.float_marker.Goals as goal

pub returns-in-2 : goal.returns-in-2
unfolding float_marker
returns-in-2 c = search (rules, eq-eqb, ne_eqb)

pub returns-in-4 : goal.returns-in-4
unfolding float_marker
returns-in-4 c = search (rules, eq-eqb, ne_eqb)

pub returns-in-8 : goal.returns-in-8
unfolding float_marker
returns-in-8 c = search (rules, eq-eqb, ne_eqb)

pub returns-in-16 : goal.returns-in-16
unfolding float_marker
returns-in-16 c = search (rules, eq-eqb, ne_eqb)

pub returns-in-32 : goal.returns-in-32
unfolding float_marker
returns-in-32 c = search (rules, eq-eqb, ne_eqb)

pub returns-in_default : goal.returns-in_default
unfolding float_marker
returns-in_default c = let d = c.in_default in search (rules, eq-eqb, ne_eqb)
