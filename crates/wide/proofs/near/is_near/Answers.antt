-- `wide::near::is_near` meets its contract: a law of Nearness for each way out. Assumes nothing.
use borrow.Author.Rules.{rules}
use Rattle.wide.proofs.Nearness.{near_low, near_high, near_far}
use Rattle.wide.proofs.near.is_near.Goals as goal

pub returns-then-w-up : goal.returns-then-w-up
returns-then-w-up c = search (near_low, rules)

pub returns-then-w-below : goal.returns-then-w-below
returns-then-w-below c = search (near_high, rules)

pub returns : goal.returns
returns c = search (near_far, rules)
