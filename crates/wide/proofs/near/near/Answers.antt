-- `wide::near::near` meets its contract: a law of Nearness for each way out. Assumes nothing.
use borrow.Author.Rules.{rules}
use Rattle.wide.proofs.Nearness.{words_up, words-below}
use Rattle.wide.proofs.near.near.Goals as goal

pub returns-then-far-below : goal.returns-then-far-below
returns-then-far-below c = search (words-below, rules)

pub returns : goal.returns
returns c = search (words_up, rules)
