-- `wide::step::folded` meets its contract: word by word. Assumes nothing.
use borrow.Author.Rules.{rules}
use Rattle.wide.proofs.Steps.{folded}
use Rattle.wide.proofs.step.folded.Goals as goal

pub returns : goal.returns
returns c = search (folded, rules)
