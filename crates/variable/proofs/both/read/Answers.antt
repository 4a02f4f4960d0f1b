-- `variable::both::read` meets its contract: a law of Variables for each way out. Assumes nothing.
use Rattle.variable.proofs.Variables.{read_none, read_short, read_long, read_direct}
use borrow.Author.Rules.{rules}
use Rattle.variable.proofs.both.read.Goals as goal

pub returns-in_default : goal.returns-in_default
returns-in_default c = search (read_none, rules)

pub returns-then-place-ge8 : goal.returns-then-place-ge8
returns-then-place-ge8 c = rw c.in-Some.ensures.cases.0 (search (read_direct, rules))

pub returns-then-rest-size : goal.returns-then-rest-size
returns-then-rest-size c = rw c.in-Some.ensures.cases.0 (search (read_short, rules))

pub returns : goal.returns
returns c = rw c.in-Some.ensures.cases.0 (search (read_long, rules))
