-- `heads::position::low` meets its contract. Assumes nothing.
use Rattle.heads.proofs.Positions.{head_constant, head_float, head_signed, head_unsigned}
use borrow.Author.Rules.{rules}
use Rattle.heads.proofs.position.low.Goals as goal

pub returns-then-b-lt3 : goal.returns-then-b-lt3
returns-then-b-lt3 c = search (head_constant, rules)

pub returns-then-b-lt8 : goal.returns-then-b-lt8
returns-then-b-lt8 c = search (head_float, rules)

pub returns-then-b-lt24 : goal.returns-then-b-lt24
returns-then-b-lt24 c = search (head_signed, rules)

pub returns : goal.returns
returns c = search (head_unsigned, rules)
