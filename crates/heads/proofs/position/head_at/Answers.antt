-- `heads::position::head_at` meets its contract. Assumes nothing.
use Rattle.heads.proofs.Positions.{head_missing, head_small, head_text}
use borrow.Author.Rules.{rules}
use Rattle.heads.proofs.position.head_at.Goals as goal

pub returns-then-stop-at : goal.returns-then-stop-at
returns-then-stop-at c = search (head_missing, rules)

pub returns-then-b-lt128 : goal.returns-then-b-lt128
returns-then-b-lt128 c = search (head_small, rules)

pub returns-then-b-lt160 : goal.returns-then-b-lt160
returns-then-b-lt160 c = search (head_text, rules)
