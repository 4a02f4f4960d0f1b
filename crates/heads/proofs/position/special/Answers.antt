-- `heads::position::special` meets its contract. Assumes nothing.
use Rattle.heads.proofs.Positions.{special_declaration, special-foreign}
use borrow.Author.Rules.{rules}
use Rattle.heads.proofs.position.special.Goals as goal

pub returns-then-b-eq13 : goal.returns-then-b-eq13
returns-then-b-eq13 c = search (special_declaration, rules)

pub returns-then-b-eq0 : goal.returns-then-b-eq0
returns-then-b-eq0 c = search (special-foreign, rules)
