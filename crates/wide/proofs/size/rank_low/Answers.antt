-- `wide::size::rank_low` meets its contract: the rank is how many sizes are too short. Assumes nothing.
use borrow.Author.Rules.{rules}
use Rattle.wide.proofs.Ranking.{rank_counted}
use Rattle.wide.proofs.size.rank_low.Goals as goal

pub returns : goal.returns
returns c = search (rank_counted, rules)
