-- `wide::size::rank_unsigned` meets its contract: a law of Ranking for each way out. Assumes nothing.
use mathlib.Core.Logic.{⊎_elim}
use borrow.Author.Rules.{rules}
use borrow.Author.Tests.{eqb-true}
use Rattle.wide.proofs.Wides.{Words}
use Rattle.wide.proofs.Ranking.{at_low, at_top}
use Rattle.wide.proofs.size.rank_unsigned.Goals as goal

pub returns-then-w-eq0-2 : goal.returns-then-w-eq0-2
returns-then-w-eq0-2 c =
    let w = c.args.w in
    let h : Words w = search rules in
    at_low w h (search rules) (search (eqb-true, rules)) c.rank_low.result c.rank_low.ensures

pub returns : goal.returns
returns c =
    let w = c.args.w in
    let h : Words w = search rules in
    at_top w h c.passed.result c.passed.ensures.value λ a b. ⊎_elim (λ x. x.1 b) (λ y. y a) c.else-w-eq0.either
