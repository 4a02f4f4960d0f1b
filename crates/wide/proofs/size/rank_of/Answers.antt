-- `wide::size::rank_of` meets its contract. Assumes nothing.
use mathlib.Core.Path.{◌∙◌, ap, sym}
use mathlib.Core.Bool.{Bool}
use borrow.Author.Rules.{rules}
use Rattle.wide.specs.Words.{value_of}
use Rattle.wide.specs.Body.{rank}
use Rattle.wide.proofs.Wides.{Words}
use Rattle.wide.proofs.Ranking.{rank_folded}
use Rattle.wide.proofs.size.rank_of.Goals as goal

pub returns-then-signed : goal.returns-then-signed
returns-then-signed c =
    let a = c.args in
    let h : Words a.w = search rules in
    rank_folded a.w h c.folded.result c.doubled.result c.rank_unsigned.result
    c.folded.ensures c.doubled.ensures c.rank_unsigned.ensures
    ∙ ap (λ (b : Bool). rank b (value_of a.w)) (sym c.if-signed.true)
