-- `wide::step::doubled` meets its contract. Assumes nothing.
use Rattle.wide.proofs.Wides.{Words}
use Rattle.wide.proofs.Steps as steps
use borrow.Author.Rules.{rules}
use Rattle.wide.proofs.step.doubled.Goals as goal

pub returns : goal.returns
returns c =
    let w = c.args.w in
    let h : Words w = search rules in
    steps.doubled w h
