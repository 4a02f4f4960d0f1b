-- `wide::step::shift_in` meets its contract. Assumes nothing.
use Rattle.wide.proofs.Wides.{Words}
use Rattle.wide.proofs.Steps.{shifted_in}
use borrow.Author.Rules.{rules}
use Rattle.wide.proofs.step.shift_in.Goals as goal

pub returns : goal.returns
returns c =
    let a = c.args in
    let h : Words a.w = search rules in
    shifted_in a.w a.b h (search rules)
