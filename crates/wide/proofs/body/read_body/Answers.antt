-- `wide::body::read_body` meets its contract. Assumes nothing.
use mathlib.Core.Path.{◌∙◌}
use borrow.Author.Rules.{rules}
use Rattle.wide.proofs.Numbers.{bytes-all, bytes_take, bytes_drop}
use Rattle.wide.proofs.Bodies.{read_next, read_last, body_length, body_read}
use Rattle.wide.proofs.body.read_body.Goals as goal

pub loop-b-preserved : goal.loop-b-preserved
loop-b-preserved c = read_next _ _ _ _ c.in-Some.b.now _ _ c.loop-b.invariant c.in-Some.ensures.steps (search rules) c.shift_in-w.ensures

pub returns : goal.returns
returns c =
    let a = c.args in
    let p = c.requires in
    read_last _ _ _ _ c.loop-b.invariant c.in-None.ensures.steps.0
    ∙ body_read a.signed _ a.size (body_length a.s.now a.at a.size p.2) p.0 p.1 (bytes_take a.size _ (bytes_drop a.at _ (bytes-all _ (λ i. (c.type_inv.s i).fits))))
