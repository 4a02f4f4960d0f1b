-- `walker::steps::end_of` meets its contract. Assumes nothing.
use Prim.Native.Nat.{◌≤◌, ◌<◌}
use native.Mathlib.Omega.{arith}
use Rattle.walker.proofs.Standings.{end_within}
use Rattle.walker.proofs.steps.end_of.Goals as goal

pub returns-then-at-end-clause-stood : goal.returns-then-at-end-clause-stood
returns-then-at-end-clause-stood c =
    let held : c.args.n ≤ c.lent.result = omega arith in
    let within : c.args.at.row < c.args.n = omega arith in
    let above : c.args.at.row < c.args.at.bound = omega arith in
    let bounded : c.args.at.bound ≤ c.args.n = omega arith in
    let falls : c.args.at.row < c.number-end.result = omega arith in
    let ends : c.number-end.result ≤ c.args.at.bound = omega arith in
    (search end_within, cc, omega arith)
