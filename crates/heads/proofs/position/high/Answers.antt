-- `heads::position::high` meets its contract. Assumes nothing.
use Rattle.heads.proofs.Positions.{head_array, head_record, head_map, head_char, head_refer, head_long-refer}
use Prim.Native.Nat.{◌≤◌}
use native.Mathlib.Omega.{arith}
use mathlib.Core.Path.{◌≡◌}
use borrow.Author.Rules.{rules}
use Rattle.heads.proofs.position.high.Goals as goal

pub returns-then-b-lt176 : goal.returns-then-b-lt176
returns-then-b-lt176 c = search (head_array, rules)

pub returns-then-b-lt184 : goal.returns-then-b-lt184
returns-then-b-lt184 c = search (head_record, rules)

pub returns-then-b-lt192 : goal.returns-then-b-lt192
returns-then-b-lt192 c = search (head_map, rules)

pub returns-then-b-eq192 : goal.returns-then-b-eq192
returns-then-b-eq192 c = search (head_char, rules)

pub returns-then-b-lt255 : goal.returns-then-b-lt255
returns-then-b-lt255 c =
    let high : 193 ≤ c.args.b = omega arith in
    search (head_refer, rules)

pub returns : goal.returns
returns c =
    let last : c.args.b ≡ 255 = omega arith in
    search (head_long-refer, rules)
