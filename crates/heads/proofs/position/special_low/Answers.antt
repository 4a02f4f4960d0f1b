-- `heads::position::special_low` meets its contract. Assumes nothing.
use Rattle.heads.proofs.Positions.{head_long-text, head_long-array, head_long_record, head_long-map, head_binary, head_special, head_nothing}
use Prim.Native.Nat.{◌≤◌}
use native.Mathlib.Omega.{arith}
use borrow.Author.Rules.{rules}
use Rattle.heads.proofs.position.special_low.Goals as goal

pub returns-then-b-eq8 : goal.returns-then-b-eq8
returns-then-b-eq8 c = search (head_long-text, rules)

pub returns-then-b-eq9 : goal.returns-then-b-eq9
returns-then-b-eq9 c = search (head_long-array, rules)

pub returns-then-b-eq10 : goal.returns-then-b-eq10
returns-then-b-eq10 c = search (head_long_record, rules)

pub returns-then-b-eq11 : goal.returns-then-b-eq11
returns-then-b-eq11 c = search (head_long-map, rules)

pub returns-then-b-eq12 : goal.returns-then-b-eq12
returns-then-b-eq12 c = search (head_binary, rules)

pub returns-then-b-eq13 : goal.returns-then-b-eq13
returns-then-b-eq13 c = search (head_special, rules)

pub returns : goal.returns
returns c =
    let high : 14 ≤ c.args.b = omega arith in
    search (head_nothing, rules)
