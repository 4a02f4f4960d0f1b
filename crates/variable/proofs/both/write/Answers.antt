-- `variable::both::write` meets its contract: a law of Writes for each way out. Assumes nothing.
use native.Mathlib.Omega.{arith}
use lib.ListN.{length}
use borrow.Author.Rules.{rules}
use borrow.Author.Tests.{ltb-true, ltb-false}
use mathlib.Core.Path.{sym}
use Rattle.variable.proofs.Writes.{rank_small, first_small, none_for_one, wrote_one, none_for_long, wrote_long}
use Rattle.variable.proofs.both.write.Goals as goal

pub returns-in_default : goal.returns-in_default
returns-in_default c =
    let a = c.args in
    none_for_one a.signed a.w (search rules) c.is_direct.result c.is_direct.ensures a.out.now c.if-is_direct.true
    (omega (arith, ltb-false 0 (length a.out.now) (sym c.in_default.ensures.item.0)))

pub returns-then-is_direct : goal.returns-then-is_direct
returns-then-is_direct c =
    let a = c.args in
    wrote_one a.signed a.w (search rules) c.is_direct.result c.is_direct.ensures a.out.now c.if-is_direct.true c.low.result c.low.ensures
    (ltb-true 0 (length a.out.now) (sym c.in-Some.ensures.item.0))

pub size_at-size-requires : goal.size_at-size-requires
size_at-size-requires c = search (rank_small, rules)

pub returns-then-out-needed : goal.returns-then-out-needed
returns-then-out-needed c =
    let a = c.args in
    none_for_long a.signed a.w (search rules) c.is_direct.result c.is_direct.ensures a.out.now c.if-is_direct.false c.rank_of-rank.result
    c.size_at-size.result c.rank_of-rank.ensures c.size_at-size.ensures c.if-out-needed.true

pub overflow_add-out : goal.overflow_add-out
overflow_add-out c = search (first_small, rules)

pub overflow_cast-out : goal.overflow_cast-out
overflow_cast-out c = search (rank_small, rules)

pub returns : goal.returns
returns c =
    let a = c.args in
    wrote_long a.signed a.w (search rules) c.is_direct.result c.is_direct.ensures a.out.now c.if-is_direct.false c.rank_of-rank.result
    c.size_at-size.result c.rank_of-rank.ensures c.size_at-size.ensures c.first_of.result _ c.first_of.ensures c.if-out-needed.false
    c.write_body.ensures
