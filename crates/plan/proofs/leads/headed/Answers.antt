-- `plan::leads::headed` meets its contract. Assumes nothing.
use Rattle.plan.proofs.Plans.{from_low, lead_byte, alone_plan, direct_plan, rank-small, body_plan}
use native.Mathlib.Omega.{arith}
use borrow.Author.Rules.{rules}
use Rattle.plan.proofs.leads.headed.Goals as goal

pub overflow_sub-n : goal.overflow_sub-n
overflow_sub-n c =
    let a = c.args in
    from_low a.low a.count a.from a.marks a.n c.requires (search rules) c.is_alone.result c.is_alone.ensures c.if-is_alone.true

pub overflow_add-low : goal.overflow_add-low
overflow_add-low c =
    let a = c.args in
    omega (arith, lead_byte a.low a.count a.from a.marks a.n c.requires (search rules) c.is_alone.result c.is_alone.ensures c.if-is_alone.true)

pub overflow_cast-low-then-is_alone : goal.overflow_cast-low-then-is_alone
overflow_cast-low-then-is_alone c =
    let a = c.args in
    omega (arith, lead_byte a.low a.count a.from a.marks a.n c.requires (search rules) c.is_alone.result c.is_alone.ensures c.if-is_alone.true)

pub returns-then-is_alone : goal.returns-then-is_alone
returns-then-is_alone c = search (alone_plan, rules)

pub returns-then-n-lt248 : goal.returns-then-n-lt248
returns-then-n-lt248 c = search (direct_plan, rules)

pub overflow_add-result : goal.overflow_add-result
overflow_add-result c =
    let a = c.args in
    omega (arith, rank-small a.n c.from-value.result c.rank_of-rank.result (search rules) c.from-value.ensures c.rank_of-rank.ensures)

pub overflow_cast-result-2 : goal.overflow_cast-result-2
overflow_cast-result-2 c =
    let a = c.args in
    omega (arith, rank-small a.n c.from-value.result c.rank_of-rank.result (search rules) c.from-value.ensures c.rank_of-rank.ensures)

pub size_at-requires : goal.size_at-requires
size_at-requires c =
    let a = c.args in
    rank-small a.n c.from-value.result c.rank_of-rank.result (search rules) c.from-value.ensures c.rank_of-rank.ensures

pub returns : goal.returns
returns c = search (body_plan, rules)
