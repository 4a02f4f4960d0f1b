-- `plan::leads::integer_form` meets its contract. Assumes nothing.
use native.Mathlib.Omega.{arith}
use borrow.Author.Rules.{rules}
use Rattle.plan.proofs.Plans.{small-form, integer-rank, long-form, first_byte}
use Rattle.plan.proofs.leads.integer_form.Goals as goal

pub returns-then-is_small : goal.returns-then-is_small
returns-then-is_small c = search (small-form, rules)

pub size_at-requires : goal.size_at-requires
size_at-requires c =
    integer-rank c.args.signed c.args.w (search rules) c.is_small.result c.is_small.ensures c.rank_of-rank.result c.rank_of-rank.ensures

pub overflow_add-result-2 : goal.overflow_add-result-2
overflow_add-result-2 c =
    let j = integer-rank c.args.signed c.args.w (search rules) c.is_small.result c.is_small.ensures c.rank_of-rank.result c.rank_of-rank.ensures in
    omega (arith, first_byte c.args.signed c.integer_first.result c.rank_of-rank.result c.integer_first.ensures j)

pub overflow_cast-result-2 : goal.overflow_cast-result-2
overflow_cast-result-2 c =
    let j = integer-rank c.args.signed c.args.w (search rules) c.is_small.result c.is_small.ensures c.rank_of-rank.result c.rank_of-rank.ensures in
    omega (arith, first_byte c.args.signed c.integer_first.result c.rank_of-rank.result c.integer_first.ensures j)

pub returns : goal.returns
returns c = search (long-form, rules)
