-- `heads::count::length_at` meets its contract. Assumes nothing.
use Rattle.heads.proofs.Counts.{length_missing, length-one, length_within}
use borrow.Author.Rules.{rules}
use Rattle.heads.proofs.count.length_at.Goals as goal

pub returns-then-stop-at-clause-value : goal.returns-then-stop-at-clause-value
returns-then-stop-at-clause-value c = search (length_missing, rules)

pub returns-then-b-lt248-clause-value : goal.returns-then-b-lt248-clause-value
returns-then-b-lt248-clause-value c = search (length-one, rules)

pub returns-clause-within : goal.returns-clause-within
returns-clause-within c =
    let a = c.args in
    length_within a.s.now a.at a.stop c.long_length.result c.long_length.ensures
