-- `checker::check_within` meets its contract. Assumes nothing.
use borrow.Author.Rules.{rules}
use Rattle.std.proofs.lemmas.Result.{err_from_is_err_and}
use Rattle.checker.proofs.Answers.{none, many, unlent, long, start_asks, start_based, right, elsewhere, broken}
use Rattle.checker.proofs.check_within.Goals as goal
use Rattle.checker.proofs.check_within.Goals.{then-n-lt1-via-then-n-lt1, then-n-lt1-via-else-n-lt1+then-n-gt-LIMIT, then-n-lt1-via-else-n-lt1+else-n-gt-LIMIT+then-lent-n, then-n-lt1-via-else-n-lt1+else-n-gt-LIMIT+else-lent-n+then-data-gt-LIMIT}

pub returns-then-n-lt1 : goal.returns-then-n-lt1
returns-then-n-lt1 c =
    elim c.then-n-lt1.branch [
      | then-n-lt1-via-then-n-lt1 w ↦ search none
      | then-n-lt1-via-else-n-lt1+then-n-gt-LIMIT w ↦ search many
      | then-n-lt1-via-else-n-lt1+else-n-gt-LIMIT+then-lent-n w ↦ search unlent
      | then-n-lt1-via-else-n-lt1+else-n-gt-LIMIT+else-lent-n+then-data-gt-LIMIT w ↦ search long
    ]

pub check_value-requires : goal.check_value-requires
check_value-requires c = (search start_asks, search start_based, search rules)

pub returns-in_err-next : goal.returns-in_err-next
returns-in_err-next c =
    let p = err_from_is_err_and c.from_residual.result c.from_residual.ensures.1 in
    rw p.1 (search (broken, c.in_err-next.ensures.ok_part))

pub returns-then-next-n : goal.returns-then-next-n
returns-then-next-n c = search (elsewhere, c.in_ok-next.ensures.ok_part)

pub returns : goal.returns
returns c = search (right, c.in_ok-next.ensures.ok_part)
