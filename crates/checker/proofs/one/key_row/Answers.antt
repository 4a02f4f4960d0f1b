-- `checker::one::key_row_lem` meets its contract. Assumes nothing.
use Rattle.checker.proofs.Leaves.{key_other, key_yes, key_no}
use Rattle.checker.proofs.one.key_row.Goals as goal
use Rattle.checker.proofs.one.key_row.Goals.{else-w-eq-KEY-via-then-w-eq-KEY+else-spelt, else-w-eq-KEY-via-else-w-eq-KEY}

pub returns-then-spelt : goal.returns-then-spelt
returns-then-spelt c = search key_yes

pub returns : goal.returns
returns c =
    elim c.else-w-eq-KEY.branch [
      | else-w-eq-KEY-via-then-w-eq-KEY+else-spelt w ↦ search key_no
      | else-w-eq-KEY-via-else-w-eq-KEY w ↦ search key_other
    ]
