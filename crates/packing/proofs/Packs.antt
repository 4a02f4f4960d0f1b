-- What is packed is found again, and the packed number of each answer. Assumes nothing.
use mathlib.Core.Path.{◌≡◌}
use Prim.Native.Nat.{ℕ, ◌+◌, ◌*◌, ◌/◌, ◌%◌, ◌^◌, ◌≤◌, ◌<◌}
use native.Mathlib.Omega.{arith}
use borrow.Author.Tests.{le-leb, lt-leb}
use Rattle.std.specs.Prelude.{Result, Err}
use Rattle.variable.specs.declared.no_room.NoRoom.{NoRoom}
use Rattle.variable.specs.Answer.{coded_number, coded_beside}
use Rattle.rows.specs.declared.bad_table.BadTable.{BadTable}
use Rattle.rows.specs.Table.{limit}
use Rattle.format.specs.declared.unfilled.Unfilled.{Unfilled}
use Rattle.format.specs.declared.unmeasured.Unmeasured.{Unmeasured}
use Rattle.format.specs.Answer.{answer_number, answer_beside, needed_number, needed_beside}
use Rattle.checker.specs.Checked.{checked_number, checked_beside}
use Rattle.writer.specs.declared.unwritten.Unwritten.{Unwritten}
use Rattle.writer.specs.Written.{written_number, written_beside}
use Rattle.walker.specs.declared.standing.Standing.{Standing}
use Rattle.walker.specs.declared.unmoved.Unmoved.TheVariants as unmoved
use Rattle.resolve.specs.declared.resolved.Resolved.{Resolved}
use Rattle.walker.specs.Walk.{Step, step_number, step_standing}
use Rattle.packing.specs.Packed.{packed, packed_needed, packed_answer, packed_checked, packed_written, packed_coded, packed_standing, packed_step, within}

-- ---- no bit is lost

module _ (number beside : ℕ) (low : beside < 2 ^ 56) where
  pub packed-number : packed number beside / 2 ^ 56 ≡ number
  unfolding packed
  packed-number = omega arith

  pub packed_beside : packed number beside % 2 ^ 56 ≡ beside
  unfolding packed
  packed_beside = omega arith

  pub packed-fits : number < 2 ^ 8 → packed number beside < 2 ^ 64
  unfolding packed
  packed-fits h = omega arith

module _ (at : Standing) (low : at.bound < 2 ^ 32) where
  pub standing-row : packed_standing at / 2 ^ 32 ≡ at.row
  unfolding packed_standing
  standing-row = omega arith

  pub standing_bound : packed_standing at % 2 ^ 32 ≡ at.bound
  unfolding packed_standing
  standing_bound = omega arith

-- ---- the sum that the code makes

pub pack_is : (number beside : ℕ) → beside + 72057594037927936 * number ≡ packed number beside
unfolding packed
pack_is number beside = omega arith

-- ---- answers: what is packed of one is packed of what it equals

pub needed-packed : (a x : Result ℕ Unmeasured) (r : ℕ) → a ≡ x → r ≡ packed (needed_number a) (needed_beside a) → r ≡ packed_needed x
unfolding packed_needed
needed-packed a x r e f = cc

pub answer-packed : (a x : Result ℕ Unfilled) (r : ℕ) → a ≡ x → r ≡ packed (answer_number a) (answer_beside a) → r ≡ packed_answer x
unfolding packed_answer
answer-packed a x r e f = cc

pub checked-packed : (a x : Result ℕ BadTable) (r : ℕ) → a ≡ x → r ≡ packed (checked_number a) (checked_beside a) → r ≡ packed_checked x
unfolding packed_checked
checked-packed a x r e f = cc

pub written-packed : (a x : Result ℕ Unwritten) (r : ℕ) → a ≡ x → r ≡ packed (written_number a) (written_beside a) → r ≡ packed_written x
unfolding packed_written
written-packed a x r e f = cc

pub coded-packed : (a x : Result ℕ NoRoom) (r : ℕ) → a ≡ x → r ≡ packed (coded_number a) (coded_beside a) → r ≡ packed_coded x
unfolding packed_coded
coded-packed a x r e f = cc

-- ---- n above the limit, and not

module _ (n : ℕ) where
  pub step-many : (s : Step) (r : ℕ) → limit < n → r ≡ packed 12 0 → r ≡ packed_step (within n s (Err unmoved.BadTable))
  unfolding within packed_step packed_standing
  step-many s r h f = rw (lt-leb n limit h) f

  pub step-packed : (s : Step) (at : Standing) (number r : ℕ) → n ≤ limit → at ≡ step_standing s → number ≡ step_number s
      → r ≡ packed number (at.row * 2 ^ 32 + at.bound) → r ≡ packed_step (within n s (Err unmoved.BadTable))
  unfolding within packed_step packed_standing
  step-packed s at number r h e f g =
      let p : r ≡ packed (step_number s) ((step_standing s).row * 2 ^ 32 + (step_standing s).bound) = cc in
      rw (le-leb n limit h) p

  module _ (bad : BadTable) where
    pub resolved_few : (x r : Result Resolved BadTable) → n ≤ limit → r ≡ x → r ≡ within n x (Err bad)
    unfolding within
    resolved_few x r h e = rw (le-leb n limit h) e

    pub resolved_many : (x : Result Resolved BadTable) → limit < n → Err bad ≡ within n x (Err bad)
    unfolding within
    resolved_many x h = rw (lt-leb n limit h)
