-- What is packed, or laid, of an answer is packed or laid of what it equals. Assumes nothing.
use mathlib.Core.Path.{◌≡◌}
use mathlib.Core.List.{List}
use Prim.Native.Nat.{ℕ}
use Rattle.std.specs.Prelude.{Result, Err}
use Rattle.variable.specs.declared.got.Got.{Got}
use Rattle.variable.specs.declared.short.Short.{Short}
use Rattle.variable.specs.declared.no_room.NoRoom.{NoRoom}
use Rattle.format.specs.declared.unfilled.Unfilled.{Unfilled}
use Rattle.format.specs.declared.unmeasured.Unmeasured.{Unmeasured}
use Rattle.writer.specs.declared.unwritten.Unwritten.{Unwritten}
use Rattle.rows.specs.declared.bad_table.BadTable.{BadTable}
use Rattle.walker.specs.declared.unmoved.Unmoved.TheVariants as unmoved
use Rattle.walker.specs.Walk.{Step}
use Rattle.resolve.specs.declared.resolved.Resolved.{Resolved}
use Rattle.payload.specs.declared.part.Part.{Part}
use Rattle.packing.specs.Packed.{packed_needed, packed_answer, packed_checked, packed_written, packed_coded, packed_step, within, list_after, resolved_words, packed_resolved, part_words, packed_part, read_words, packed_read}

pub needed_same : (a x : Result ℕ Unmeasured) (r : ℕ) → a ≡ x → r ≡ packed_needed a → r ≡ packed_needed x
needed_same a x r e f = cc

pub answer_same : (a x : Result ℕ Unfilled) (r : ℕ) → a ≡ x → r ≡ packed_answer a → r ≡ packed_answer x
answer_same a x r e f = cc

pub checked_same : (a x : Result ℕ BadTable) (r : ℕ) → a ≡ x → r ≡ packed_checked a → r ≡ packed_checked x
checked_same a x r e f = cc

pub written_same : (a x : Result ℕ Unwritten) (r : ℕ) → a ≡ x → r ≡ packed_written a → r ≡ packed_written x
written_same a x r e f = cc

pub coded_same : (a x : Result ℕ NoRoom) (r : ℕ) → a ≡ x → r ≡ packed_coded a → r ≡ packed_coded x
coded_same a x r e f = cc

pub step_same : (n : ℕ) (a x : Step) (r : ℕ) → a ≡ x → r ≡ packed_step (within n a (Err unmoved.BadTable)) → r ≡ packed_step (within n x (Err unmoved.BadTable))
step_same n a x r e f = cc

module _ (a x : Result Resolved BadTable) (out : List ℕ) (is : a ≡ x) where
  pub resolved_same : (r : ℕ) → r ≡ packed_resolved a out → r ≡ packed_resolved x out
  resolved_same r e = cc

  pub resolved_list : (after : List ℕ) → after ≡ list_after (resolved_words a) out → after ≡ list_after (resolved_words x) out
  resolved_list after e = cc

module _ (a x : Part) (out : List ℕ) (is : a ≡ x) where
  pub part_same : (r : ℕ) → r ≡ packed_part a out → r ≡ packed_part x out
  part_same r e = cc

  pub part_list : (after : List ℕ) → after ≡ list_after (part_words a) out → after ≡ list_after (part_words x) out
  part_list after e = cc

module _ (a x : Result Got Short) (out : List ℕ) (is : a ≡ x) where
  pub read_same : (r : ℕ) → r ≡ packed_read a out → r ≡ packed_read x out
  read_same r e = cc

  pub read_list : (after : List ℕ) → after ≡ list_after (read_words a) out → after ≡ list_after (read_words x) out
  read_list after e = cc
