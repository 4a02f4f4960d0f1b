-- What C unpacks of an answer is what the library answers, for every argument: no bit is lost. Assumes nothing.
use mathlib.Core.Path.{refl}
use mathlib.Core.List.{List}
use Prim.Native.Nat.{ℕ, ◌^◌, ◌≤◌, ◌<◌}
use lib.ListN.{get_or}
use lib.Dec.{leb}
use borrow.Author.Tests.{leb-true}
use mir.Syntax.{w32}
use mir.Val.{Fits}
use Rattle.wide.specs.Words.{value_of, words}
use Rattle.wide.specs.Family.{form}
use Rattle.wide.specs.Members.{signed, unsigned}
use Rattle.std.specs.Prelude.{Result, Err}
use Rattle.variable.specs.declared.no_room.NoRoom.{NoRoom}
use Rattle.variable.specs.Answer.{read_of, read_number, read_used, written_of, coded_number, coded_beside}
use Rattle.wide.proofs.Families.{cond-case}
use Rattle.rows.specs.Table.{limit}
use Rattle.format.specs.Answer.{answer, answer_number, answer_beside, needed, needed_number, needed_beside}
use Rattle.checker.specs.Checked.{checked, checked_number, checked_beside}
use Rattle.writer.specs.Written.{written, written_number, written_beside}
use Rattle.walker.specs.declared.standing.Standing.{Standing}
use Rattle.walker.specs.declared.unmoved.Unmoved.TheVariants as unmoved
use Rattle.walker.specs.Walk.{Step, step_in, step_on, step_along}
use Rattle.packing.specs.Packed.{packed, packed_needed, packed_answer, packed_checked, packed_written, packed_coded, packed_step, within}
use Rattle.packing.specs.Inner.{LowStep}
use Rattle.packing.proofs.Unpacks.{Unpacks, unpacks, Steps, steps}
use Rattle.bounds.proofs.Bounds as bounds

pub measure_unpacks : (depth : ℕ) (s : List ℕ) → Unpacks (packed_needed (needed depth s)) (needed_number (needed depth s)) (needed_beside (needed depth s))
unfolding packed_needed
measure_unpacks depth s = unpacks _ _ (bounds.needed-beside depth s (needed depth s) refl)

pub fill_unpacks : (depth : ℕ) (s table : List ℕ)
    → Unpacks (packed_answer (answer depth s table)) (answer_number (answer depth s table)) (answer_beside (answer depth s table))
unfolding packed_answer
fill_unpacks depth s table = unpacks _ _ (bounds.answer-beside depth s table (answer depth s table) refl)

pub check_unpacks : (depth : ℕ) (table : List ℕ) (n : ℕ) (s : List ℕ)
    → Unpacks (packed_checked (checked depth table n s)) (checked_number (checked depth table n s)) (checked_beside (checked depth table n s))
unfolding packed_checked
check_unpacks depth table n s = unpacks _ _ (bounds.checked-beside depth table n s (checked depth table n s) refl)

pub write_unpacks : (depth : ℕ) (table : List ℕ) → ((i : ℕ) → get_or table i 0 < 2 ^ 32) → (n : ℕ) (s : List ℕ) (room : ℕ)
    → Unpacks (packed_written (written depth table n s room)) (written_number (written depth table n s room)) (written_beside (written depth table n s room))
unfolding packed_written
write_unpacks depth table fit n s room = unpacks _ _ (bounds.written-beside depth table fit n s room (written depth table n s room) refl)

module _ (table : List ℕ) (n : ℕ) (at : Standing) where
  within_steps : (x : Step) → (n ≤ limit → LowStep x) → Steps (packed_step (within n x (Err unmoved.BadTable))) (within n x (Err unmoved.BadTable))
  unfolding within
  within_steps x f = steps (within n x (Err unmoved.BadTable)) (cond-case LowStep (leb n limit) x (Err unmoved.BadTable) (λ h. f (leb-true n limit h)) (λ _. bounds.bad-low))

  pub in_unpacks : Steps (packed_step (within n (step_in table n at) (Err unmoved.BadTable))) (within n (step_in table n at) (Err unmoved.BadTable))
  in_unpacks = within_steps (step_in table n at) (λ h. bounds.in_low table n h at)

  pub on_unpacks : Steps (packed_step (within n (step_on table n at) (Err unmoved.BadTable))) (within n (step_on table n at) (Err unmoved.BadTable))
  on_unpacks = within_steps (step_on table n at) (λ h. bounds.on_low table n h at)

  pub along_unpacks : ((i : ℕ) → get_or table i 0 < 2 ^ 32) → Steps (packed_step (within n (step_along table n at) (Err unmoved.BadTable))) (within n (step_along table n at) (Err unmoved.BadTable))
  along_unpacks fit = within_steps (step_along table n at) (λ h. bounds.along_low table n h at fit)

-- variable integers
pub unsigned_unpacks : (s : List ℕ) → Unpacks (packed (read_number (read_of unsigned s)) (read_used (read_of unsigned s))) (read_number (read_of unsigned s)) (read_used (read_of unsigned s))
unsigned_unpacks s = unpacks _ _ (bounds.unsigned_used s (read_of unsigned s) refl)

pub signed_unpacks : (s : List ℕ) → Unpacks (packed (read_number (read_of signed s)) (read_used (read_of signed s))) (read_number (read_of signed s)) (read_used (read_of signed s))
signed_unpacks s = unpacks _ _ (bounds.signed_used s (read_of signed s) refl)

module _ (w0 w1 w2 w3 room : ℕ) (h0 : Fits w32 w0) (h1 : Fits w32 w1) (h2 : Fits w32 w2) (h3 : Fits w32 w3) where
  abbrev U : Result ℕ NoRoom
  U = written_of (form unsigned (value_of (words w0 w1 w2 w3))) room

  abbrev S : Result ℕ NoRoom
  S = written_of (form signed (value_of (words w0 w1 w2 w3))) room

  pub written-unsigned_unpacks : Unpacks (packed_coded U) (coded_number U) (coded_beside U)
  unfolding packed_coded
  written-unsigned_unpacks = unpacks _ _ (bounds.unsigned-few w0 w1 w2 w3 room h0 h1 h2 h3 U refl)

  pub written-signed_unpacks : Unpacks (packed_coded S) (coded_number S) (coded_beside S)
  unfolding packed_coded
  written-signed_unpacks = unpacks _ _ (bounds.signed-few w0 w1 w2 w3 room h0 h1 h2 h3 S refl)
