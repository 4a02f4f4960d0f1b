-- Lent lists: too short and untouched, or long enough and laid. Assumes nothing.
use mathlib.Core.Path.{◌≡◌, refl, sym, ap, ap₂, ◌∙◌}
use mathlib.Core.List.{List, [], ◌∷◌, ◌++◌}
use native.Mathlib.Omega.{arith}
use Prim.Native.Nat.{ℕ, ◌≤◌, ◌<◌}
use lib.ListN.{length, drop}
use lib.Seq.{sets}
use borrow.Author.Tests.{le-leb, lt-leb}
use Rattle.lists.proofs.Sets.{sets_front}
use Rattle.std.specs.Prelude.{Result, Ok, Err}
use Rattle.std.specs.Result.{result_unwrap_or}
use Rattle.wide.specs.Words.{words}
use Rattle.walker.specs.declared.standing.Standing.{Standing}
use Rattle.walker.specs.Walk.{Step, standing, step_standing}
use Rattle.wide.specs.declared.wide.Wide.{Wide}
use Rattle.variable.specs.declared.got.Got.{Got}
use Rattle.variable.specs.declared.short.Short.{Short}
use Rattle.variable.specs.Answer.{got, read_number, read_value, read_used}
use Rattle.variable.proofs.Promises.{read_or_zeros}
use Rattle.rows.specs.declared.bad_table.BadTable.{BadTable}
use Rattle.payload.specs.declared.part.Part.{Part}
use Rattle.resolve.specs.declared.resolved.Resolved.{Resolved}
use Rattle.resolve.specs.Resolve.{resolved_number, resolved_row, resolved_bound, resolved_moves}
use Rattle.packing.specs.Packed.{packed, lent_for, list_after, resolved_words, packed_resolved, part_words, packed_part, read_words, packed_read}

module _ (words out : List ℕ) (n : ℕ) (is : length words ≡ n) where
  pub short-answer : (answer r : ℕ) → length out < n → r ≡ packed 13 n → r ≡ lent_for words out answer
  unfolding lent_for
  short-answer answer r h e = rw (lt-leb (length words) (length out) (omega arith)) (e ∙ ap (packed 13) (sym is))

  pub short_list : length out < n → out ≡ list_after words out
  unfolding list_after
  short_list h = rw (lt-leb (length words) (length out) (omega arith))

  pub long-answer : (answer : ℕ) → n ≤ length out → answer ≡ lent_for words out answer
  unfolding lent_for
  long-answer answer h = rw (le-leb (length words) (length out) (omega arith))

  pub long_list : (front : List ℕ) → n ≤ length out → front ≡ words → front ++ drop n out ≡ list_after words out
  unfolding list_after
  long_list front h e =
      rw (le-leb (length words) (length out) (omega arith))
      (ap₂ (λ (x : List ℕ) (k : ℕ). x ++ drop k out) e (sym is) ∙ sym (sets_front out words (omega arith)))

-- such a list with its words laid, as the code once laid them
module _ (words out : List ℕ) where
  laid-answer : (answer r : ℕ) → length words ≤ length out → r ≡ answer → r ≡ lent_for words out answer
  unfolding lent_for
  laid-answer answer r h e = rw (le-leb (length words) (length out) h) e

  laid_list : (after : List ℕ) → length words ≤ length out → after ≡ sets out 0 words → after ≡ list_after words out
  unfolding list_after
  laid_list after h e = rw (le-leb (length words) (length out) h) e

-- ---- row, bound, moves

module _ (x : Result Resolved BadTable) (out : List ℕ) where
  pub resolved_short : (r : ℕ) → length out < 3 → r ≡ packed 13 3 → r ≡ packed_resolved x out
  unfolding packed_resolved resolved_words
  resolved_short r h e = short-answer (resolved_words x) out 3 refl (packed (resolved_number x) 0) r h e

  pub resolved_kept : length out < 3 → out ≡ list_after (resolved_words x) out
  unfolding resolved_words
  resolved_kept h = short_list (resolved_words x) out 3 refl h

  module _ (long : 3 ≤ length out) where
    pub resolved_answer : (n r : ℕ) → n ≡ resolved_number x → r ≡ packed n 0 → r ≡ packed_resolved x out
    unfolding packed_resolved resolved_words
    resolved_answer n r e f = laid-answer (resolved_words x) out (packed (resolved_number x) 0) r long cc

    pub resolved_laid : (row bound moves : ℕ) (after : List ℕ) → row ≡ resolved_row x → bound ≡ resolved_bound x → moves ≡ resolved_moves x
        → after ≡ sets out 0 (row ∷ bound ∷ moves ∷ []) → after ≡ list_after (resolved_words x) out
    unfolding resolved_words
    resolved_laid row bound moves after e f g h =
        let w : row ∷ bound ∷ moves ∷ [] ≡ resolved_words x = cc in
        laid_list (resolved_words x) out after long (h ∙ ap (sets out 0) w)

-- the same of a list of any length, by way of what the code hands on
module _ (a : Result Resolved BadTable) (out : List ℕ) (row bound moves : ℕ) (er : row ≡ resolved_row a) (eb : bound ≡ resolved_bound a) (em : moves ≡ resolved_moves a) where
  pub resolved_lent : (n k r : ℕ) → n ≡ resolved_number a → k ≡ packed n 0 → r ≡ lent_for (row ∷ bound ∷ moves ∷ []) out k → r ≡ packed_resolved a out
  unfolding packed_resolved resolved_words
  resolved_lent n k r e f g = cc

  pub resolved_listed : (after : List ℕ) → after ≡ list_after (row ∷ bound ∷ moves ∷ []) out → after ≡ list_after (resolved_words a) out
  unfolding resolved_words
  resolved_listed after e = cc

-- ---- place, size

module _ (x : Part) (out : List ℕ) where
  pub part-short : (r : ℕ) → length out < 2 → r ≡ packed 13 2 → r ≡ packed_part x out
  unfolding packed_part part_words
  part-short r h e = short-answer (part_words x) out 2 refl (packed 0 0) r h e

  pub part-kept : length out < 2 → out ≡ list_after (part_words x) out
  unfolding part_words
  part-kept h = short_list (part_words x) out 2 refl h

  module _ (long : 2 ≤ length out) where
    pub part-answer : (r : ℕ) → r ≡ packed 0 0 → r ≡ packed_part x out
    unfolding packed_part part_words
    part-answer r e = laid-answer (part_words x) out (packed 0 0) r long e

    pub part-laid : (after : List ℕ) → after ≡ sets out 0 (x.place ∷ x.size ∷ []) → after ≡ list_after (part_words x) out
    unfolding part_words
    part-laid after h = laid_list (part_words x) out after long h

  pub part-lent : (k r : ℕ) → k ≡ packed 0 0 → r ≡ lent_for (x.place ∷ x.size ∷ []) out k → r ≡ packed_part x out
  unfolding packed_part part_words
  part-lent k r e f = cc

  pub part-listed : (after : List ℕ) → after ≡ list_after (x.place ∷ x.size ∷ []) out → after ≡ list_after (part_words x) out
  unfolding part_words
  part-listed after e = e

-- ---- four words

module _ (a : Result Got Short) (out : List ℕ) where
  pub read_short : (r : ℕ) → length out < 4 → r ≡ packed 13 4 → r ≡ packed_read a out
  unfolding packed_read read_words
  read_short r h e = short-answer (read_words a) out 4 refl (packed (read_number a) (read_used a)) r h e

  pub read_kept : length out < 4 → out ≡ list_after (read_words a) out
  unfolding read_words
  read_kept h = short_list (read_words a) out 4 refl h

  module _ (long : 4 ≤ length out) where
    pub read_answer : (n used r : ℕ) → n ≡ read_number a → used ≡ read_used a → r ≡ packed n used → r ≡ packed_read a out
    unfolding packed_read read_words
    read_answer n used r e f g = laid-answer (read_words a) out (packed (read_number a) (read_used a)) r long cc

    pub read_laid : (w : Wide) (after : List ℕ) → w ≡ read_value a → after ≡ sets out 0 (w.w0 ∷ w.w1 ∷ w.w2 ∷ w.w3 ∷ []) → after ≡ list_after (read_words a) out
    unfolding read_words
    read_laid w after e f = laid_list (read_words a) out after long cc

-- the same of a list of any length
module _ (a : Result Got Short) (out : List ℕ) (w : Wide) (is : w ≡ read_value a) where
  pub read_lent : (n used k r : ℕ) → n ≡ read_number a → used ≡ read_used a → k ≡ packed n used
      → r ≡ lent_for (w.w0 ∷ w.w1 ∷ w.w2 ∷ w.w3 ∷ []) out k → r ≡ packed_read a out
  unfolding packed_read read_words
  read_lent n used k r e f g h = cc

  pub read_listed : (after : List ℕ) → after ≡ list_after (w.w0 ∷ w.w1 ∷ w.w2 ∷ w.w3 ∷ []) out → after ≡ list_after (read_words a) out
  unfolding read_words
  read_listed after e = cc

-- ---- a refusal's zeros, written out

pub value_or_zeros : (x : Result Got Short) (g : Got) → g ≡ result_unwrap_or x (got (words 0 0 0 0) 0) → g.value ≡ read_value x
value_or_zeros x g e = ap (λ (z : Got). z.value) (e ∙ read_or_zeros x)

pub used_or_zeros : (x : Result Got Short) (g : Got) → g ≡ result_unwrap_or x (got (words 0 0 0 0) 0) → g.used ≡ read_used x
used_or_zeros x g e = ap (λ (z : Got). z.used) (e ∙ read_or_zeros x)

pub standing_or_zeros : (x : Step) (at : Standing) → at ≡ result_unwrap_or x (standing 0 0) → at ≡ step_standing x
standing_or_zeros (Ok y) at e = e
standing_or_zeros (Err why) at e = e
