-- The check's answer by each way out of the code, and that it is one. Assumes nothing.
use Rattle.std.specs.Prelude.{Ok}
use mathlib.Core.Path.{◌≡◌, refl, sym, ap, ◌∙◌}
use mathlib.Core.Bool.{Bool, true, false, cond}
use mathlib.Core.List.{List, []}
use Prim.Native.Nat.{ℕ, suc, ◌+◌, ◌≤◌, ◌<◌}
use native.Mathlib.Omega.{arith}
use lib.ListN.{length}
use lib.Dec.{eqb}
use borrow.Author.Tests.{le-leb, lt-leb, eq-eqb, ne_eqb}
use Rattle.rows.specs.Table.{lent, limit}
use Rattle.registry.specs.Inner.{chain, Based}
use Rattle.registry.proofs.Walks.{based-plain, below_none}
use Rattle.format.specs.Tree.{Tree}
use Rattle.format.specs.Answer.{answer, table_after}
use Rattle.rules.specs.Obeys.{Stands}
use Rattle.rules.proofs.Exact as exact
use Rattle.rules.specs.Grow.{Growth, grew, bad, grow, ends_with, rules_hold}
use Rattle.std.specs.Prelude.{Option, Some, None, Result, Ok, Err}
use Rattle.rows.specs.declared.bad_table.BadTable.{BadTable}
use Rattle.checker.specs.Checked.{bad_table, checked}
use Rattle.checker.specs.Inner.{EntriesBefore, extent_of}

with_until : (n : ℕ) (g : Growth) (next : ℕ) → extent_of g ≡ Some next → ends_with n g ≡ eqb next n
with_until n (grew t e) next q = let i : e ≡ next = cc in ap (λ (x : ℕ). eqb x n) i
with_until n bad next q = cc

with_broken : (n : ℕ) (g : Growth) → extent_of g ≡ None → ends_with n g ≡ false
with_broken n (grew t e) q = cc
with_broken n bad q = refl

module _ (depth : ℕ) (table : List ℕ) (n : ℕ) (s : List ℕ) where
  pub none : n < 1 → Err bad_table ≡ checked depth table n s
  unfolding checked rules_hold
  none h = rw (lt-leb 1 n h)

  module _ (some : 1 ≤ n) where
    pub many : limit < n → Err bad_table ≡ checked depth table n s
    unfolding checked rules_hold
    many h = rw (le-leb 1 n some, lt-leb n limit h)

    module _ (few : n ≤ limit) (l : ℕ) (is : l ≡ lent table) where
      pub unlent : l < n → Err bad_table ≡ checked depth table n s
      unfolding checked rules_hold
      unlent h = rw (le-leb 1 n some, le-leb n limit few, lt-leb n (lent table) (omega arith))

      module _ (held : n ≤ l) where
        pub long : limit < length s → Err bad_table ≡ checked depth table n s
        unfolding checked rules_hold
        long h = rw (le-leb 1 n some, le-leb n limit few, le-leb n (lent table) (omega arith), lt-leb (length s) limit h)

        pub start_based : Based table 0 0
        start_based = based-plain table 0 0 (omega arith)

        pub start_asks : EntriesBefore table n 0 0 0
        start_asks = record { room = omega arith; few = few; here = omega arith; below = below_none table 0 0 }

        module _ (short : length s ≤ limit) (g : Option ℕ) (read : g ≡ extent_of (grow table n s (depth + 1) (chain table 0 0) 0)) where
          there : g ≡ extent_of (grow table n s (suc depth) [] 0)
          unfolding chain
          there = let e : depth + 1 ≡ suc depth = omega arith in read ∙ ap (λ (d : ℕ). extent_of (grow table n s d [] 0)) e

          by : (b : Bool) → ends_with n (grow table n s (suc depth) [] 0) ≡ b → rules_hold depth table n s ≡ b
          unfolding rules_hold
          by b e = rw (le-leb 1 n some, le-leb n limit few, le-leb n (lent table) (omega arith), le-leb (length s) limit short) e

          pub right : (next : ℕ) → g ≡ Some next → next ≡ n → Ok n ≡ checked depth table n s
          unfolding checked
          right next e h = rw (by true (with_until n (grow table n s (suc depth) [] 0) next (sym there ∙ e) ∙ eq-eqb next n h))

          pub elsewhere : (next : ℕ) → g ≡ Some next → (next ≡ n → ⊥) → Err bad_table ≡ checked depth table n s
          unfolding checked
          elsewhere next e h = rw (by false (with_until n (grow table n s (suc depth) [] 0) next (sym there ∙ e) ∙ ne_eqb next n h))

          pub broken : g ≡ None → Err bad_table ≡ checked depth table n s
          unfolding checked
          broken e = rw (by false (with_broken n (grow table n s (suc depth) [] 0) (sym there ∙ e)))

-- two answers that the promise allows are equal
pub one_answer : (depth : ℕ) (table : List ℕ) (n : ℕ) (s : List ℕ) (a b : Result ℕ BadTable) → a ≡ checked depth table n s → b ≡ checked depth table n s → a ≡ b
one_answer depth table n s a b e f = e ∙ sym f

-- a yes is said only where the row rules hold
pub yes_holds : (depth : ℕ) (table : List ℕ) (n : ℕ) (s : List ℕ) (rows : ℕ) → checked depth table n s ≡ Ok rows → rules_hold depth table n s ≡ true
unfolding checked
yes_holds depth table n s rows = go (rules_hold depth table n s)
  where
    go : (b : Bool) → cond b (Ok n) (Err bad_table) ≡ Ok rows → b ≡ true
    go true e = refl
    go false e = absurd (let z : ◌≡◌ {A = ℕ} 0 1 = cc in omega arith)

-- ---- what a yes means

module _ (depth : ℕ) (table : List ℕ) (n : ℕ) (s : List ℕ) where
  -- the first n rows are those of a right tree
  pub yes_stands : (rows : ℕ) → checked depth table n s ≡ Ok rows → (t : Tree) × Stands depth table n s t
  yes_stands rows e = exact.yes_stands depth table n s (yes_holds depth table n s rows e)

  -- and the rows of a right tree get a yes
  pub stands_yes : (t : Tree) → Stands depth table n s t → checked depth table n s ≡ Ok n
  unfolding checked
  stands_yes t st = rw (exact.stands_yes depth table n s t st)

-- every table that the reader accepts passes with its data
pub read_yes : (depth : ℕ) (s table : List ℕ) (n : ℕ) → answer depth s table ≡ Ok n → checked depth (table_after depth s table) n s ≡ Ok n
unfolding checked
read_yes depth s table n e = rw (exact.read_yes depth s table n e)
