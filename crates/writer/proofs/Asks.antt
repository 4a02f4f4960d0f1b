-- The writer's questions, 12, 1, 13, each with its answer and the output afterwards. Assumes nothing.
use mathlib.Core.Path.{◌≡◌, refl, sym, ap, ◌∙◌, subst}
use mathlib.Core.Bool.{Bool, true, false, cond}
use mathlib.Core.List.{List, []}
use Prim.Native.Nat.{ℕ, suc, ◌-◌, ◌*◌, ◌^◌, ◌≤◌, ◌<◌}
use native.Mathlib.Nat.{zero-add}
use native.Mathlib.Omega.{arith}
use lib.ListN.{length, get_or, drop}
use lib.Dec.{leb}
use borrow.Author.Tests.{le-leb, lt-leb}
use Rattle.std.specs.Prelude.{Result, Ok, Err}
use Rattle.rows.specs.declared.bad_table.BadTable.{BadTable}
use Rattle.rows.specs.Table.{words_per_row, row_at, limit}
use Rattle.format.specs.Tree.{Tree}
use Rattle.rules.specs.Grow.{rules_hold}
use Rattle.rules.specs.Obeys.{Stands}
use Rattle.rules.proofs.Exact.{yes_stands, laid_out, stands_grows}
use Rattle.checker.specs.Checked.{bad_table, checked}
use Rattle.checker.proofs.Answers.{yes_holds}
use Rattle.encode.specs.Encode.{encode}
use Rattle.spell.specs.Inner.{Inside}
use Rattle.writer.specs.declared.unwritten.Unwritten.TheVariants as refused
use Rattle.writer.specs.Written.{encoded, document_of, written, output_after}
use Rattle.writer.specs.Inner.{Spells, Spelt, Long, RoomFor, FrontLaid}
use Rattle.writer.proofs.Spelling.{inside_at, spelled-few}
use Rattle.writer.proofs.Trees.{tree_spells}

-- ---- the check

module _ (depth : ℕ) (table : List ℕ) (n : ℕ) (s : List ℕ) (c : Result ℕ BadTable) (e : c ≡ checked depth table n s) where
  pub checked_yes : (rows : ℕ) → c ≡ Ok rows → rules_hold depth table n s ≡ true
  checked_yes rows q = yes_holds depth table n s rows (sym e ∙ q)

  pub checked_no : c ≡ Err bad_table → rules_hold depth table n s ≡ false
  unfolding checked
  checked_no q = of (rules_hold depth table n s) (sym e ∙ q)
    where
      of : (b : Bool) → cond b (Ok n) (Err bad_table) ≡ Err bad_table → b ≡ false
      of true r = absurd (let z : ◌≡◌ {A = ℕ} 0 1 = cc in omega arith)
      of false r = refl

-- ---- a table that passes

module _ (depth : ℕ) (table : List ℕ) (n : ℕ) (s : List ℕ) where
  pub stands_document : (t : Tree) → Stands depth table n s t → document_of depth table n s ≡ encode s t
  unfolding document_of
  stands_document t st = ap (encoded s) (stands_grows depth table n s t st)

  stands_spells : (t : Tree) → Stands depth table n s t → Spells table s 0 n (document_of depth table n s)
  stands_spells t st =
      subst (Spells table s 0 n) (sym (stands_document t st))
      (subst (λ (x : ℕ). Spells table s 0 x (encode s t)) (zero-add _ ∙ st.rows) (tree_spells table s t (suc depth) 0 0 [] (drop (words_per_row * n) table) st.obeys (laid_out depth table n s t st)))

  module _ (yes : rules_hold depth table n s ≡ true) where
    stands : (t : Tree) × Stands depth table n s t
    stands = yes_stands depth table n s yes

    spells : Spells table s 0 n (document_of depth table n s)
    spells = stands_spells stands.0 stands.1

    pub yes_inside : (row : ℕ) → row < n → Inside s (row_at table row)
    yes_inside row l = inside_at table s 0 n (document_of depth table n s) spells row (omega arith) l

    -- the bytes needed are below 2 ^ 49
    pub yes_few : ((i : ℕ) → get_or table i 0 < 2 ^ 32) → length (document_of depth table n s) ≤ n * 2 ^ 25
    yes_few fit =
        let e : n - 0 ≡ n = omega arith in
        subst (λ (x : ℕ). length (document_of depth table n s) ≤ x * 2 ^ 25) e (spelled-few table s fit stands.1.short 0 n (document_of depth table n s) stands.1.few spells)

    pub yes_spelt : Spelt table 0 n
    yes_spelt = record { rows-lent = stands.1.rows-lent; few = stands.1.few; over = s; short = stands.1.short; bytes = document_of depth table n s; spells = spells }

    module _ (needed : ℕ) (long : Long table 0 n needed) (out : List ℕ) where
      exact : needed ≡ length (document_of depth table n s)
      exact = long.long s (document_of depth table n s) spells

      pub too_large : limit < needed → (Err (refused.TooLarge needed) ≡ written depth table n s (length out)) × (out ≡ output_after depth table n s out)
      unfolding written output_after
      too_large h =
          let D : ℕ = length (document_of depth table n s) in
          let l : leb D limit ≡ false = lt-leb D limit (omega (arith, exact)) in
          (ap (λ (x : ℕ). Err (refused.TooLarge x)) exact ∙ rw (yes, l), rw (yes, l))

      pub no_room : needed ≤ limit → length out < needed → (Err (refused.NoRoom needed) ≡ written depth table n s (length out)) × (out ≡ output_after depth table n s out)
      unfolding written output_after
      no_room h r =
          let D : ℕ = length (document_of depth table n s) in
          let l : leb D limit ≡ true = le-leb D limit (omega (arith, exact)) in
          let m : leb D (length out) ≡ false = lt-leb D (length out) (omega (arith, exact)) in
          (ap (λ (x : ℕ). Err (refused.NoRoom x)) exact ∙ rw (yes, l, m), rw (yes, l, m))

      pub yes_fits : needed ≤ length out → RoomFor table s n (length out)
      yes_fits r = record { rows-lent = stands.1.rows-lent; few = stands.1.few; short = stands.1.short; bytes = document_of depth table n s; spells = spells; fits = omega (arith, exact) }

      pub done : needed ≤ limit → needed ≤ length out → (after : List ℕ) → FrontLaid table s n out after
          → (Ok needed ≡ written depth table n s (length out)) × (after ≡ output_after depth table n s out)
      unfolding written output_after
      done h r after g =
          let D : ℕ = length (document_of depth table n s) in
          let l : leb D limit ≡ true = le-leb D limit (omega (arith, exact)) in
          let m : leb D (length out) ≡ true = le-leb D (length out) (omega (arith, exact)) in
          (ap Ok exact ∙ rw (yes, l, m), g.laid (document_of depth table n s) spells ∙ rw (yes, l, m))

  -- ---- one that does not

  pub bad-table : rules_hold depth table n s ≡ false → (out : List ℕ) → (Err refused.BadTable ≡ written depth table n s (length out)) × (out ≡ output_after depth table n s out)
  unfolding written output_after
  bad-table e out = (rw e, rw e)
