-- The answer and the table afterwards, by each way out of filling; and that two answers allowed are equal. Assumes nothing.
use Rattle.std.specs.Prelude.{Result, Ok, Err}
use mathlib.Core.Path.{◌≡◌, ◌∙◌, sym, ap, ap₂, subst}
use mathlib.Core.Bool.{Bool, true, false}
use mathlib.Core.List.{List, []}
use Prim.Native.Nat.{ℕ, ◌*◌, ◌^◌, ◌≤◌, ◌<◌}
use native.Mathlib.Omega.{arith}
use mir.Syntax.{w64}
use mir.Val.{Fits}
use lib.ListN.{length}
use lib.Seq.{sets}
use lib.Dec.{leb}
use borrow.Author.Tests.{le-leb, lt-leb}
use Rattle.lists.specs.Zeroed.{zeroed}
use Rattle.wide.proofs.Families.{cond_yes, cond_no}
use Rattle.rows.specs.Table.{words_per_row, lent, limit}
use Rattle.format.specs.declared.unfilled.Unfilled.{Unfilled}
use Rattle.format.specs.declared.unfilled.Unfilled.TheVariants.{TooLong, Refused, Full}
use Rattle.format.specs.declared.refusal.Refusal.{Refusal}
use Rattle.format.specs.Tree.{size}
use Rattle.format.specs.Value.{Reading, wrong, document}
use Rattle.format.specs.Layout.{layout}
use Rattle.format.specs.Answer.{answer_for, answer, filled, table_after}
use Rattle.format.proofs.Layouts.{length-layout}
use Rattle.format.proofs.Values.{document_read, document-rows}
use Rattle.measure.specs.Inner.{measured_of, row_in, told, is_broken, number_wrong, place_wrong, refusal_of}
use Rattle.measure.proofs.Numbers.{ReadRight, read_right, read_wrong}
use Rattle.registry.proofs.Walks.{based-plain, below_none}
use Rattle.laying.specs.Inner.{Right, tree_read, Ready}
use Rattle.reader.proofs.Zeros.{front-zeros}

module _ (depth : ℕ) (s table : List ℕ) where
  pub too_long : limit < length s → Err TooLong ≡ answer depth s table
  unfolding answer
  too_long h = sym (cond_no (leb (length s) limit) _ _ (lt-leb (length s) limit h))

  pub too_long-zeros : limit < length s → (table' : List ℕ) → table' ≡ zeroed 0 table → table' ≡ table_after depth s table
  unfolding table_after
  too_long-zeros h table' e = e ∙ sym (cond_no (leb (length s) limit) _ _ (lt-leb (length s) limit h))

  -- with bytes within the limit, by what was measured
  module _ (few : length s ≤ limit) (f : ℕ) (measured : f ≡ told (measured_of (document depth s))) where
    says : (x : Reading) → document depth s ≡ x → answer_for (lent table) x ≡ answer depth s table
    unfolding answer
    says x e = sym (cond_yes (leb (length s) limit) _ _ (le-leb (length s) limit few) ∙ ap (answer_for (lent table)) e)

    holds : (x : Reading) → document depth s ≡ x → filled (lent table) x table ≡ table_after depth s table
    unfolding table_after
    holds x e = sym (cond_yes (leb (length s) limit) _ _ (le-leb (length s) limit few) ∙ ap (λ (y : Reading). filled (lent table) y table) e)

    -- it is wrong
    module _ (refusal : 72057594037927936 ≤ f) where
      is-wrong : document depth s ≡ wrong (refusal_of (number_wrong f)) (place_wrong f)
      is-wrong = read_wrong 0 (length s) (document depth s) (document_read depth s) (omega arith) few f measured refusal

      pub refused : (r : Refusal) (p : ℕ) → r ≡ refusal_of (number_wrong f) → p ≡ place_wrong f → Err (Refused r p) ≡ answer depth s table
      refused r p er ep = ap₂ (λ (x : Refusal) (y : ℕ). Err (Refused x y)) er ep ∙ says _ is-wrong

      pub refused-zeros : (table' : List ℕ) → table' ≡ zeroed 0 table → table' ≡ table_after depth s table
      refused-zeros table' e = e ∙ holds _ is-wrong

    -- it is right
    module _ (good : f < 72057594037927936) (needed : ℕ) (rows : needed ≡ row_in f) where
      is_right : ReadRight (document depth s) f
      is_right = read_right 0 (length s) (document depth s) (document_read depth s) (omega arith) few f measured good

      count : size is_right.tree ≡ needed
      count = is_right.rows ∙ sym rows

      -- and needs more rows than lent
      module _ (l : ℕ) (el : l ≡ lent table) (more : l < needed) where
        small : leb (size is_right.tree) (lent table) ≡ false
        small = lt-leb (size is_right.tree) (lent table) (omega (arith, count))

        pub full : Err (Full needed) ≡ answer depth s table
        full = ap (λ (x : ℕ). Err (Full x)) (sym count) ∙ sym (cond_no (leb (size is_right.tree) (lent table)) _ _ small) ∙ says _ is_right.is

        pub full-zeros : (table' : List ℕ) → table' ≡ zeroed 0 table → table' ≡ table_after depth s table
        full-zeros table' e = e ∙ sym (cond_no (leb (size is_right.tree) (lent table)) _ _ small) ∙ holds _ is_right.is

      -- or they are lent
      module _ (l : ℕ) (el : l ≡ lent table) (room : needed ≤ l) where
        enough : leb (size is_right.tree) (lent table) ≡ true
        enough = le-leb (size is_right.tree) (lent table) (omega (arith, count))

        pub rows-lent : (b : Bool) → b ≡ is_broken f → Ready (document depth s) b table 0 0 0
        unfolding Right tree_read
        rows-lent b eb =
            let n = document-rows depth s is_right.tree _ is_right.is in
            subst (λ (x : Reading). Ready x b table 0 0 0) (sym is_right.is) (record {
              good = tt;
              room = omega (arith, count);
              small = omega (arith, n);
              below = below_none table 0 0;
              based = based-plain table 0 0 (omega arith);
              sure = λ e. is_right.broken ∙ sym eb ∙ e;
            })

        -- its rows are laid
        module _ (used : ℕ) (eu : used ≡ size (tree_read (document depth s))) where
          used_is : used ≡ size is_right.tree
          unfolding tree_read
          used_is = eu ∙ ap (λ (x : Reading). size (tree_read x)) is_right.is

          pub used_fits : length table < 2 ^ 64 → Fits w64 (words_per_row * used)
          used_fits h = omega (arith, used_is, count)

          pub accepted : Ok used ≡ answer depth s table
          accepted = ap Ok used_is ∙ sym (cond_yes (leb (size is_right.tree) (lent table)) _ _ enough) ∙ says _ is_right.is

          pub accepted-rows : (table₁ : List ℕ) → table₁ ≡ sets table 0 (layout (tree_read (document depth s)) 0 [])
              → (table' : List ℕ) → table' ≡ zeroed (words_per_row * used) table₁ → table' ≡ table_after depth s table
          unfolding tree_read
          accepted-rows table₁ e table' z =
              let ws : List ℕ = layout is_right.tree 0 [] in
              let n : length ws ≡ words_per_row * size is_right.tree = length-layout is_right.tree 0 [] in
              let u : words_per_row * used ≡ length ws = omega (arith, n, used_is) in
              let w : table₁ ≡ sets table 0 ws = e ∙ ap (λ (x : Reading). sets table 0 (layout (tree_read x) 0 [])) is_right.is in
              z ∙ cc (u, w) ∙ front-zeros table ws (omega (arith, n, count))
              ∙ sym (cond_yes (leb (size is_right.tree) (lent table)) _ _ enough) ∙ holds _ is_right.is

-- ---- one answer

-- what the promise of fill allows: an answer and a table afterwards
pub record Allowed (depth : ℕ) (s table : List ℕ) (r : Result ℕ Unfilled) (after : List ℕ) : Type 0 where
  pub says : r ≡ answer depth s table
  pub rows : after ≡ table_after depth s table

pub one_answer : (depth : ℕ) (s table : List ℕ) (r r' : Result ℕ Unfilled) (after after' : List ℕ) → Allowed depth s table r after → Allowed depth s table r' after'
    → (r ≡ r') × (after ≡ after')
one_answer depth s table r r' after after' p q = (p.says ∙ sym q.says, p.rows ∙ sym q.rows)
