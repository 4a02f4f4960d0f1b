-- Steps from a standing, a law for each way out of the code, and what `unwrap_or_default` makes of a step. Assumes nothing.
use mathlib.Core.Path.{◌≡◌, sym, ap, ap₂, ◌∙◌}
use mathlib.Core.Bool.{Bool, true, false, ◌&&◌}
use mathlib.Core.List.{List}
use Prim.Native.Nat.{ℕ, ◌+◌, ◌≤◌, ◌<◌}
use native.Mathlib.Omega.{arith}
use lib.Dec.{ltb, leb}
use borrow.Author.Tests.{lt-ltb, le-ltb, le-leb, lt-leb, eq-eqb, ne_eqb, ltb-true, leb-true}
use Rattle.std.specs.Prelude.{Ok, Err}
use Rattle.std.specs.Result.{ResultUnwrapsOrElse}
use Rattle.lists.proofs.Tests.{and_first, and_second}
use Rattle.rows.specs.declared.row.Row.{Row}
use Rattle.rows.specs.Table.{row_at, lent}
use Rattle.rows.specs.Kinds.{kind_reference}
use Rattle.walker.specs.declared.standing.Standing.{Standing}
use Rattle.walker.specs.declared.unmoved.Unmoved.TheVariants.{NoStep, BadTable}
use Rattle.walker.specs.contracts.standing.StandingDefault.TheImpl.{is_default-value}
use Rattle.walker.specs.Walk.{Step, standing, genuine, step_in, step_on, step_along, step_standing}

-- ---- whether a standing is genuine

module _ (table : List ℕ) (n row bound : ℕ) (l : ℕ) (is : l ≡ lent table) where
  pub few-rows : l < n → false ≡ genuine table n row bound
  unfolding genuine
  few-rows h = rw (lt-leb n (lent table) (omega arith))

  module _ (held : n ≤ l) where
    pub row_out : n ≤ row → false ≡ genuine table n row bound
    unfolding genuine
    row_out h = rw (le-leb n (lent table) (omega arith), le-ltb row n h)

    module _ (within : row < n) where
      pub bound_low : bound ≤ row → false ≡ genuine table n row bound
      unfolding genuine
      bound_low h = rw (le-leb n (lent table) (omega arith), lt-ltb row n within, le-ltb row bound h)

      module _ (above : row < bound) where
        pub bound_high : n < bound → false ≡ genuine table n row bound
        unfolding genuine
        bound_high h = rw (le-leb n (lent table) (omega arith), lt-ltb row n within, lt-ltb row bound above, lt-leb bound n h)

        module _ (bounded : bound ≤ n) (e w : ℕ) (end : w ≡ (row_at table row).end) (as_number : e ≡ w) where
          pub end_low : e ≤ row → false ≡ genuine table n row bound
          unfolding genuine
          end_low h =
              rw (le-leb n (lent table) (omega arith), lt-ltb row n within, lt-ltb row bound above, le-leb bound n bounded, le-ltb row (row_at table row).end (omega arith))

          pub end_decides : row < e → leb e bound ≡ genuine table n row bound
          unfolding genuine
          end_decides h =
              rw (le-leb n (lent table) (omega arith), lt-ltb row n within, lt-ltb row bound above, le-leb bound n bounded, lt-ltb row (row_at table row).end (omega arith))
              (ap (λ (x : ℕ). leb x bound) (as_number ∙ end))

          -- genuine: every test holds
          pub end_within : row < e → e ≤ bound → genuine table n row bound ≡ true
          end_within h k = sym (end_decides h) ∙ le-leb e bound k

-- ---- what a genuine standing has

module _ (table : List ℕ) (n row bound : ℕ) (yes : genuine table n row bound ≡ true) where
  abbrev rest : Bool
  rest = ltb row bound && (leb bound n && (ltb row (row_at table row).end && leb (row_at table row).end bound))

  pub is_below : row < n
  unfolding genuine
  is_below = ltb-true row n (and_first (ltb row n) rest (and_second (leb n (lent table)) (ltb row n && rest) yes))

  is_held : n ≤ lent table
  unfolding genuine
  is_held = leb-true n (lent table) (and_first (leb n (lent table)) (ltb row n && rest) yes)

module _ (table : List ℕ) (n row bound : ℕ) (g : Bool) (is : g ≡ genuine table n row bound) (yes : g ≡ true) where
  good : genuine table n row bound ≡ true
  good = sym is ∙ yes

  pub entry-lent : (entry : ℕ) → entry < row → entry < lent table
  entry-lent entry h = omega (arith, is_held table n row bound good, is_below table n row bound good)

  -- ---- the steps

  module _ (e w : ℕ) (end : w ≡ (row_at table row).end) (as_number : e ≡ w) where
    pub in_yes : row + 1 < e → Ok (standing (row + 1) e) ≡ step_in table n (standing row bound)
    unfolding step_in
    in_yes h = let q : e ≡ (row_at table row).end = as_number ∙ end in rw (← is, yes, ← q, lt-ltb (row + 1) e h)

    pub in_none : e ≤ row + 1 → Err NoStep ≡ step_in table n (standing row bound)
    unfolding step_in
    in_none h = let q : e ≡ (row_at table row).end = as_number ∙ end in rw (← is, yes, ← q, le-ltb (row + 1) e h)

    pub on_yes : e < bound → Ok (standing e bound) ≡ step_on table n (standing row bound)
    unfolding step_on
    on_yes h = let q : e ≡ (row_at table row).end = as_number ∙ end in rw (← is, yes, ← q, lt-ltb e bound h)

    pub on_none : bound ≤ e → Err NoStep ≡ step_on table n (standing row bound)
    unfolding step_on
    on_none h = let q : e ≡ (row_at table row).end = as_number ∙ end in rw (← is, yes, ← q, le-ltb e bound h)

  module _ (r : Row) (at : r ≡ row_at table row) where
    pub along_none : (r.kind ≡ kind_reference → ⊥) → Err NoStep ≡ step_along table n (standing row bound)
    unfolding step_along
    along_none h = rw (← is, yes, ← at, ne_eqb r.kind kind_reference h)

    module _ (refers : r.kind ≡ kind_reference) (entry : ℕ) (names : entry ≡ r.w1) where
      pub along_yes : (e w : ℕ) → w ≡ (row_at table entry).end → e ≡ w → entry < row → Ok (standing entry e) ≡ step_along table n (standing row bound)
      unfolding step_along
      along_yes e w f g h = let q : e ≡ (row_at table entry).end = g ∙ f in rw (← is, yes, ← at, eq-eqb r.kind kind_reference refers, ← names, lt-ltb entry row h, ← q)

      pub along_bad : row ≤ entry → Err BadTable ≡ step_along table n (standing row bound)
      unfolding step_along
      along_bad h = rw (← is, yes, ← at, eq-eqb r.kind kind_reference refers, ← names, le-ltb entry row h)

-- ---- a forged one

module _ (table : List ℕ) (n row bound : ℕ) (g : Bool) (is : g ≡ genuine table n row bound) (no : g ≡ false) where
  pub in_forged : Err BadTable ≡ step_in table n (standing row bound)
  unfolding step_in
  in_forged = rw (← is, no)

  pub on_forged : Err BadTable ≡ step_on table n (standing row bound)
  unfolding step_on
  on_forged = rw (← is, no)

  pub along_forged : Err BadTable ≡ step_along table n (standing row bound)
  unfolding step_along
  along_forged = rw (← is, no)

-- ---- the answers' numbers

pub standing_to : (x : Step) (row bound : ℕ) → x ≡ Ok (standing row bound) → standing row bound ≡ step_standing x
standing_to x row bound e = ap step_standing (sym e)

pub standing-none : (x : Step) → x ≡ Err NoStep → standing 0 0 ≡ step_standing x
standing-none x e = ap step_standing (sym e)

-- "A refusal gives row, bound and moves 0": what it promises is what `step_standing` gives
pub unwrapped : (x : Step) (at : Standing) → ResultUnwrapsOrElse x is_default-value.it at → at ≡ step_standing x
unwrapped (Ok y) at h = h
unwrapped (Err why) at h = ap₂ (λ (r b : ℕ). standing r b) h.0 h.1
