-- From a row reached along there is no way on, on any table: its bound is the entry's own end. Assumes nothing.
use mathlib.Core.Path.{◌≡◌, refl, sym, ap, ◌∙◌}
use mathlib.Core.Bool.{Bool, true, false}
use mathlib.Core.List.{List}
use Prim.Native.Nat.{ℕ, ◌<◌}
use native.Mathlib.Omega.{arith}
use lib.Dec.{ltb, eqb}
use borrow.Author.Tests.{le-ltb, ltb-true}
use Rattle.std.specs.Prelude.{Ok, Err}
use Rattle.rows.specs.Table.{row_at}
use Rattle.rows.specs.Kinds.{kind_reference}
use Rattle.walker.specs.declared.standing.Standing.{Standing}
use Rattle.walker.specs.declared.unmoved.Unmoved.TheVariants.{NoStep}
use Rattle.walker.specs.Walk.{standing, genuine, asked, step_on, step_along}

-- "Along: a reference's entry, bound that entry's end."
pub record Reached (table : List ℕ) (n : ℕ) (at : Standing) (row bound : ℕ) : Type 0 where
  pub from : genuine table n at.row at.bound ≡ true
  pub before : row < at.row
  pub end : bound ≡ (row_at table row).end

module _ (table : List ℕ) (n : ℕ) (at : Standing) (row bound : ℕ) (e : step_along table n at ≡ Ok (standing row bound)) where
  abbrev entry : ℕ
  entry = (row_at table at.row).w1

  by : (a b c : Bool) → genuine table n at.row at.bound ≡ a → eqb (row_at table at.row).kind kind_reference ≡ b → ltb entry at.row ≡ c → Reached table n at row bound
  unfolding step_along
  by true true true g k l =
      let q = rw (g, k, l) at e in
      let s : standing entry (row_at table entry).end ≡ standing row bound = cc in
      let i : entry ≡ row = ap (λ (x : Standing). x.row) s in
      let m : (row_at table entry).end ≡ bound = ap (λ (x : Standing). x.bound) s in
      record { from = g; before = omega (arith, i, ltb-true entry at.row l); end = sym m ∙ ap (λ (x : ℕ). (row_at table x).end) i }
  by true true false g k l = absurd (let q = rw (g, k, l) at e in cc)
  by true false c g k l = absurd (let q = rw (g, k) at e in cc)
  by false b c g k l = absurd (let q = rw g at e in cc)

  pub reached : Reached table n at row bound
  reached = by (genuine table n at.row at.bound) (eqb (row_at table at.row).kind kind_reference) (ltb entry at.row) refl refl refl

  -- so on is 14, or 12 where that standing is forged
  pub on_nowhere : step_on table n (standing row bound) ≡ asked (genuine table n row bound) (Err NoStep)
  unfolding step_on
  on_nowhere = rw (← reached.end, le-ltb bound bound (omega arith))
