-- In a table that passed the check, on from a row reached along is 14. Assumes nothing.
use mathlib.Core.Path.{◌≡◌, ap, ◌∙◌, subst}
use Prim.Native.Nat.{ℕ, ◌<◌}
use native.Mathlib.Omega.{arith}
use mathlib.Core.Bool.{Bool, true}
use mathlib.Core.List.{List}
use Rattle.std.specs.Prelude.{Ok, Err}
use Rattle.rows.specs.Table.{row_at}
use Rattle.format.specs.Tree.{Tree}
use Rattle.rules.specs.Obeys.{Stands}
use Rattle.walker.specs.declared.standing.Standing.{Standing}
use Rattle.walker.specs.declared.unmoved.Unmoved.TheVariants.{NoStep}
use Rattle.walker.specs.Walk.{standing, genuine, asked, step_on, step_along}
use Rattle.walker.proofs.Along.{reached, on_nowhere}
use Rattle.walker.proofs.Standings.{is_below}
use Rattle.walks.specs.Spots.{Spot, nil, spot_row, bound_of}
use Rattle.walks.proofs.Good.{Good, Linked}
use Rattle.walks.proofs.Walked.{good-own, here-genuine}
use Rattle.walks.proofs.Resolves.{row-good}

module _ (table : List ℕ) (n : ℕ) (s : List ℕ) where
  -- a spot's row, with its own end as bound, may be stood on
  good-genuine : (x : Spot) → Good table n s x → genuine table n (spot_row x) (row_at table (spot_row x)).end ≡ true
  unfolding Good Linked bound_of
  good-genuine x g =
      ap (genuine table n (spot_row x)) (good-own table n s x g).0 ∙ here-genuine table n s x nil record { good = g; goods = tt; linked = tt }

module _ (depth : ℕ) (table : List ℕ) (n : ℕ) (s : List ℕ) (t : Tree) (st : Stands depth table n s t) where
  -- and so may every row
  row-genuine : (row : ℕ) → row < n → genuine table n row (row_at table row).end ≡ true
  row-genuine row h =
      let f = row-good depth table n s t st row h in
      subst (λ (r : ℕ). genuine table n r (row_at table r).end ≡ true) f.1 (good-genuine table n s f.0 f.2)

  -- from wherever it was reached
  pub on_none : (at : Standing) (row bound : ℕ) → step_along table n at ≡ Ok (standing row bound) → step_on table n (standing row bound) ≡ Err NoStep
  on_none at row bound e =
      let r = reached table n at row bound e in
      let l : at.row < n = is_below table n at.row at.bound r.from in
      let g : genuine table n row bound ≡ true = ap (genuine table n row) r.end ∙ row-genuine row (omega (arith, r.before, l)) in
      on_nowhere table n at row bound e ∙ ap (λ (b : Bool). asked b (Err NoStep)) g
