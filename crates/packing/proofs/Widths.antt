-- What is packed or laid fits: a standing in 56 bits, and a word of a list in 32. Assumes nothing.
use mathlib.Core.Path.{◌≡◌, sym, subst}
use Prim.Native.Nat.{ℕ, ◌+◌, ◌*◌, ◌^◌, ◌≤◌, ◌<◌}
use native.Mathlib.Omega.{arith}
use mir.Syntax.{w32, w64}
use mir.Val.{Fits}
use Rattle.std.specs.Prelude.{Result}
use Rattle.rows.specs.declared.bad_table.BadTable.{BadTable}
use Rattle.rows.specs.Table.{limit}
use Rattle.walker.specs.declared.standing.Standing.{Standing}
use Rattle.walker.specs.Walk.{Step, step_standing}
use Rattle.resolve.specs.declared.resolved.Resolved.{Resolved}
use Rattle.resolve.specs.Resolve.{resolved_row, resolved_bound, resolved_moves}
use Rattle.payload.specs.declared.part.Part.{Part}
use Rattle.packing.specs.Packed.{packed_standing}
use Rattle.packing.specs.Inner.{LowStep, SmallResolved, SmallPart}

-- ---- standings

pub standing_packs : (s : Step) → LowStep s → packed_standing (step_standing s) < 2 ^ 56
unfolding packed_standing
standing_packs s l = omega (arith, l.row_low, l.bound_low)

-- what a standing that packs makes
module _ (n : ℕ) (few : n ≤ limit) (s : Step) (packs : n ≤ limit → LowStep s) (at : Standing) (is : at ≡ step_standing s) where
  r : at.row < 2 ^ 24
  r = subst (λ (x : Standing). x.row < 2 ^ 24) (sym is) (packs few).row_low

  b : at.bound < 2 ^ 32
  b = subst (λ (x : Standing). x.bound < 2 ^ 32) (sym is) (packs few).bound_low

  pub row_fits : Fits w64 (at.row * 2 ^ 32)
  row_fits = omega (arith, r)

  pub standing-fits : Fits w64 (at.row * 2 ^ 32 + at.bound)
  standing-fits = omega (arith, r, b)

  pub standing-low : at.row * 2 ^ 32 + at.bound < 2 ^ 56
  standing-low = omega (arith, r, b)

-- ---- words of a list

module _ (r : Result Resolved BadTable) (small : SmallResolved r) (n : ℕ) where
  pub row_cast : n ≡ resolved_row r → Fits w32 n
  row_cast e = omega (arith, small.row_small)

  pub bound_cast : n ≡ resolved_bound r → Fits w32 n
  bound_cast e = omega (arith, small.bound_small)

  pub moves_cast : n ≡ resolved_moves r → Fits w32 n
  moves_cast e = omega (arith, small.moves_small)

module _ (p : Part) (placed : SmallPart p) where
  pub place_cast : Fits w32 p.place
  place_cast = omega (arith, placed.place_short)

  pub size_cast : Fits w32 p.size
  size_cast = omega (arith, placed.size-short)
