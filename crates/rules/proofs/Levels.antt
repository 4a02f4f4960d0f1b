-- One level down. Assumes nothing.
use mathlib.Core.Path.{◌≡◌}
use Prim.Native.Nat.{ℕ, suc, ◌-◌}
use native.Mathlib.Omega.{arith}

pub down : (d : ℕ) → suc d - 1 ≡ d
down d = omega arith
