-- What C unpacks is what was packed: no bit is lost. So two answers that are packed alike have the same number and the same number beside it. Assumes nothing.
use mathlib.Core.Path.{◌≡◌, sym, ap, ◌∙◌}
use Prim.Native.Nat.{ℕ, ◌/◌, ◌%◌, ◌^◌, ◌<◌}
use Rattle.walker.specs.Walk.{Step, step_number, step_standing}
use Rattle.packing.specs.Packed.{packed, packed_standing, packed_step}
use Rattle.packing.specs.Inner.{LowStep}
use Rattle.packing.proofs.Packs.{packed-number, packed_beside, standing-row, standing_bound}
use Rattle.packing.proofs.Widths.{standing_packs}

-- the top 8 bits are the number, the low 56 the number beside it
pub record Unpacks (r number beside : ℕ) : Type 0 where
  pub top : r / 2 ^ 56 ≡ number
  pub low : r % 2 ^ 56 ≡ beside

pub unpacks : (number beside : ℕ) → beside < 2 ^ 56 → Unpacks (packed number beside) number beside
unpacks number beside h = record { top = packed-number number beside h; low = packed_beside number beside h }

-- a step's row and bound too
pub record Steps (r : ℕ) (s : Step) : Type 0 where
  pub number : r / 2 ^ 56 ≡ step_number s
  pub row : r % 2 ^ 56 / 2 ^ 32 ≡ (step_standing s).row
  pub bound : r % 2 ^ 56 % 2 ^ 32 ≡ (step_standing s).bound

pub steps : (s : Step) → LowStep s → Steps (packed_step s) s
unfolding packed_step
steps s l =
    let h : packed_standing (step_standing s) < 2 ^ 56 = standing_packs s l in
    let e : packed (step_number s) (packed_standing (step_standing s)) % 2 ^ 56 ≡ packed_standing (step_standing s) = packed_beside _ _ h in
    record {
      number = packed-number _ _ h;
      row = ap (λ (x : ℕ). x / 2 ^ 32) e ∙ standing-row (step_standing s) l.bound_low;
      bound = ap (λ (x : ℕ). x % 2 ^ 32) e ∙ standing_bound (step_standing s) l.bound_low;
    }

-- packed alike
module _ (n b m c : ℕ) (low : b < 2 ^ 56) (also : c < 2 ^ 56) (same : packed n b ≡ packed m c) where
  pub one_number : n ≡ m
  one_number = sym (packed-number n b low) ∙ ap (λ (x : ℕ). x / 2 ^ 56) same ∙ packed-number m c also

  pub one_beside : b ≡ c
  one_beside = sym (packed_beside n b low) ∙ ap (λ (x : ℕ). x % 2 ^ 56) same ∙ packed_beside m c also
