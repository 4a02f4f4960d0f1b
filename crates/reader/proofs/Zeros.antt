-- Zeros behind numbers that are laid at the front of a table. Assumes nothing.
use mathlib.Core.Path.{◌≡◌, sym, ap, ◌∙◌}
use mathlib.Core.List.{List, ◌++◌}
use Prim.Native.Nat.{ℕ, zero, suc, ◌-◌, ◌≤◌}
use native.Mathlib.Nat.{sub-zero, zero-sub, suc-sub-suc}
use native.Mathlib.Omega.{arith}
use lib.ListN.{length, drop, replicate}
use lib.Seq.{sets}
use Rattle.lists.specs.Zeroed.{zeroed}
use Rattle.lists.proofs.Sets.{sets_front}
use Rattle.lists.proofs.Zeros.{length-zeroed, zeroed-all, zeroed-front}

drop-zeros : (n m : ℕ) → drop {A = ℕ} n (replicate m 0) ≡ replicate (m - n) 0
drop-zeros zero m = rw sub-zero
drop-zeros (suc n) zero = rw zero-sub
drop-zeros (suc n) (suc m) = rw suc-sub-suc (drop-zeros n m)

-- numbers laid over zeros, or over any and zeros laid behind them
pub front-zeros : (l vs : List ℕ) → length vs ≤ length l → zeroed (length vs) (sets l 0 vs) ≡ sets (zeroed 0 l) 0 vs
front-zeros l vs h =
    zeroed-front l vs h
    ∙ sym (sets_front (zeroed 0 l) vs (omega (arith, length-zeroed 0 l)) ∙ ap (λ (r : List ℕ). vs ++ r) (ap (drop (length vs)) (zeroed-all l) ∙ drop-zeros (length vs) (length l)))
