-- How the walk over a text goes on. Assumes nothing.
use Prim.Native.Nat.{ℕ, zero, suc, ◌+◌, ◌<◌}
use mathlib.Core.List.{List, [], ◌∷◌}
use mathlib.Core.Path.{◌≡◌, refl, ap, ◌∙◌}
use native.Mathlib.Omega.{arith}
use native.Mathlib.Nat.{add-zero}
use lib.ListN.{length, drop}
use Rattle.text.specs.Check.{ill_formed, sequence, text_from}

-- the n bytes that end a sequence are passed over
skip : (at n : ℕ) (s : List ℕ) → text_from at n s ≡ text_from (at + n) 0 (drop n s)
unfolding text_from
skip at zero s = rw add-zero
skip at (suc n) [] = refl
skip at (suc n) (b ∷ s) = skip (suc at) n s ∙ ap (λ (k : ℕ). text_from k 0 (drop n s)) (omega arith)

pub goes_on_lem : (at n : ℕ) (s : List ℕ) → 0 < n → sequence s ≡ n → text_from at 0 s ≡ text_from (at + n) 0 (drop n s)
unfolding text_from
goes_on_lem at zero s h e = absurd (omega arith)
goes_on_lem at (suc n) [] h e = refl
goes_on_lem at (suc n) (b ∷ s) h e = rw (e, text_from) (skip at (suc n) (b ∷ s))

pub stops : (at : ℕ) (s : List ℕ) → 0 < length s → sequence s ≡ 0 → text_from at 0 s ≡ ill_formed at
unfolding text_from
stops at [] h e = absurd (omega arith)
stops at (b ∷ s) h e = rw e
