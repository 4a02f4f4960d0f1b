-- Laws of `zeroed`. Assumes nothing.
use mathlib.Core.Path.{◌≡◌, refl, sym, ◌∙◌}
use Prim.Native.Nat.{ℕ, zero, suc, ◌+◌, ◌-◌, ◌≤◌, ◌<◌}
use native.Mathlib.Nat.{le_refl, zero-add, sub-zero, zero-sub, suc-sub-suc}
use native.Mathlib.Omega.{arith}
use mathlib.Core.List.{List, [], ◌∷◌, ◌++◌, append-nil, append_assoc}
use lib.ListN.{length, get_or, take, drop, replicate, length-take, length-append, length-replicate, drop_of_length-le}
use borrow.Rule.Slice.PartMut.{put_mid, mid_of, post_of, mid_len, Post-is}
use lib.Seq.{sets, length-sets, take_all}
use Rattle.lists.specs.Zeroed.{zeroed}
use Rattle.lists.proofs.Sets.{sets_cons, sets_out, sets_whole, take_sets_at}

pub length-zeroed : (from : ℕ) (l : List ℕ) → length (zeroed from l) ≡ length l
unfolding zeroed
length-zeroed from l = simp (length-append, length-take, length-replicate) (omega arith)

zeroed-nil : (from : ℕ) → zeroed from [] ≡ []
unfolding zeroed
zeroed-nil zero = refl
zeroed-nil (suc from) = rw zero-sub

zeroed-cons : (from x : ℕ) (l : List ℕ) → zeroed (suc from) (x ∷ l) ≡ x ∷ zeroed from l
unfolding zeroed
zeroed-cons from x l = rw suc-sub-suc

-- from 0 on all is 0
pub zeroed-all : (l : List ℕ) → zeroed 0 l ≡ replicate (length l) 0
unfolding zeroed
zeroed-all l = rw sub-zero

-- from the end on nothing changes
pub zeroed_out : (from : ℕ) (l : List ℕ) → length l ≤ from → zeroed from l ≡ l
unfolding zeroed
zeroed_out from l h =
    let e : length l - from ≡ 0 = omega arith in
    rw (e, take_all from l h) (append-nil l)

-- zeros laid over all that stands from `from` on
pub zeroed_laid : (from : ℕ) (l ys : List ℕ) → from ≤ length l → ys ≡ replicate (length (mid_of from (length l - from) l)) 0
    → put_mid from (length l - from) l ys ≡ zeroed from l
unfolding zeroed
zeroed_laid from l ys h e =
    let n : length (mid_of from (length l - from) l) ≡ length l - from = mid_len from (length l) l (le_refl (length l)) in
    let r : post_of from (length l - from) l ≡ [] = Post-is from (length l) l h ∙ drop_of_length-le l (le_refl (length l)) in
    rw (e, n, r, append-nil)

-- as the kit says what `fill` leaves: the zeros, where a copy of a number is that number
pub zeroed_filled : (from : ℕ) (l ys : List ℕ) → from ≤ length l
    → (((y : ℕ) → y ≡ 0 → y ≡ 0) → ys ≡ replicate (length (mid_of from (length l - from) l)) 0) → put_mid from (length l - from) l ys ≡ zeroed from l
zeroed_filled from l ys h e = zeroed_laid from l ys h (e (λ y q. q))

-- the numbers before it stay
pub take-zeroed : (n from : ℕ) (l : List ℕ) → n ≤ from → take n (zeroed from l) ≡ take n l
take-zeroed zero from l h = refl
take-zeroed (suc n) zero l h = absurd (omega arith)
take-zeroed (suc n) (suc from) [] h = rw zeroed-nil
take-zeroed (suc n) (suc from) (x ∷ l) h = rw (zeroed-cons, take-zeroed n from l (omega arith))

pub get_or-zeroed-before : (from : ℕ) (l : List ℕ) (j : ℕ) → j < from → get_or (zeroed from l) j 0 ≡ get_or l j 0
get_or-zeroed-before zero l j h = absurd (omega arith)
get_or-zeroed-before (suc from) [] j h = rw zeroed-nil
get_or-zeroed-before (suc from) (x ∷ l) zero h = rw zeroed-cons
get_or-zeroed-before (suc from) (x ∷ l) (suc j) h = rw zeroed-cons (get_or-zeroed-before from l j (omega arith))

-- those from it on are 0
pub drop-zeroed : (from : ℕ) (l : List ℕ) → drop from (zeroed from l) ≡ replicate (length l - from) 0
drop-zeroed zero l = zeroed-all l ∙ rw sub-zero
drop-zeroed (suc from) [] = rw (zeroed-nil, zero-sub)
drop-zeroed (suc from) (x ∷ l) = rw (zeroed-cons, suc-sub-suc) (drop-zeroed from l)

get_or-zeros : (n j : ℕ) → ◌≡◌ {A = ℕ} (get_or (replicate n 0) j 0) 0
get_or-zeros zero j = refl
get_or-zeros (suc n) zero = refl
get_or-zeros (suc n) (suc j) = get_or-zeros n j

pub get_or-zeroed-behind : (from : ℕ) (l : List ℕ) (j : ℕ) → from ≤ j → get_or (zeroed from l) j 0 ≡ 0
get_or-zeroed-behind zero l j h = rw zeroed-all (get_or-zeros (length l) j)
get_or-zeroed-behind (suc from) [] j h = rw zeroed-nil
get_or-zeroed-behind (suc from) (x ∷ l) zero h = absurd (omega arith)
get_or-zeroed-behind (suc from) (x ∷ l) (suc j) h = rw zeroed-cons (get_or-zeroed-behind from l j (omega arith))

-- what was laid stays, and what is behind it is 0
pub zeroed_sets : (l : List ℕ) (i : ℕ) (vs : List ℕ) → i + length vs ≤ length l
    → zeroed (i + length vs) (sets l i vs) ≡ take i l ++ (vs ++ replicate (length l - (i + length vs)) 0)
unfolding zeroed
zeroed_sets l i vs h = rw (take_sets_at l i vs h, length-sets) (append_assoc (take i l) vs (replicate (length l - (i + length vs)) 0))

pub zeroed-front : (l vs : List ℕ) → length vs ≤ length l → zeroed (length vs) (sets l 0 vs) ≡ vs ++ replicate (length l - length vs) 0
zeroed-front l vs h = rw zero-add at (zeroed_sets l 0 vs (omega arith))

-- zeroing is laying zeros
pub zeroed-zeros : (from : ℕ) (l : List ℕ) → zeroed from l ≡ sets l from (replicate (length l - from) 0)
zeroed-zeros zero l = rw (zeroed-all, sub-zero) (sym (sets_whole l (replicate (length l) 0) (length-replicate (length l) 0)))
zeroed-zeros (suc from) [] = zeroed-nil (suc from) ∙ sym (sets_out [] (suc from) (replicate (0 - suc from) 0) (omega arith))
zeroed-zeros (suc from) (x ∷ l) = rw (zeroed-cons, suc-sub-suc, zeroed-zeros from l) (sym (sets_cons x l from (replicate (length l - from) 0)))
