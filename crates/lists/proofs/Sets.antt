-- Laws of `sets`, the kit's run of stores: vs laid over l from index i on, what would fall behind the end dropped. Beside them the kit has
-- `length-sets` and `sets-eq` (`sets l i vs ≡ take i l ++ vs ++ drop (i + length vs) l`, where it fits). Assumes nothing.
use mathlib.Core.Path.{◌≡◌, refl, sym, ap, ◌∙◌}
use Prim.Native.Nat.{ℕ, zero, suc, ◌+◌, ◌-◌, ◌≤◌, ◌<◌}
use native.Mathlib.Nat.{add-zero, zero-add}
use native.Mathlib.Omega.{arith}
use mathlib.Core.List.{List, [], ◌∷◌, ◌++◌, append-nil, append_assoc}
use lib.ListN.{length, get_or, set, take, drop, length-set, length-append, drop_of_length-le}
use borrow.Rule.Slice.PartMut.{put_mid}
use lib.Seq.{sets, sets-eq, drop-drop, set_comm, set-set, set_out, get_or-set_same, get_or-set_other, take-set-le, drop-set-lt, drop-set-add, length-take-le, drop_at, take_at}

pub sets_cons : (x : ℕ) (l : List ℕ) (i : ℕ) (vs : List ℕ) → sets (x ∷ l) (suc i) vs ≡ x ∷ sets l i vs
sets_cons x l i [] = refl
sets_cons x l i (v ∷ vs) = sets_cons x (set l i v) (suc i) vs

-- two runs back to back are one
pub sets_append : (l : List ℕ) (i : ℕ) (xs ys : List ℕ) → sets l i (xs ++ ys) ≡ sets (sets l i xs) (i + length xs) ys
sets_append l i [] ys = rw add-zero
sets_append l i (x ∷ xs) ys =
    let e : suc i + length xs ≡ i + suc (length xs) = omega arith in
    sets_append (set l i x) (suc i) xs ys ∙ ap (λ (n : ℕ). sets (sets (set l i x) (suc i) xs) n ys) e

pub sets_set : (l : List ℕ) (i x j : ℕ) (ys : List ℕ) → i < j → sets (set l i x) j ys ≡ set (sets l j ys) i x
sets_set l i x j [] h = refl
sets_set l i x j (y ∷ ys) h =
    ap (λ (m : List ℕ). sets m (suc j) ys) (set_comm l i j x y (omega arith)) ∙ sets_set (set l j y) i x (suc j) ys (omega arith)

-- runs that do not meet may be laid in either order
pub sets_comm : (l : List ℕ) (i : ℕ) (xs : List ℕ) (j : ℕ) (ys : List ℕ) → i + length xs ≤ j → sets (sets l j ys) i xs ≡ sets (sets l i xs) j ys
sets_comm l i [] j ys h = refl
sets_comm l i (x ∷ xs) j ys h =
    ap (λ (m : List ℕ). sets m (suc i) xs) (sym (sets_set l i x j ys (omega arith))) ∙ sets_comm (set l i x) (suc i) xs j ys (omega arith)

-- the run behind is laid first
pub sets_join : (l : List ℕ) (i : ℕ) (xs : List ℕ) (j : ℕ) (ys : List ℕ) → j ≡ i + length xs → sets (sets l j ys) i xs ≡ sets l i (xs ++ ys)
sets_join l i xs j ys e =
    sets_comm l i xs j ys (omega arith) ∙ ap (λ (n : ℕ). sets (sets l i xs) n ys) e ∙ sym (sets_append l i xs ys)

-- of two runs laid at the same place the later one is seen, and what the earlier one has behind it
pub sets_again : (l : List ℕ) (i : ℕ) (xs ys : List ℕ) → sets (sets l i xs) i ys ≡ sets l i (ys ++ drop (length ys) xs)
sets_again l i xs [] = refl
sets_again l i [] (y ∷ ys) = ap (λ (r : List ℕ). sets l i (y ∷ r)) (sym (append-nil ys))
sets_again l i (x ∷ xs) (y ∷ ys) =
    ap (λ (m : List ℕ). sets m (suc i) ys) (sym (sets_set (set l i x) i y (suc i) xs (omega arith)) ∙ ap (λ (m : List ℕ). sets m (suc i) xs) (set-set l i x y))
    ∙ sets_again (set l i y) (suc i) xs ys

-- a run over one that is no longer
pub sets_over : (l : List ℕ) (i : ℕ) (xs ys : List ℕ) → length xs ≤ length ys → sets (sets l i xs) i ys ≡ sets l i ys
sets_over l i xs ys h =
    sets_again l i xs ys ∙ ap (λ (r : List ℕ). sets l i (ys ++ r)) (drop_of_length-le xs h) ∙ ap (sets l i) (append-nil ys)

-- nothing is laid behind the end
pub sets_out : (l : List ℕ) (i : ℕ) (vs : List ℕ) → length l ≤ i → sets l i vs ≡ l
sets_out l i [] h = refl
sets_out l i (v ∷ vs) h = sets_out (set l i v) (suc i) vs (omega (arith, length-set l i v)) ∙ set_out l i v h

pub get_or_sets_before : (l : List ℕ) (i : ℕ) (vs : List ℕ) (j : ℕ) → j < i → get_or (sets l i vs) j 0 ≡ get_or l j 0
get_or_sets_before l i [] j h = refl
get_or_sets_before l i (v ∷ vs) j h = get_or_sets_before (set l i v) (suc i) vs j (omega arith) ∙ get_or-set_other l i j v 0 (omega arith)

pub get_or_sets_behind : (l : List ℕ) (i : ℕ) (vs : List ℕ) (j : ℕ) → i + length vs ≤ j → get_or (sets l i vs) j 0 ≡ get_or l j 0
get_or_sets_behind l i [] j h = refl
get_or_sets_behind l i (v ∷ vs) j h = get_or_sets_behind (set l i v) (suc i) vs j (omega arith) ∙ get_or-set_other l i j v 0 (omega arith)

pub get_or_sets_in : (l : List ℕ) (i : ℕ) (vs : List ℕ) (j : ℕ) → i + length vs ≤ length l → j < length vs → get_or (sets l i vs) (i + j) 0 ≡ get_or vs j 0
get_or_sets_in l i [] j h lt = absurd (omega arith)
get_or_sets_in l i (v ∷ vs) zero h lt = rw add-zero (get_or_sets_before (set l i v) (suc i) vs i (omega arith) ∙ get_or-set_same l i v 0 (omega arith))
get_or_sets_in l i (v ∷ vs) (suc j) h lt =
    let e : i + suc j ≡ suc i + j = omega arith in
    ap (λ (n : ℕ). get_or (sets (set l i v) (suc i) vs) n 0) e
    ∙ get_or_sets_in (set l i v) (suc i) vs j (omega (arith, length-set l i v)) (omega arith)

-- the part before a run
pub take_sets : (n : ℕ) (l : List ℕ) (i : ℕ) (vs : List ℕ) → n ≤ i → take n (sets l i vs) ≡ take n l
take_sets n l i [] h = refl
take_sets n l i (v ∷ vs) h = take_sets n (set l i v) (suc i) vs (omega arith) ∙ take-set-le n l i v h

-- the part behind a run
pub drop_sets : (n : ℕ) (l : List ℕ) (i : ℕ) (vs : List ℕ) → i + length vs ≤ n → drop n (sets l i vs) ≡ drop n l
drop_sets n l i [] h = refl
drop_sets n l i (v ∷ vs) h = drop_sets n (set l i v) (suc i) vs (omega arith) ∙ drop-set-lt n l i v (omega arith)

-- a run that lies in a part is laid over that part
pub drop_sets_add : (n : ℕ) (l : List ℕ) (i : ℕ) (vs : List ℕ) → drop n (sets l (n + i) vs) ≡ sets (drop n l) i vs
drop_sets_add n l i [] = refl
drop_sets_add n l i (v ∷ vs) =
    let e : suc (n + i) ≡ n + suc i = omega arith in
    ap (λ (k : ℕ). drop n (sets (set l (n + i) v) k vs)) e
    ∙ drop_sets_add n (set l (n + i) v) (suc i) vs
    ∙ ap (λ (m : List ℕ). sets m (suc i) vs) (drop-set-add n l i v)

-- a run at the front
pub sets_front : (l vs : List ℕ) → length vs ≤ length l → sets l 0 vs ≡ vs ++ drop (length vs) l
sets_front l vs h = sets-eq vs l 0 (omega arith) ∙ rw zero-add

-- a run for the whole of a list
pub sets_whole : (l vs : List ℕ) → length vs ≡ length l → sets l 0 vs ≡ vs
sets_whole l vs e =
    let h : length l ≤ length vs = omega arith in
    sets_front l vs (omega arith) ∙ ap (λ (r : List ℕ). vs ++ r) (drop_of_length-le l h) ∙ append-nil vs

-- what stands from the run's place on, and up to its end
pub drop_sets_at : (l : List ℕ) (i : ℕ) (vs : List ℕ) → i + length vs ≤ length l → drop i (sets l i vs) ≡ vs ++ drop (i + length vs) l
drop_sets_at l i vs h =
    ap (drop i) (sets-eq vs l i h ∙ append_assoc (take i l) vs (drop (i + length vs) l))
    ∙ drop_at (take i l) (vs ++ drop (i + length vs) l) i (length-take-le i l (omega arith))

pub take_sets_at : (l : List ℕ) (i : ℕ) (vs : List ℕ) → i + length vs ≤ length l → take (i + length vs) (sets l i vs) ≡ take i l ++ vs
take_sets_at l i vs h =
    ap (take (i + length vs)) (sets-eq vs l i h)
    ∙ take_at (take i l ++ vs) (drop (i + length vs) l) (i + length vs) (omega (arith, length-append (take i l) vs, length-take-le i l (omega arith)))

-- a part of a list, written whole
pub sets_part : (l : List ℕ) (i k : ℕ) (vs : List ℕ) → length vs ≡ k → i + k ≤ length l → put_mid i (i + k - i) l vs ≡ sets l i vs
sets_part l i k vs n h =
    let e : i + k - i ≡ length vs = omega arith in
    let q : i + length vs ≤ length l = omega arith in
    rw (e, sets-eq vs l i q, append_assoc, drop-drop)
