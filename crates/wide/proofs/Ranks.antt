-- Which size holds a number, over every size and both signs: a size holds it exactly where its reach is below 256 ^ size. Assumes nothing.
use mathlib.Core.Path.{◌≡◌, ◌∙◌, sym, ap, ap₂, refl, subst}
use mathlib.Core.Bool.{Bool, true, false, cond}
use mathlib.Core.List.{List, [], ◌∷◌}
use Prim.Native.Nat.{ℕ, zero, suc, ◌+◌, ◌-◌, ◌*◌, ◌%◌, ◌^◌, ◌≤◌, ◌<◌, min, zero-le, suc-le-suc}
use native.Mathlib.Nat.{mod-eq_of_lt, mul-sub, mul-add-mod_self_left, mul-one, pow-le-pow_right, zero-lt-suc, not-suc-le-zero, le_trans, le_of_suc-le-suc}
use native.Mathlib.Omega.{arith}
use lib.ListN.{length, get_or}
use lib.Dec.{leb, ltb, lit≤}
use lib.Pow.{pow-add}
use borrow.Author.Tests.{lt-ltb, le-ltb, le-leb, lt-leb, eq-eqb, ne_eqb, ltb-true}
use Rattle.wide.specs.Number.{number, bytes_of}
use Rattle.wide.specs.Words.{wide_end}
use Rattle.wide.specs.Body.{body_sizes, size_at, negative, extended, body_value, fits_in, first_of, rank}
use Rattle.wide.proofs.Numbers.{either, Bytes, length-bytes_of, bytes-bytes_of, number-bytes_of, number_lt, pow_step}
use Rattle.wide.proofs.Wides.{half, whole_half}
use Rattle.wide.proofs.Bodies.{pow_whole}

pub bool_case {ℓ} : {X : Type ℓ} (b : Bool) → (b ≡ true → X) → (b ≡ false → X) → X
bool_case true f g = f refl
bool_case false f g = g refl

-- a Bool is not both
pub apart {ℓ} : {X : Type ℓ} (b : Bool) → b ≡ true → b ≡ false → X
apart b p q = absurd (let z : ◌≡◌ {A = ℕ} 0 1 = cc in omega arith)

-- what has to be below 256 ^ k for a number below wide_end to fit k bytes: of a signed one twice the number, or twice its complement
abbrev pub reach : Bool → ℕ → ℕ
reach true n = min (2 * n) (2 * (wide_end - 1 - n))
reach false n = n

pub reach_lt : (signed : Bool) (n : ℕ) → n < wide_end → reach signed n < wide_end
reach_lt false n h = h
reach_lt true n h = omega (arith, whole_half)

-- ---- a body of k bytes

-- wide_end is a multiple of 256 ^ k
cofactor : (k : ℕ) → k ≤ 16 → wide_end ≡ 256 ^ k * 256 ^ (16 - k)
unfolding wide_end
cofactor k h = let e : 16 ≡ k + (16 - k) = omega arith in ap (λ (x : ℕ). 256 ^ x) e ∙ pow-add 256 k (16 - k)

-- what lies wide_end - p above a number below p has that number for its rest
high_rest : (k y : ℕ) → k ≤ 16 → y < 256 ^ k → (y + (wide_end - 256 ^ k)) % 256 ^ k ≡ y
high_rest k y h l =
    let p : ℕ = 256 ^ k in
    let c : ℕ = 256 ^ (16 - k) in
    let q : p * (c - 1) ≡ p * c - p * 1 = mul-sub p c 1 in
    let e : y + (wide_end - p) ≡ p * (c - 1) + y = omega (arith, cofactor k h, mul-one p) in
    ap (λ (x : ℕ). x % p) e ∙ mul-add-mod_self_left p (c - 1) y ∙ mod-eq_of_lt l

extended_yes : (k x : ℕ) (b : Bool) → b ≡ true → extended b k x ≡ x + (wide_end - 256 ^ k)
extended_yes k x b e = ap (λ (t : Bool). extended t k x) e

extended_no : (k x : ℕ) (b : Bool) → b ≡ false → extended b k x ≡ x
extended_no k x b e = ap (λ (t : Bool). extended t k x) e

even : (k : ℕ) → 1 ≤ k → 256 ^ k ≡ 256 * 256 ^ (k - 1)
even k h = let e : k ≡ suc (k - 1) = omega arith in ap (λ (x : ℕ). 256 ^ x) e ∙ pow_step (k - 1)

back : (signed : Bool) (k n : ℕ) → 1 ≤ k → k ≤ 16 → n < wide_end → reach signed n < 256 ^ k → extended (negative signed k (n % 256 ^ k)) k (n % 256 ^ k) ≡ n
back false k n o h l f = mod-eq_of_lt f
back true k n o h l f =
    let p : ℕ = 256 ^ k in
    either p (2 * n)
    (λ b.
    let y : ℕ = n - (wide_end - p) in
    let pw : p ≤ wide_end = pow_whole k h in
    let yp : y < p = omega arith in
    let e : n ≡ y + (wide_end - p) = omega arith in
    let r : n % p ≡ y = ap (λ (x : ℕ). x % p) e ∙ high_rest k y h yp in
    let q : p ≡ 256 * 256 ^ (k - 1) = even k o in
    let t : p ≤ 2 * y = omega arith in
    ap (λ (x : ℕ). extended (leb p (2 * x)) k x) r ∙ extended_yes k y (leb p (2 * y)) (le-leb p (2 * y) t) ∙ sym e)
    (λ b.
    let r : n % p ≡ n = mod-eq_of_lt (omega arith) in
    ap (λ (x : ℕ). extended (leb p (2 * x)) k x) r ∙ extended_no k n (leb p (2 * n)) (lt-leb p (2 * n) b))

-- a size that the reach allows reads the number back
pub reads_back : (signed : Bool) (k n : ℕ) → 1 ≤ k → k ≤ 16 → n < wide_end → reach signed n < 256 ^ k → body_value signed (bytes_of k n) ≡ n
unfolding body_value
reads_back signed k n o h l f =
    ap₂ (λ (i x : ℕ). extended (negative signed i x) i x) (length-bytes_of k n) (number-bytes_of k n) ∙ back signed k n o h l f

-- what k bytes are read as is below wide_end, and its reach allows k bytes
pub record Kept (signed : Bool) (k v : ℕ) : Type 0 where
  pub small : v < wide_end
  pub near : reach signed v < 256 ^ k

keeps : (signed : Bool) (k m : ℕ) → k ≤ 16 → m < 256 ^ k → Kept signed k (extended (negative signed k m) k m)
keeps false k m h l = let pw : 256 ^ k ≤ wide_end = pow_whole k h in record { small = omega arith; near = l }
keeps true k m h l =
    let p : ℕ = 256 ^ k in
    let pw : p ≤ wide_end = pow_whole k h in
    either p (2 * m)
    (λ b. subst (Kept true k) (sym (extended_yes k m (leb p (2 * m)) (le-leb p (2 * m) b))) (record { small = omega arith; near = omega arith }))
    (λ b. subst (Kept true k) (sym (extended_no k m (leb p (2 * m)) (lt-leb p (2 * m) b))) (record { small = omega arith; near = omega arith }))

pub body_held : (signed : Bool) (bs : List ℕ) → Bytes bs → length bs ≤ 16 → Kept signed (length bs) (body_value signed bs)
unfolding body_value
body_held signed bs h l = keeps signed (length bs) (number bs) l (number_lt bs h)

-- what fits which size
pub fits_reach : (signed : Bool) (n k : ℕ) → 1 ≤ k → k ≤ 16 → n < wide_end → fits_in signed n k ≡ ltb (reach signed n) (256 ^ k)
unfolding fits_in
fits_reach signed n k o h l =
    let l' : length (bytes_of k n) ≡ k = length-bytes_of k n in
    either (256 ^ k) (reach signed n)
    (λ b. ne_eqb (body_value signed (bytes_of k n)) n (λ e.
    let f : Kept signed (length (bytes_of k n)) (body_value signed (bytes_of k n)) = body_held signed (bytes_of k n) (bytes-bytes_of k n) (omega arith) in
    let g : reach signed n < 256 ^ k = subst (λ (v : ℕ). reach signed v < 256 ^ k) e (subst (λ (x : ℕ). reach signed (body_value signed (bytes_of k n)) < 256 ^ x) l' f.near) in
    omega arith)
    ∙ sym (le-ltb (reach signed n) (256 ^ k) b))
    (λ b. eq-eqb (body_value signed (bytes_of k n)) n (reads_back signed k n o h l b) ∙ sym (lt-ltb (reach signed n) (256 ^ k) b))

-- ---- the first of a list that passes a test

first_at : (p : ℕ → Bool) (ks : List ℕ) (j : ℕ) → j < length ks → ((i : ℕ) → i < j → p (get_or ks i 0) ≡ false) → p (get_or ks j 0) ≡ true → first_of p ks ≡ j
first_at p [] j l h g = absurd (not-suc-le-zero l)
first_at p (k ∷ ks) zero l h g = ap (λ (b : Bool). cond b 0 (suc (first_of p ks))) g
first_at p (k ∷ ks) (suc j) l h g =
    ap (λ (b : Bool). cond b 0 (suc (first_of p ks))) (h 0 (suc-le-suc zero-le))
    ∙ ap suc (first_at p ks j (le_of_suc-le-suc l) (λ i b. h (suc i) (suc-le-suc b)) g)

-- it stands no later than any that passes, and passes itself
first_least : (p : ℕ → Bool) (ks : List ℕ) (j : ℕ) → j < length ks → p (get_or ks j 0) ≡ true → first_of p ks ≤ j
first_least p [] j l g = absurd (not-suc-le-zero l)
first_least p (k ∷ ks) zero l g = subst (λ (x : ℕ). x ≤ 0) (sym (ap (λ (b : Bool). cond b 0 (suc (first_of p ks))) g)) zero-le
first_least p (k ∷ ks) (suc j) l g =
    bool_case (p k)
    (λ e. subst (λ (x : ℕ). x ≤ suc j) (sym (ap (λ (b : Bool). cond b 0 (suc (first_of p ks))) e)) zero-le)
    (λ e. subst (λ (x : ℕ). x ≤ suc j) (sym (ap (λ (b : Bool). cond b 0 (suc (first_of p ks))) e)) (suc-le-suc (first_least p ks j (le_of_suc-le-suc l) g)))

first_passes : (p : ℕ → Bool) (ks : List ℕ) → first_of p ks < length ks → p (get_or ks (first_of p ks) 0) ≡ true
first_passes p [] l = absurd (not-suc-le-zero l)
first_passes p (k ∷ ks) l =
    bool_case (p k)
    (λ e. subst (λ (x : ℕ). p (get_or (k ∷ ks) x 0) ≡ true) (sym (ap (λ (b : Bool). cond b 0 (suc (first_of p ks))) e)) e)
    (λ e.
    let q : first_of p (k ∷ ks) ≡ suc (first_of p ks) = ap (λ (b : Bool). cond b 0 (suc (first_of p ks))) e in
    subst (λ (x : ℕ). p (get_or (k ∷ ks) x 0) ≡ true) (sym q) (first_passes p ks (le_of_suc-le-suc (subst (λ (x : ℕ). x < length (k ∷ ks)) q l))))

-- ---- the eight sizes

-- the sizes rise
size_up : (j : ℕ) → suc j < 8 → size_at j ≤ size_at (suc j)
size_up zero h = lit≤ tt
size_up (suc zero) h = lit≤ tt
size_up (suc (suc zero)) h = lit≤ tt
size_up (suc (suc (suc zero))) h = lit≤ tt
size_up (suc (suc (suc (suc zero)))) h = lit≤ tt
size_up (suc (suc (suc (suc (suc zero))))) h = lit≤ tt
size_up (suc (suc (suc (suc (suc (suc zero)))))) h = lit≤ tt
size_up (suc (suc (suc (suc (suc (suc (suc j))))))) h = omega arith

pub size_mono : (i j : ℕ) → j < 8 → i ≤ j → size_at i ≤ size_at j
size_mono i zero h l = let e : 0 ≡ i = omega arith in subst (λ (x : ℕ). size_at x ≤ 1) e (lit≤ tt)
size_mono i (suc j) h l =
    either i j
    (λ b. le_trans (size_mono i j (omega arith) b) (size_up j h))
    (λ b. let e : suc j ≡ i = omega arith in subst (λ (x : ℕ). size_at x ≤ size_at (suc j)) e (omega arith))

pub size_low : (j : ℕ) → j < 8 → 1 ≤ size_at j
size_low j h = size_mono 0 j h zero-le

pub size_high : (j : ℕ) → j < 8 → size_at j ≤ 16
size_high j h = size_mono j 7 (omega arith) (omega arith)

-- a size by its place
pub fits_at : (signed : Bool) (n j : ℕ) → j < 8 → n < wide_end → fits_in signed n (size_at j) ≡ ltb (reach signed n) (256 ^ size_at j)
fits_at signed n j l h = fits_reach signed n (size_at j) (size_low j l) (size_high j l) h

-- the largest size holds every number
last_fits : (signed : Bool) (n : ℕ) → n < wide_end → fits_in signed n (size_at 7) ≡ true
unfolding wide_end
last_fits signed n h = fits_at signed n 7 (lit≤ tt) h ∙ lt-ltb (reach signed n) (256 ^ 16) (reach_lt signed n h)

module _ (signed : Bool) (n : ℕ) (small : n < wide_end) where
  pub rank_lt : rank signed n < 8
  unfolding rank
  rank_lt = suc-le-suc (first_least (fits_in signed n) body_sizes 7 (lit≤ tt) (last_fits signed n small))

  pub rank_least : (j : ℕ) → j < 8 → reach signed n < 256 ^ size_at j → rank signed n ≤ j
  unfolding rank
  rank_least j l h = first_least (fits_in signed n) body_sizes j l (fits_at signed n j l small ∙ lt-ltb (reach signed n) (256 ^ size_at j) h)

  pub rank_holds : reach signed n < 256 ^ size_at (rank signed n)
  unfolding rank
  rank_holds = ltb-true (reach signed n) _ (sym (fits_at signed n (rank signed n) rank_lt small) ∙ first_passes (fits_in signed n) body_sizes rank_lt)

  -- what the shortest body reads as
  pub rank-reads : body_value signed (bytes_of (size_at (rank signed n)) n) ≡ n
  rank-reads = reads_back signed (size_at (rank signed n)) n (size_low (rank signed n) rank_lt) (size_high (rank signed n) rank_lt) small rank_holds

  -- the rank from the size below it, which is too short, and its own
  pub rank_zero : reach signed n < 256 → rank signed n ≡ 0
  unfolding rank
  rank_zero h =
      first_at (fits_in signed n) body_sizes 0 (suc-le-suc zero-le) (λ i b. absurd (not-suc-le-zero b))
      (fits_at signed n 0 (suc-le-suc zero-le) small ∙ lt-ltb (reach signed n) (256 ^ 1) h)

  pub rank_at : (j : ℕ) → suc j < 8 → 256 ^ size_at j ≤ reach signed n → reach signed n < 256 ^ size_at (suc j) → rank signed n ≡ suc j
  unfolding rank
  rank_at j l h g =
      first_at (fits_in signed n) body_sizes (suc j) l
      (λ i b. fits_at signed n i (omega arith) small ∙ le-ltb (reach signed n) (256 ^ size_at i) (le_trans (pow-le-pow_right (zero-lt-suc 255) (size_mono i j (omega arith) (omega arith))) h))
      (fits_at signed n (suc j) l small ∙ lt-ltb (reach signed n) (256 ^ size_at (suc j)) g)

-- ---- the rank of a signed number is that of its reach

pub reach_small : (n : ℕ) → n < half → 2 * n ≡ reach true n
reach_small n h = omega (arith, whole_half)

pub reach_big : (n : ℕ) → half ≤ n → n < wide_end → 2 * (wide_end - 1 - n) ≡ reach true n
reach_big n h k = omega (arith, whole_half)

pub rank_reach : (signed : Bool) (n : ℕ) → n < wide_end → rank false (reach signed n) ≡ rank signed n
unfolding rank
rank_reach signed n h =
    first_at (fits_in false (reach signed n)) body_sizes (rank signed n) (rank_lt signed n h)
    (λ i b. fits_at false (reach signed n) i (omega (arith, rank_lt signed n h)) (reach_lt signed n h)
    ∙ bool_case (ltb (reach signed n) (256 ^ size_at i))
    (λ e. absurd (below i b (ltb-true (reach signed n) (256 ^ size_at i) e)))
    (λ e. e))
    (fits_at false (reach signed n) (rank signed n) (rank_lt signed n h) (reach_lt signed n h) ∙ lt-ltb (reach signed n) _ (rank_holds signed n h))
  where
    below : (i : ℕ) → i < rank signed n → reach signed n < 256 ^ size_at i → ⊥
    below i b l = let m : rank signed n ≤ i = rank_least signed n h i (omega (arith, rank_lt signed n h)) l in omega arith
