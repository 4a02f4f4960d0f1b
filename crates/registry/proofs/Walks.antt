-- Laws of the registry in the table: the rows that the ends link, and what is laid behind them leaves them. Assumes nothing.
use mathlib.Core.Path.{◌≡◌, refl, sym, ap, ap₂, ◌∙◌}
use mathlib.Core.Bool.{Bool, true, false, cond}
use Prim.Native.Nat.{ℕ, zero, suc, ◌+◌, ◌-◌, ◌*◌, ◌≤◌, ◌<◌}
use native.Mathlib.Numerals.{add-one}
use native.Mathlib.Omega.{arith}
use native.Mathlib.Decide.{dec_lt}
use mathlib.Core.List.{List, [], ◌∷◌, ◌++◌}
use lib.ListN.{length, get_or, take, length-append, get_or-append}
use lib.Dec.{eqb}
use borrow.Author.Tests.{eq-eqb, eqb-true}
use lib.Seq.{sets, get_or_at, take_all}
use Rattle.rows.specs.declared.row.Row.{Row}
use Rattle.rows.specs.Table.{words_per_row, row_at, lent}
use Rattle.rows.proofs.Rows.{row_sets_behind}
use Rattle.registry.specs.Inner.{walk, chain, Below, first_in, Based, base_of}

-- ---- a step of a walk

pub walk_start : (table : List ℕ) (first : ℕ) → first ≡ walk table first 0
unfolding walk
walk_start table first = refl

pub walk-next : (table : List ℕ) (first i at e r : ℕ) → at ≡ walk table first i → e ≡ (row_at table at).end → r ≡ e → r ≡ walk table first (i + 1)
unfolding walk
walk-next table first i at e r p q s = s ∙ q ∙ ap (λ (w : ℕ). (row_at table w).end) p ∙ sym (ap (walk table first) (add-one i))

pub walk-lent : (table : List ℕ) (first n row i at : ℕ) → Below table first n row → row ≤ lent table → at ≡ walk table first i → i < n → at < lent table
unfolding Below
walk-lent table first n row i at b h p lt = omega (arith, b i lt)

-- fewer of them, and a row further back
pub below_fewer : (table : List ℕ) (first n m row next : ℕ) → Below table first n row → m ≤ n → row ≤ next → Below table first m next
unfolding Below
below_fewer table first n m row next b h k i lt = omega (arith, b i (omega arith))

pub below_none : (table : List ℕ) (first row : ℕ) → Below table first 0 row
unfolding Below
below_none table first row i lt = absurd (omega arith)

pub length-chain : (table : List ℕ) (first n : ℕ) → length (chain table first n) ≡ n
unfolding chain
length-chain table first zero = refl
length-chain table first (suc n) =
    let h = length-chain table first n in
    length-append (chain table first n) (walk table first n ∷ []) ∙ omega arith

take-front : (n : ℕ) (xs ys : List ℕ) → n ≤ length xs → take n (xs ++ ys) ≡ take n xs
take-front zero xs ys h = refl
take-front (suc n) [] ys h = absurd (omega arith)
take-front (suc n) (x ∷ xs) ys h = ap (λ (l : List ℕ). x ∷ l) (take-front n xs ys (omega arith))

-- the first m of them are so many of the list
pub chain_fewer : (table : List ℕ) (first n m : ℕ) → m ≤ n → take m (chain table first n) ≡ chain table first m
unfolding chain
chain_fewer table first zero m h = let z : m ≡ 0 = omega arith in rw z
chain_fewer table first (suc n) m h = go (chain_fewer table first n m) (dec_lt n m)
  where
    go : (m ≤ n → take m (chain table first n) ≡ chain table first m) → Dec (n < m) → take m (chain table first n ++ (walk table first n ∷ [])) ≡ chain table first m
    go again (yes lt) =
        let e : m ≡ suc n = omega arith in
        rw e (take_all (suc n) (chain table first (suc n)) (omega (arith, length-chain table first (suc n))))
    go again (no ge) = take-front m (chain table first n) (walk table first n ∷ []) (omega (arith, length-chain table first n)) ∙ again (omega arith)

-- the list has at n the row that n ends lead to
pub chain_at : (table : List ℕ) (first k n : ℕ) → n < k → get_or (chain table first k) n 0 ≡ walk table first n
unfolding chain
chain_at table first zero n h = absurd (omega arith)
chain_at table first (suc k) n h = go (chain_at table first k n) (dec_lt n k)
  where
    go : (n < k → get_or (chain table first k) n 0 ≡ walk table first n) → Dec (n < k) → get_or (chain table first k ++ (walk table first k ∷ [])) n 0 ≡ walk table first n
    go again (yes lt) =
        get_or-append (chain table first k) (walk table first k ∷ []) 0 n (omega (arith, length-chain table first k)) ∙ again lt
    go again (no ge) =
        let e : k ≡ n = omega arith in
        get_or_at (chain table first k) (walk table first k) [] 0 n (length-chain table first k ∙ e) ∙ ap (walk table first) e

-- ---- one entry more

-- the ends of k entries lead to `row`
module _ (table : List ℕ) (first k row : ℕ) (linked : walk table first k ≡ row) where
  pub chain-grown : chain table first (k + 1) ≡ chain table first k ++ (row ∷ [])
  unfolding chain
  chain-grown = ap (chain table first) (add-one k) ∙ ap (λ (w : ℕ). chain table first k ++ (w ∷ [])) linked

  pub walk-grown : (next : ℕ) → (row_at table row).end ≡ next → walk table first (k + 1) ≡ next
  unfolding walk
  walk-grown next end = ap (walk table first) (add-one k) ∙ ap (λ (w : ℕ). (row_at table w).end) linked ∙ end

  pub below-grown : (next : ℕ) → Below table first k row → row < next → Below table first (k + 1) next
  unfolding Below
  below-grown next below h i lt = go (dec_lt i k)
    where
      go : Dec (i < k) → walk table first i < next
      go (yes before) = omega (arith, below i before)
      go (no last) =
          let e : i ≡ k = omega arith in
          omega (arith, ap (walk table first) e, linked)

-- ---- words laid from `row` on leave the ends of the rows before it

module _ (table : List ℕ) (row : ℕ) (words : List ℕ) (first k : ℕ) (below : Below table first k row) where
  pub walk_sets : (i : ℕ) → i ≤ k → walk (sets table (words_per_row * row) words) first i ≡ walk table first i
  unfolding walk Below
  walk_sets zero h = refl
  walk_sets (suc i) h =
      ap (λ (w : ℕ). (row_at (sets table (words_per_row * row) words) w).end) (walk_sets i (omega arith))
      ∙ ap (λ (r : Row). r.end) (row_sets_behind table (walk table first i) (words_per_row * row) words (omega (arith, below i (omega arith))))

  pub chain_sets : (i : ℕ) → i ≤ k → chain (sets table (words_per_row * row) words) first i ≡ chain table first i
  unfolding chain
  chain_sets zero h = refl
  chain_sets (suc i) h =
      ap₂ (λ (l : List ℕ) (w : ℕ). l ++ (w ∷ [])) (chain_sets i (omega arith)) (walk_sets i (omega arith))

  pub below_sets : (next : ℕ) → row ≤ next → Below (sets table (words_per_row * row) words) first k next
  unfolding Below
  below_sets next h i lt = omega (arith, walk_sets i (omega arith), below i lt)

-- ---- bases

-- a base that is walked from
pub based-walk : (table : List ℕ) (base n r : ℕ) → base < 4294967296 → r ≡ walk table base n → r ≡ walk table (first_in base) n
based-walk table base n r h e = let q : first_in base ≡ base = omega arith in rw q e

pub based-below : (table : List ℕ) (base n row : ℕ) → base < 4294967296 → Below table (first_in base) n row → Below table base n row
based-below table base n row h b = let q : first_in base ≡ base = omega arith in rw q at b

-- one that is not
pub based-even : (table : List ℕ) (base n : ℕ) → 4294967296 ≤ base → Based table base (n + 1) → base - 4294967296 + n ≡ walk table (first_in base) n
based-even table base n h b = let q : first_in base ≡ base - 4294967296 = omega (arith, b.small) in sym (b.even h n (omega arith) ∙ ap (λ (x : ℕ). x + n) q)

-- fewer entries
pub based_fewer : (table : List ℕ) (base n m : ℕ) → Based table base n → m ≤ n → Based table base m
based_fewer table base n m b h = record { small = b.small; even = λ e i l. b.even e i (omega arith) }

-- a row that is walked from is its own base
pub based-plain : (table : List ℕ) (first n : ℕ) → first < 4294967296 → Based table first n
based-plain table first n h = record { small = omega arith; even = λ e. absurd (let z : ⊥ = omega arith in z) }

pub first_plain : (first : ℕ) → first < 4294967296 → first_in first ≡ first
first_plain first h = omega arith

-- words laid behind the entries leave it
pub based_sets : (table : List ℕ) (row : ℕ) (words : List ℕ) (base n : ℕ) → Below table (first_in base) n row → Based table base n → Based (sets table (words_per_row * row) words) base n
based_sets table row words base n below b =
    record { small = b.small; even = λ e i l. walk_sets table row words (first_in base) n below i (omega arith) ∙ b.even e i l }

-- the base of entries that stand from `first` to `end`
pub base_even : (first end count : ℕ) → end - first ≡ count → first + 4294967296 ≡ base_of first end count
base_even first end count e = sym (ap (λ (b : Bool). cond b (first + 4294967296) first) (eq-eqb (end - first) count e))

pub first_base : (first end count : ℕ) → first < 4294967296 → first_in (base_of first end count) ≡ first
first_base first end count h = of (eqb (end - first) count)
  where
    of : (b : Bool) → first_in (cond b (first + 4294967296) first) ≡ first
    of true = omega arith
    of false = omega arith

pub based_of : (table : List ℕ) (first end count : ℕ) → first < 4294967296 → (end - first ≡ count → (i : ℕ) → i < count → walk table first i ≡ first + i) → Based table (base_of first end count) count
based_of table first end count h f = of (eqb (end - first) count) refl
  where
    of : (b : Bool) → eqb (end - first) count ≡ b → Based table (cond b (first + 4294967296) first) count
    of true e =
        let q : first_in (first + 4294967296) ≡ first = omega arith in
        record { small = omega arith; even = rw q (λ z. f (eqb-true (end - first) count e)) }
    of false e = based-plain table first count h

-- where entries stand one behind the other in the list of their rows, they do in the table
pub based-rows : (table : List ℕ) (first end count : ℕ) (rows : List ℕ) → first < 4294967296 → chain table first count ≡ rows
    → (end - first ≡ count → (i : ℕ) → i < count → get_or rows i 0 ≡ first + i) → Based table (base_of first end count) count
based-rows table first end count rows h e f =
    based_of table first end count h (λ q i l. sym (chain_at table first count i l) ∙ ap (λ (r : List ℕ). get_or r i 0) e ∙ f q i l)

-- ---- entry n of those in force

pub entry-below : (table : List ℕ) (first k n row : ℕ) → Below table first k row → n < k → Below table first n row
entry-below table first k n row b l = below_fewer table first k n row row b (omega arith) (omega arith)

pub entry-based : (table : List ℕ) (base k n : ℕ) → Based table base k → n < k → Based table base (n + 1)
entry-based table base k n b l = based_fewer table base k (n + 1) b (omega arith)
