-- The rank of four words, from the first of the code's tests that holds. Assumes nothing.
use mathlib.Core.Path.{◌≡◌, ◌∙◌, sym, ap}
use mathlib.Core.Bool.{Bool, true, false, cond}
use Prim.Native.Nat.{ℕ, suc, ◌+◌, ◌-◌, ◌*◌, ◌^◌, ◌≤◌, ◌<◌}
use native.Mathlib.Omega.{arith}
use lib.Dec.{leb, ltb, lit≤}
use borrow.Author.Tests.{lt-ltb, le-ltb, le-leb, lt-leb}
use Rattle.wide.specs.declared.wide.Wide.{Wide}
use Rattle.wide.specs.Words.{wide_end, value_of, wide_of}
use Rattle.wide.specs.Body.{size_at, rank}
use Rattle.wide.proofs.Numbers.{either}
use Rattle.wide.proofs.Wides.{Words, carry_lt, value_lt, value_wide}
use Rattle.wide.proofs.Bodies.{pow_whole}
use Rattle.wide.proofs.Steps.{carry_le, top_small, top_big}
use Rattle.wide.proofs.Ranks.{reach, reach_lt, reach_small, reach_big, rank_zero, rank_at, rank_reach}

bare : (w m : ℕ) → m ≡ 0 → w + 2 ^ 32 * m ≡ w
bare w m h = omega arith

turned_lt : (n m : ℕ) → n < m → m - 1 - n < m
turned_lt n m l = omega arith

-- ---- the rank of 64 bits is how many sizes are too short

abbrev over : ℕ → ℕ → ℕ
over limit n = cond (leb limit n) 1 0

pub over_yes : (l n : ℕ) → l ≤ n → ◌≡◌ {A = ℕ} 1 (over l n)
over_yes l n h = sym (ap (λ (b : Bool). cond b 1 0) (le-leb l n h))

pub over_no : (l n : ℕ) → n < l → ◌≡◌ {A = ℕ} 0 (over l n)
over_no l n h = sym (ap (λ (b : Bool). cond b 1 0) (lt-leb l n h))

rank_counts : (n : ℕ) → n < 2 ^ 64 → over 256 n + over 65536 n + over 16777216 n + over 4294967296 n + over 281474976710656 n ≡ rank false n
rank_counts n f =
    either 256 n (λ a. either 65536 n (λ b. either 16777216 n (λ c. either 4294967296 n (λ d. either 281474976710656 n
    (λ e. sum (over_yes _ n a) (over_yes _ n b) (over_yes _ n c) (over_yes _ n d) (over_yes _ n e) ∙ at 4 (omega arith) e f)
    (λ e. sum (over_yes _ n a) (over_yes _ n b) (over_yes _ n c) (over_yes _ n d) (over_no _ n e) ∙ at 3 (omega arith) d e))
    (λ d. sum (over_yes _ n a) (over_yes _ n b) (over_yes _ n c) (over_no _ n d) (over_no _ n (omega arith)) ∙ at 2 (omega arith) c d))
    (λ c. sum (over_yes _ n a) (over_yes _ n b) (over_no _ n c) (over_no _ n (omega arith)) (over_no _ n (omega arith)) ∙ at 1 (omega arith) b c))
    (λ b. sum (over_yes _ n a) (over_no _ n b) (over_no _ n (omega arith)) (over_no _ n (omega arith)) (over_no _ n (omega arith)) ∙ at 0 (omega arith) a b))
    (λ a. sum (over_no _ n a) (over_no _ n (omega arith)) (over_no _ n (omega arith)) (over_no _ n (omega arith)) (over_no _ n (omega arith)) ∙ sym (rank_zero false n small a))
  where
    small : n < wide_end
    small = omega (arith, pow_whole 8 (lit≤ tt))

    at : (j : ℕ) → suc j < 8 → 256 ^ size_at j ≤ n → n < 256 ^ size_at (suc j) → suc j ≡ rank false n
    at j l h g = sym (rank_at false n small j l h g)

    sum : {a b c d e a₁ b₁ c₁ d₁ e₁ : ℕ} → a₁ ≡ a → b₁ ≡ b → c₁ ≡ c → d₁ ≡ d → e₁ ≡ e → a + b + c + d + e ≡ a₁ + b₁ + c₁ + d₁ + e₁
    sum p q r s t = omega arith

pub rank_counted : (n a b c d e : ℕ) → n < 2 ^ 64 → a ≡ over 256 n → b ≡ over 65536 n → c ≡ over 16777216 n → d ≡ over 4294967296 n
    → e ≡ over 281474976710656 n → a + b + c + d + e ≡ rank false n
rank_counted n a b c d e f ea eb ec ed ee = rw (ea, eb, ec, ed, ee) (rank_counts n f)

module _ (w : Wide) (h : Words w) where
  abbrev v3 : ℕ
  v3 = w.w3

  abbrev v2 : ℕ
  v2 = w.w2 + 2 ^ 32 * v3

  abbrev v1 : ℕ
  v1 = w.w1 + 2 ^ 32 * v2

  at_seven : (w.w3 ≡ 0 → ⊥) → 7 ≡ rank false (value_of w)
  unfolding wide_end
  at_seven a =
      sym (rank_at false (value_of w) (value_lt w h) 6 (omega arith)
      (carry_le w.w0 v1 (2 ^ 64) (carry_le w.w1 v2 (2 ^ 32) (carry_le w.w2 v3 1 (omega arith)))) (value_lt w h))

  at_six : w.w3 ≡ 0 → (w.w2 ≡ 0 → ⊥) → 6 ≡ rank false (value_of w)
  at_six a b =
      sym (rank_at false (value_of w) (value_lt w h) 5 (omega arith)
      (carry_le w.w0 v1 (2 ^ 32) (carry_le w.w1 v2 1 (omega arith)))
      (carry_lt w.w0 v1 (2 ^ 64) h.f0 (carry_lt w.w1 v2 (2 ^ 32) h.f1 (omega arith))))

  pub at_top : (r : ℕ) → r ≡ over 1 w.w3 → (w.w3 ≡ 0 → w.w2 ≡ 0 → ⊥) → 6 + r ≡ rank false (value_of w)
  at_top r e n =
      either 1 w.w3
      (λ a. let k : 6 + r ≡ 7 = omega (arith, e, over_yes 1 w.w3 a) in k ∙ at_seven (λ z. omega arith))
      (λ a. let z : w.w3 ≡ 0 = omega arith in let k : 6 + r ≡ 6 = omega (arith, e, over_no 1 w.w3 a) in k ∙ at_six z (n z))

  -- with nothing above the two low words
  pub at_low : w.w3 ≡ 0 → w.w2 ≡ 0 → (r : ℕ) → r ≡ rank false (w.w0 + 4294967296 * w.w1) → r ≡ rank false (value_of w)
  at_low a b r e =
      let z : v2 ≡ 0 = omega arith in
      e ∙ ap (λ (x : ℕ). rank false (w.w0 + 2 ^ 32 * x)) (sym (bare w.w1 v2 z))

  -- ---- the rank of either sign

  doubled_rank : (r : Wide) (j x : ℕ) → 2 * x ≡ reach true (value_of w) → r ≡ wide_of (2 * x) → j ≡ rank false (value_of r) → j ≡ rank true (value_of w)
  doubled_rank r j x t e g =
      let n : ℕ = value_of w in
      let l : n < wide_end = value_lt w h in
      let v : value_of r ≡ reach true n = ap value_of (e ∙ ap wide_of t) ∙ value_wide (reach true n) (reach_lt true n l) in
      g ∙ ap (rank false) v ∙ rank_reach true n l

  rank_positive : (r : Wide) (j : ℕ) → w.w3 < 2147483648 → r ≡ wide_of (2 * value_of w) → j ≡ rank false (value_of r) → j ≡ rank true (value_of w)
  rank_positive r j t e g = doubled_rank r j (value_of w) (reach_small (value_of w) (top_small w h t)) e g

  rank-negative : (v r : Wide) (j : ℕ) → 2147483648 ≤ w.w3 → v ≡ wide_of (wide_end - 1 - value_of w) → r ≡ wide_of (2 * value_of v)
      → j ≡ rank false (value_of r) → j ≡ rank true (value_of w)
  rank-negative v r j t d e g =
      let n : ℕ = value_of w in
      let l : n < wide_end = value_lt w h in
      let less : wide_end - 1 - n < wide_end = turned_lt n wide_end l in
      doubled_rank r j (wide_end - 1 - n) (reach_big n (top_big w t) l)
      (e ∙ ap (λ (x : Wide). wide_of (2 * value_of x)) d ∙ ap (λ (x : ℕ). wide_of (2 * x)) (value_wide (wide_end - 1 - n) less)) g

  -- of the number itself, or of its complement
  pub rank_folded : (v r : Wide) (j : ℕ) → v ≡ cond (ltb w.w3 2147483648) w (wide_of (wide_end - 1 - value_of w)) → r ≡ wide_of (2 * value_of v)
      → j ≡ rank false (value_of r) → j ≡ rank true (value_of w)
  rank_folded v r j d e g =
      either 2147483648 w.w3
      (λ t. rank-negative v r j t (d ∙ ap (λ (b : Bool). cond b w (wide_of (wide_end - 1 - value_of w))) (le-ltb w.w3 2147483648 t)) e g)
      (λ t.
      let k : v ≡ w = d ∙ ap (λ (b : Bool). cond b w (wide_of (wide_end - 1 - value_of w))) (lt-ltb w.w3 2147483648 t) in
      rank_positive r j t (e ∙ ap (λ (x : Wide). wide_of (2 * value_of x)) k) g)
