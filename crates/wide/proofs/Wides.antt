-- Four words are the words of their number, and a number below wide_end is the number of its words. Assumes nothing.
use mathlib.Core.Path.{◌≡◌, ◌∙◌, sym, ap, subst, refl}
use Prim.Native.Nat.{ℕ, ◌+◌, ◌*◌, ◌/◌, ◌%◌, ◌^◌, ◌<◌}
use native.Mathlib.Nat.{mul_assoc}
use native.Mathlib.Omega.{arith}
use lib.Dec.{lit<}
use Rattle.wide.specs.declared.wide.Wide.{Wide}
use Rattle.wide.specs.Words.{wide_end, words, value_of, wide_of}

-- half of wide_end: the first number that is negative
unfoldable pub half : ℕ
half = 2 ^ 127

-- each word is one
pub record Words (w : Wide) : Type 0 where
  pub f0 : w.w0 < 2 ^ 32
  pub f1 : w.w1 < 2 ^ 32
  pub f2 : w.w2 < 2 ^ 32
  pub f3 : w.w3 < 2 ^ 32

words_path : (a b c d a' b' c' d' : ℕ) → a ≡ a' → b ≡ b' → c ≡ c' → d ≡ d' → words a b c d ≡ words a' b' c' d'
words_path a b c d a' b' c' d' p q r s = cc

-- the words of a number, a word off at a time
pub wide_digits : (n m1 m2 m3 : ℕ) {a b c d : ℕ} → n % 2 ^ 32 ≡ a → n / 2 ^ 32 ≡ m1 → m1 % 2 ^ 32 ≡ b → m1 / 2 ^ 32 ≡ m2
    → m2 % 2 ^ 32 ≡ c → m2 / 2 ^ 32 ≡ m3 → m3 % 2 ^ 32 ≡ d → wide_of n ≡ words a b c d
unfolding wide_of
wide_digits n m1 m2 m3 {a} {b} {c} {d} a≡ e1 b≡ e2 c≡ e3 d≡ =
    let f2 : n / 2 ^ 32 / 2 ^ 32 ≡ m2 = ap (λ (x : ℕ). x / 2 ^ 32) e1 ∙ e2 in
    let f3 : n / 2 ^ 32 / 2 ^ 32 / 2 ^ 32 ≡ m3 = ap (λ (x : ℕ). x / 2 ^ 32) f2 ∙ e3 in
    words_path _ _ _ _ a b c d
    a≡
    (ap (λ (x : ℕ). x % 2 ^ 32) e1 ∙ b≡)
    (ap (λ (x : ℕ). x % 2 ^ 32) f2 ∙ c≡)
    (ap (λ (x : ℕ). x % 2 ^ 32) f3 ∙ d≡)

-- one word off
pub lo_word : (w m : ℕ) → w < 2 ^ 32 → (w + 2 ^ 32 * m) % 2 ^ 32 ≡ w
lo_word w m h = omega arith

pub hi_word : (w m : ℕ) → w < 2 ^ 32 → (w + 2 ^ 32 * m) / 2 ^ 32 ≡ m
hi_word w m h = omega arith

pub small_word : (w : ℕ) → w < 2 ^ 32 → w % 2 ^ 32 ≡ w
small_word w h = omega arith

pub words_wide : (n : ℕ) → Words (wide_of n)
unfolding wide_of
words_wide n = record { f0 = below n; f1 = below (n / 2 ^ 32); f2 = below (n / 2 ^ 32 / 2 ^ 32); f3 = below (n / 2 ^ 32 / 2 ^ 32 / 2 ^ 32) }
  where
    below : (m : ℕ) → m % 2 ^ 32 < 2 ^ 32
    below m = omega arith

-- four words are the words of their number
pub wide_value : (w : Wide) → Words w → wide_of (value_of w) ≡ w
wide_value w h =
    wide_digits _ _ _ _
    (lo_word w.w0 _ h.f0)
    (hi_word w.w0 _ h.f0)
    (lo_word w.w1 _ h.f1)
    (hi_word w.w1 _ h.f1)
    (lo_word w.w2 _ h.f2)
    (hi_word w.w2 _ h.f2)
    (small_word w.w3 h.f3)

-- wide_end, a word at a time
pub whole_words : wide_end ≡ 2 ^ 32 * (2 ^ 32 * (2 ^ 32 * 2 ^ 32))
unfolding wide_end
whole_words = refl

pub carry_lt : (w m k : ℕ) → w < 2 ^ 32 → m < k → w + 2 ^ 32 * m < 2 ^ 32 * k
carry_lt w m k h l = omega arith

pub value_lt : (w : Wide) → Words w → value_of w < wide_end
value_lt w h =
    subst (λ (k : ℕ). value_of w < k) (sym whole_words)
    (carry_lt w.w0 _ _ h.f0 (carry_lt w.w1 _ _ h.f1 (carry_lt w.w2 _ _ h.f2 h.f3)))

join_word : (n x : ℕ) → n / 2 ^ 32 ≡ x → n % 2 ^ 32 + 2 ^ 32 * x ≡ n
join_word n x h = omega arith

hi_lt : (n k : ℕ) → n < 2 ^ 32 * k → n / 2 ^ 32 < k
hi_lt n k h = omega arith

-- a number below wide_end is the number of its words
pub value_wide : (n : ℕ) → n < wide_end → value_of (wide_of n) ≡ n
unfolding wide_of
value_wide n h =
    let n1 : ℕ = n / 2 ^ 32 in
    let n2 : ℕ = n1 / 2 ^ 32 in
    let n3 : ℕ = n2 / 2 ^ 32 in
    let h0 : n < 2 ^ 32 * (2 ^ 32 * (2 ^ 32 * 2 ^ 32)) = subst (λ (k : ℕ). n < k) whole_words h in
    let t : n3 < 2 ^ 32 = hi_lt n2 _ (hi_lt n1 _ (hi_lt n _ h0)) in
    ap (λ (x : ℕ). n % 2 ^ 32 + 2 ^ 32 * (n1 % 2 ^ 32 + 2 ^ 32 * (n2 % 2 ^ 32 + 2 ^ 32 * x))) (small_word n3 t)
    ∙ ap (λ (x : ℕ). n % 2 ^ 32 + 2 ^ 32 * (n1 % 2 ^ 32 + 2 ^ 32 * x)) (join_word n2 n3 refl)
    ∙ ap (λ (x : ℕ). n % 2 ^ 32 + 2 ^ 32 * x) (join_word n1 n2 refl)
    ∙ join_word n n1 refl

lo_more : (n x : ℕ) → (n + 2 ^ 32 * x) % 2 ^ 32 ≡ n % 2 ^ 32
lo_more n x = omega arith

hi_more : (n x : ℕ) → (n + 2 ^ 32 * x) / 2 ^ 32 ≡ n / 2 ^ 32 + x
hi_more n x = omega arith

-- wide_end more leaves the words
pub wide_more : (n q : ℕ) → wide_of (n + wide_end * q) ≡ wide_of n
unfolding wide_of
wide_more n q =
    let e : wide_end * q ≡ 2 ^ 32 * (2 ^ 32 * (2 ^ 32 * (2 ^ 32 * q))) =
    ap (λ (k : ℕ). k * q) whole_words
    ∙ mul_assoc (2 ^ 32) (2 ^ 32 * (2 ^ 32 * 2 ^ 32)) q
    ∙ ap (λ (k : ℕ). 2 ^ 32 * k) (mul_assoc (2 ^ 32) (2 ^ 32 * 2 ^ 32) q
    ∙ ap (λ (k : ℕ). 2 ^ 32 * k) (mul_assoc (2 ^ 32) (2 ^ 32) q)) in
    ap wide_of (ap (λ (k : ℕ). n + k) e)
    ∙ wide_digits (n + 2 ^ 32 * (2 ^ 32 * (2 ^ 32 * (2 ^ 32 * q)))) _ _ _
    (lo_more n _) (hi_more n _) (lo_more (n / 2 ^ 32) _) (hi_more (n / 2 ^ 32) _) (lo_more (n / 2 ^ 32 / 2 ^ 32) _) (hi_more (n / 2 ^ 32 / 2 ^ 32) _)
    (lo_more (n / 2 ^ 32 / 2 ^ 32 / 2 ^ 32) q)

pub whole_half : wide_end ≡ 2 * half
unfolding wide_end half
whole_half = refl

pub half_words : half ≡ 2 ^ 32 * (2 ^ 32 * (2 ^ 32 * 2 ^ 31))
unfolding half
half_words = refl

pub whole_pos : 0 < wide_end
unfolding wide_end
whole_pos = lit< tt
