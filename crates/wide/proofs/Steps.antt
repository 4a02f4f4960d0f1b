-- The words of a number with a byte more at the low end, doubled, and complemented. Assumes nothing.
use mathlib.Core.Path.{◌≡◌, ◌∙◌, sym, ap, subst}
use mathlib.Core.Bool.{Bool, true, false, cond}
use Prim.Native.Nat.{ℕ, ◌+◌, ◌-◌, ◌*◌, ◌/◌, ◌%◌, ◌^◌, ◌≤◌, ◌<◌}
use native.Mathlib.Omega.{arith}
use lib.Dec.{ltb}
use Rattle.wide.specs.declared.wide.Wide.{Wide}
use Rattle.wide.specs.Words.{wide_end, value_of, wide_of, words}
use Rattle.wide.proofs.Wides.{Words, wide_digits, words_wide, wide_value, whole_words, half, half_words, carry_lt}

abbrev pub shifted : Wide → ℕ → Wide
shifted w b =
    words (w.w0 % 2 ^ 24 * 256 + b) (w.w1 % 2 ^ 24 * 256 + w.w0 / 2 ^ 24) (w.w2 % 2 ^ 24 * 256 + w.w1 / 2 ^ 24) (w.w3 % 2 ^ 24 * 256 + w.w2 / 2 ^ 24)

lo_in : (n c : ℕ) → c < 256 → (c + 256 * n) % 2 ^ 32 ≡ n % 2 ^ 32 % 2 ^ 24 * 256 + c
lo_in n c h = omega arith

hi_in : (n c : ℕ) → c < 256 → (c + 256 * n) / 2 ^ 32 ≡ n % 2 ^ 32 / 2 ^ 24 + 256 * (n / 2 ^ 32)
hi_in n c h = omega arith

carry_in : (n : ℕ) → n % 2 ^ 32 / 2 ^ 24 < 256
carry_in n = omega arith

wide_in : (n b : ℕ) → b < 256 → shifted (wide_of n) b ≡ wide_of (b + 256 * n)
unfolding wide_of
wide_in n b h =
    let n1 : ℕ = n / 2 ^ 32 in
    let n2 : ℕ = n1 / 2 ^ 32 in
    let n3 : ℕ = n2 / 2 ^ 32 in
    sym (wide_digits (b + 256 * n) _ _ _
    (lo_in n b h) (hi_in n b h)
    (lo_in n1 _ (carry_in n)) (hi_in n1 _ (carry_in n))
    (lo_in n2 _ (carry_in n1)) (hi_in n2 _ (carry_in n1))
    (lo_in n3 _ (carry_in n2)))

pub shifted_in : (w : Wide) (b : ℕ) → Words w → b < 256 → shifted w b ≡ wide_of (b + 256 * value_of w)
shifted_in w b h k = ap (λ (v : Wide). shifted v b) (sym (wide_value w h)) ∙ wide_in (value_of w) b k

-- of a number's words no more is known than the words
pub in_again : (n b : ℕ) → b < 256 → wide_of (b + 256 * value_of (wide_of n)) ≡ wide_of (b + 256 * n)
in_again n b h = sym (shifted_in (wide_of n) b (words_wide n) h) ∙ wide_in n b h

-- ---- twice

abbrev pub twice : Wide → Wide
twice w =
    words (w.w0 % 2 ^ 31 * 2) (w.w1 % 2 ^ 31 * 2 + w.w0 / 2 ^ 31) (w.w2 % 2 ^ 31 * 2 + w.w1 / 2 ^ 31) (w.w3 % 2 ^ 31 * 2 + w.w2 / 2 ^ 31)

lo_two : (n c : ℕ) → c < 2 → (c + 2 * n) % 2 ^ 32 ≡ n % 2 ^ 32 % 2 ^ 31 * 2 + c
lo_two n c h = omega arith

hi_two : (n c : ℕ) → c < 2 → (c + 2 * n) / 2 ^ 32 ≡ n % 2 ^ 32 / 2 ^ 31 + 2 * (n / 2 ^ 32)
hi_two n c h = omega arith

lo_first : (n : ℕ) → (2 * n) % 2 ^ 32 ≡ n % 2 ^ 32 % 2 ^ 31 * 2
lo_first n = omega arith

hi_first : (n : ℕ) → (2 * n) / 2 ^ 32 ≡ n % 2 ^ 32 / 2 ^ 31 + 2 * (n / 2 ^ 32)
hi_first n = omega arith

carry_two : (n : ℕ) → n % 2 ^ 32 / 2 ^ 31 < 2
carry_two n = omega arith

wide_two : (n : ℕ) → twice (wide_of n) ≡ wide_of (2 * n)
unfolding wide_of
wide_two n =
    let n1 : ℕ = n / 2 ^ 32 in
    let n2 : ℕ = n1 / 2 ^ 32 in
    let n3 : ℕ = n2 / 2 ^ 32 in
    sym (wide_digits (2 * n) _ _ _
    (lo_first n) (hi_first n)
    (lo_two n1 _ (carry_two n)) (hi_two n1 _ (carry_two n))
    (lo_two n2 _ (carry_two n1)) (hi_two n2 _ (carry_two n1))
    (lo_two n3 _ (carry_two n2)))

pub doubled : (w : Wide) → Words w → twice w ≡ wide_of (2 * value_of w)
doubled w h = ap twice (sym (wide_value w h)) ∙ wide_two (value_of w)

-- ---- every bit turned

abbrev pub turned : Wide → Wide
turned w = words (4294967295 - w.w0) (4294967295 - w.w1) (4294967295 - w.w2) (4294967295 - w.w3)

turn_word : (w m k : ℕ) → w < 2 ^ 32 → m < k → 2 ^ 32 * k - 1 - (w + 2 ^ 32 * m) ≡ 4294967295 - w + 2 ^ 32 * (k - 1 - m)
turn_word w m k h l = omega arith

words_turned : (w : Wide) → Words (turned w)
words_turned w = record { f0 = below w.w0; f1 = below w.w1; f2 = below w.w2; f3 = below w.w3 }
  where
    below : (x : ℕ) → 4294967295 - x < 2 ^ 32
    below x = omega arith

value_turned : (w : Wide) → Words w → wide_end - 1 - value_of w ≡ value_of (turned w)
value_turned w h =
    let m3 : ℕ = w.w3 in
    let m2 : ℕ = w.w2 + 2 ^ 32 * m3 in
    let m1 : ℕ = w.w1 + 2 ^ 32 * m2 in
    let l2 : m2 < 2 ^ 32 * 2 ^ 32 = carry_lt w.w2 m3 (2 ^ 32) h.f2 h.f3 in
    let l1 : m1 < 2 ^ 32 * (2 ^ 32 * 2 ^ 32) = carry_lt w.w1 m2 (2 ^ 32 * 2 ^ 32) h.f1 l2 in
    ap (λ (k : ℕ). k - 1 - value_of w) whole_words
    ∙ turn_word w.w0 m1 (2 ^ 32 * (2 ^ 32 * 2 ^ 32)) h.f0 l1
    ∙ ap (λ (x : ℕ). 4294967295 - w.w0 + 2 ^ 32 * x) (turn_word w.w1 m2 (2 ^ 32 * 2 ^ 32) h.f1 l2)
    ∙ ap (λ (x : ℕ). 4294967295 - w.w0 + 2 ^ 32 * (4294967295 - w.w1 + 2 ^ 32 * x)) (turn_word w.w2 m3 (2 ^ 32) h.f2 h.f3)

complemented : (w : Wide) → Words w → turned w ≡ wide_of (wide_end - 1 - value_of w)
complemented w h = sym (ap wide_of (value_turned w h) ∙ wide_value (turned w) (words_turned w))

-- word by word
abbrev turned_word : ℕ → ℕ → ℕ
turned_word x top = cond (ltb top 2147483648) x (4294967295 - x)

pub folded : (w : Wide) → Words w → (a b c d : ℕ) → a ≡ turned_word w.w0 w.w3 → b ≡ turned_word w.w1 w.w3 → c ≡ turned_word w.w2 w.w3
    → d ≡ turned_word w.w3 w.w3 → words a b c d ≡ cond (ltb w.w3 2147483648) w (wide_of (wide_end - 1 - value_of w))
folded w h a b c d ea eb ec ed = all (ltb w.w3 2147483648) a b c d ea eb ec ed
  where
    same : {a b c d a₁ b₁ c₁ d₁ : ℕ} → a ≡ a₁ → b ≡ b₁ → c ≡ c₁ → d ≡ d₁ → words a b c d ≡ words a₁ b₁ c₁ d₁
    same p q r s = cc

    all : (t : Bool) (a b c d : ℕ) → a ≡ cond t w.w0 (4294967295 - w.w0) → b ≡ cond t w.w1 (4294967295 - w.w1)
        → c ≡ cond t w.w2 (4294967295 - w.w2) → d ≡ cond t w.w3 (4294967295 - w.w3) → words a b c d ≡ cond t w (wide_of (wide_end - 1 - value_of w))
    all true a b c d ea eb ec ed = same ea eb ec ed
    all false a b c d ea eb ec ed = same ea eb ec ed ∙ complemented w h

-- ---- the highest bit

pub carry_le : (w m k : ℕ) → k ≤ m → 2 ^ 32 * k ≤ w + 2 ^ 32 * m
carry_le w m k h = omega arith

pub top_small : (w : Wide) → Words w → w.w3 < 2 ^ 31 → value_of w < half
top_small w h t =
    subst (λ (k : ℕ). value_of w < k) (sym half_words)
    (carry_lt w.w0 _ _ h.f0 (carry_lt w.w1 _ _ h.f1 (carry_lt w.w2 _ _ h.f2 t)))

pub top_big : (w : Wide) → 2 ^ 31 ≤ w.w3 → half ≤ value_of w
top_big w t =
    subst (λ (k : ℕ). k ≤ value_of w) (sym half_words)
    (carry_le w.w0 _ _ (carry_le w.w1 _ _ (carry_le w.w2 _ _ t)))
