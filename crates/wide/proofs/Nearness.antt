-- Numbers near 0: how far each stands behind -below, which words it has, and which numbers of four words are near. Over any `below` and `up`
-- of at most 256. Assumes nothing.
use mathlib.Core.Path.{◌≡◌, ◌∙◌, sym, ap, ap₂, refl, subst}
use mathlib.Core.Bool.{Bool, true, false, ◌&&◌, and-eq-true_iff}
use Prim.Native.Nat.{ℕ, ◌+◌, ◌-◌, ◌*◌, ◌/◌, ◌%◌, ◌^◌, ◌≤◌, ◌<◌}
use native.Mathlib.Nat.{mod-lt, mod-eq_of_lt, mod-add-mod, add-mod_right, div-add-mod', mul_comm}
use native.Mathlib.Omega.{arith}
use lib.Dec.{ltb, eqb, lit≤}
use borrow.Author.Tests.{lt-ltb, le-ltb, ne_eqb, eqb-true, eqb-false}
use Rattle.wide.specs.declared.wide.Wide.{Wide}
use Rattle.wide.specs.Words.{wide_end, words, value_of, wide_of}
use Rattle.wide.specs.Family.{Run, behind, has_number}
use Rattle.wide.proofs.Numbers.{either}
use Rattle.wide.proofs.Wides.{Words, whole_words, whole_pos, wide_value, value_wide, wide_more, carry_lt}
use Rattle.wide.proofs.Steps.{carry_le}
use Rattle.wide.proofs.Ranks.{bool_case}
use Rattle.wide.proofs.Runs.{bytes_whole}

-- ---- how far a number stands behind -below

back_again : (k m : ℕ) → k ≤ m → m - (m - k) ≡ k
back_again k m h = omega arith

-- from 0 up
pub behind_up : (below n : ℕ) → below ≤ 256 → n + below < wide_end → behind wide_end (wide_end - below) n ≡ n + below
unfolding behind
behind_up below n b h = ap (λ (x : ℕ). (n + x) % wide_end) (back_again below wide_end (omega (arith, bytes_whole))) ∙ mod-eq_of_lt h

-- below 0
pub behind_round : (below n : ℕ) → below ≤ 256 → n < wide_end → wide_end ≤ n + below → behind wide_end (wide_end - below) n ≡ n + below - wide_end
unfolding behind
behind_round below n b h l =
    let e : n + below ≡ (n + below - wide_end) + wide_end = omega arith in
    let m : n + below - wide_end < wide_end = omega (arith, bytes_whole) in
    ap (λ (x : ℕ). (n + x) % wide_end) (back_again below wide_end (omega (arith, bytes_whole)))
    ∙ ap (λ (x : ℕ). x % wide_end) e ∙ add-mod_right (n + below - wide_end) wide_end ∙ mod-eq_of_lt m

-- behind 0, which is -0, a number stands as far as it says
pub behind_zero : (n : ℕ) → behind wide_end (wide_end - 0) n ≡ behind wide_end 0 n
unfolding behind
behind_zero n =
    let e : n + (wide_end - (wide_end - 0)) ≡ n = omega arith in
    let f : n + (wide_end - 0) ≡ n + wide_end = omega arith in
    ap (λ (x : ℕ). x % wide_end) e ∙ sym (ap (λ (x : ℕ). x % wide_end) f ∙ add-mod_right n wide_end)

-- ---- four words whose high three are all the same

none_first : (a b c x : ℕ) → (a ≡ x → ⊥) → false ≡ (eqb a x && (eqb b x && eqb c x))
none_first a b c x h = sym (ap (λ (t : Bool). t && (eqb b x && eqb c x)) (ne_eqb a x h))

above_yes : (a b c x : ℕ) → (eqb a x && (eqb b x && eqb c x)) ≡ true → (a ≡ x) × (b ≡ x) × (c ≡ x)
above_yes a b c x e =
    let p = (and-eq-true_iff (eqb a x) (eqb b x && eqb c x)).0 e in
    let q = (and-eq-true_iff (eqb b x) (eqb c x)).0 p.1 in
    (eqb-true a x p.0, eqb-true b x q.0, eqb-true c x q.1)

above_no : (X : Type 0) (a b c x : ℕ) → (eqb a x && (eqb b x && eqb c x)) ≡ false → ((a ≡ x → ⊥) → X) → ((b ≡ x → ⊥) → X) → ((c ≡ x → ⊥) → X) → X
above_no X a b c x e f g h =
    bool_case (eqb a x)
    (λ p. bool_case (eqb b x)
    (λ q. h (eqb-false c x (sym (ap₂ (λ (s t : Bool). s && (t && eqb c x)) p q) ∙ e)))
    (λ q. g (eqb-false b x q)))
    (λ p. f (eqb-false a x p))

value_low : (w : Wide) → w.w1 ≡ 0 → w.w2 ≡ 0 → w.w3 ≡ 0 → value_of w ≡ w.w0
value_low w a b c = let z : w.w1 + 2 ^ 32 * (w.w2 + 2 ^ 32 * w.w3) ≡ 0 = omega arith in bare w.w0 _ z
  where
    bare : (x m : ℕ) → m ≡ 0 → x + 2 ^ 32 * m ≡ x
    bare x m h = omega arith

value-some : (a b c d : ℕ) → 0 < b + 2 ^ 32 * (c + 2 ^ 32 * d) → 2 ^ 32 ≤ a + 2 ^ 32 * (b + 2 ^ 32 * (c + 2 ^ 32 * d))
value-some a b c d h = carry_le a _ 1 h

-- all ones above the low word: 2 ^ 32 less than wide_end and the low word more
ones_step : (w m k : ℕ) → w ≡ 4294967295 → m + 1 ≡ k → w + 2 ^ 32 * m + 1 ≡ 2 ^ 32 * k
ones_step w m k a b = omega arith

top_step : (w m k : ℕ) → m + 1 ≡ k → w + 2 ^ 32 * m + 2 ^ 32 ≡ 2 ^ 32 * k + w
top_step w m k h = omega arith

value_ones : (w : Wide) → w.w1 ≡ 4294967295 → w.w2 ≡ 4294967295 → w.w3 ≡ 4294967295 → value_of w + 2 ^ 32 ≡ wide_end + w.w0
value_ones w a b c =
    let e3 : w.w3 + 1 ≡ 2 ^ 32 = omega arith in
    top_step w.w0 _ _ (ones_step w.w1 _ _ a (ones_step w.w2 w.w3 (2 ^ 32) b e3)) ∙ ap (λ (x : ℕ). x + w.w0) (sym whole_words)

-- not all ones: below that
less_here : (w m k : ℕ) → w + 1 < 2 ^ 32 → m < k → w + 2 ^ 32 * m + 1 < 2 ^ 32 * k
less_here w m k h l = omega arith

less_above : (w m k : ℕ) → w < 2 ^ 32 → m + 1 < k → w + 2 ^ 32 * m + 1 < 2 ^ 32 * k
less_above w m k h l = omega arith

less_top : (w m k : ℕ) → w < 2 ^ 32 → m + 1 < k → w + 2 ^ 32 * m + 2 ^ 32 < 2 ^ 32 * k
less_top w m k h l = omega arith

not_ones : (x : ℕ) → x < 2 ^ 32 → (x ≡ 4294967295 → ⊥) → x + 1 < 2 ^ 32
not_ones x h l = omega arith

value_less : (w : Wide) → Words w → (eqb w.w1 4294967295 && (eqb w.w2 4294967295 && eqb w.w3 4294967295)) ≡ false → value_of w + 2 ^ 32 < wide_end
value_less w h e =
    subst (λ (k : ℕ). value_of w + 2 ^ 32 < k) (sym whole_words)
    (less_top w.w0 _ _ h.f0
    (above_no (w.w1 + 2 ^ 32 * (w.w2 + 2 ^ 32 * w.w3) + 1 < 2 ^ 32 * (2 ^ 32 * 2 ^ 32)) w.w1 w.w2 w.w3 4294967295 e
    (λ n. less_here w.w1 _ _ (not_ones w.w1 h.f1 n) (carry_lt w.w2 w.w3 (2 ^ 32) h.f2 h.f3))
    (λ n. less_above w.w1 _ _ h.f1 (less_here w.w2 w.w3 (2 ^ 32) (not_ones w.w2 h.f2 n) h.f3))
    (λ n. less_above w.w1 _ _ h.f1 (less_above w.w2 w.w3 (2 ^ 32) h.f2 (not_ones w.w3 h.f3 n)))))

some_above : (w : Wide) → (eqb w.w1 0 && (eqb w.w2 0 && eqb w.w3 0)) ≡ false → 2 ^ 32 ≤ value_of w
some_above w e =
    value-some w.w0 w.w1 w.w2 w.w3
    (above_no (0 < w.w1 + 2 ^ 32 * (w.w2 + 2 ^ 32 * w.w3)) w.w1 w.w2 w.w3 0 e (λ n. omega arith) (λ n. omega arith) (λ n. omega arith))

-- ---- the tests of the code

word_whole : 2 ^ 32 + 2 ^ 32 ≤ wide_end
unfolding wide_end
word_whole = lit≤ tt

-- two tests that hold of the same numbers
same_test : (a b c d : ℕ) → (a < b → c < d) → (b ≤ a → d ≤ c) → ltb a b ≡ ltb c d
same_test a b c d f g = either b a (λ l. le-ltb a b l ∙ sym (le-ltb c d (g l))) (λ l. lt-ltb a b l ∙ sym (lt-ltb c d (f l)))

-- the numbers of the last 2 ^ 32
top_test : (n x below up : ℕ) → n + 2 ^ 32 ≡ wide_end + x → x < 2 ^ 32 → below ≤ 256 → up ≤ 256
    → ltb (4294967295 - x) below ≡ ltb (behind wide_end (wide_end - below) n) (below + up)
top_test n x below up e h b u =
    either wide_end (n + below)
    (λ l. lt-ltb (4294967295 - x) below (omega arith)
    ∙ sym (ap (λ (y : ℕ). ltb y (below + up)) (behind_round below n b (omega arith) l) ∙ lt-ltb (n + below - wide_end) (below + up) (omega arith)))
    (λ l. le-ltb (4294967295 - x) below (omega arith)
    ∙ sym (ap (λ (y : ℕ). ltb y (below + up)) (behind_up below n b l) ∙ le-ltb (n + below) (below + up) (omega (arith, word_whole))))

module _ (w : Wide) (h : Words w) (below up : ℕ) (b : below ≤ 256) (u : up ≤ 256) where
  abbrev none_above : Bool
  none_above = eqb w.w1 0 && (eqb w.w2 0 && eqb w.w3 0)

  abbrev ones_above : Bool
  ones_above = eqb w.w1 4294967295 && (eqb w.w2 4294967295 && eqb w.w3 4294967295)

  abbrev is_near : Bool
  is_near = ltb (behind wide_end (wide_end - below) (value_of w)) (below + up)

  near_up : (r : Bool) → r ≡ none_above → r ≡ true → ltb w.w0 up ≡ is_near
  near_up r p q =
      let z = above_yes w.w1 w.w2 w.w3 0 (sym p ∙ q) in
      let v : value_of w ≡ w.w0 = value_low w z.0 z.1 z.2 in
      same_test w.w0 up (w.w0 + below) (below + up) (λ l. omega arith) (λ l. omega arith)
      ∙ sym (ap (λ (x : ℕ). ltb x (below + up)) (ap (behind wide_end (wide_end - below)) v ∙ behind_up below w.w0 b (omega (arith, h.f0, word_whole))))

  near_below : (r : Bool) → r ≡ ones_above → r ≡ true → ltb (4294967295 - w.w0) below ≡ is_near
  near_below r p q =
      let z = above_yes w.w1 w.w2 w.w3 4294967295 (sym p ∙ q) in
      top_test (value_of w) w.w0 below up (value_ones w z.0 z.1 z.2) h.f0 b u

  near_none : (q r : Bool) → q ≡ none_above → q ≡ false → r ≡ ones_above → r ≡ false → false ≡ is_near
  near_none q r a c d e =
      let m : 2 ^ 32 ≤ value_of w = some_above w (sym a ∙ c) in
      let l : value_of w + 2 ^ 32 < wide_end = value_less w h (sym d ∙ e) in
      sym (ap (λ (x : ℕ). ltb x (below + up)) (behind_up below (value_of w) b (omega arith)) ∙ le-ltb (value_of w + below) (below + up) (omega arith))

  -- an answer that is right whatever stands above the low word
  decided : (x : Bool) → (none_above ≡ true → x ≡ ltb w.w0 up) → (none_above ≡ false → ones_above ≡ true → x ≡ ltb (4294967295 - w.w0) below)
      → (none_above ≡ false → ones_above ≡ false → x ≡ false) → x ≡ is_near
  decided x f g k =
      bool_case none_above
      (λ p. f p ∙ near_up none_above refl p)
      (λ p. bool_case ones_above (λ q. g p q ∙ near_below ones_above refl q) (λ q. k p q ∙ near_none none_above ones_above refl p refl q))

  pub near_low : (r : Bool) → r ≡ none_above → w.w0 < up → r ≡ is_near
  near_low r e l =
      decided r
      (λ p. e ∙ p ∙ sym (lt-ltb w.w0 up l))
      (λ p q. e ∙ p ∙ sym (le-ltb (4294967295 - w.w0) below (omega arith)))
      (λ p q. e ∙ p)

  pub near_high : (r : Bool) → r ≡ ones_above → up ≤ w.w0 → 4294967295 - w.w0 < below → r ≡ is_near
  near_high r e m l =
      decided r
      (λ p. let z = above_yes w.w1 w.w2 w.w3 0 p in
      e ∙ sym (none_first w.w1 w.w2 w.w3 4294967295 (λ k. omega (arith, z.0))) ∙ sym (le-ltb w.w0 up m))
      (λ p q. e ∙ q ∙ sym (lt-ltb (4294967295 - w.w0) below l))
      (λ p q. e ∙ q)

  pub near_far : up ≤ w.w0 → below ≤ 4294967295 - w.w0 → false ≡ is_near
  near_far m l = decided false (λ p. sym (le-ltb w.w0 up m)) (λ p q. sym (le-ltb (4294967295 - w.w0) below l)) (λ p q. refl)

-- ---- the words of a number near 0

wide_low : (n : ℕ) → n < 2 ^ 32 → words n 0 0 0 ≡ wide_of n
wide_low n h =
    let w : Wide = words n 0 0 0 in
    let k : Words w = record { f0 = h; f1 = omega arith; f2 = omega arith; f3 = omega arith } in
    sym (wide_value w k) ∙ ap wide_of (value_low w refl refl refl)

far_up : (below far : ℕ) → below ≤ 256 → far ≤ 256 → below ≤ far → (wide_end - below + far) % wide_end ≡ far - below
far_up below far b f l =
    let e : wide_end - below + far ≡ far - below + wide_end = omega (arith, bytes_whole) in
    ap (λ (x : ℕ). x % wide_end) e ∙ add-mod_right (far - below) wide_end ∙ mod-eq_of_lt (omega (arith, word_whole))

far_below : (below far n : ℕ) → below ≤ 256 → far < below → n + 2 ^ 32 ≡ wide_end + (4294967295 - (below - far - 1)) → n ≡ (wide_end - below + far) % wide_end
far_below below far n b l e =
    let m : wide_end - below + far < wide_end = omega (arith, bytes_whole) in
    let d : n ≡ wide_end - below + far = omega (arith, bytes_whole) in
    d ∙ sym (mod-eq_of_lt m)

module _ (below far : ℕ) (b : below ≤ 256) (f : far ≤ 256) where
  pub words_up : below ≤ far → words (far - below) 0 0 0 ≡ wide_of ((wide_end - below + far) % wide_end)
  words_up l = wide_low (far - below) (omega arith) ∙ ap wide_of (sym (far_up below far b f l))

  pub words-below : far < below → words (4294967295 - (below - far - 1)) 4294967295 4294967295 4294967295 ≡ wide_of ((wide_end - below + far) % wide_end)
  words-below l =
      let w : Wide = words (4294967295 - (below - far - 1)) 4294967295 4294967295 4294967295 in
      let k : Words w = record { f0 = omega arith; f1 = omega arith; f2 = omega arith; f3 = omega arith } in
      sym (wide_value w k) ∙ ap wide_of (far_below below far (value_of w) b l (value_ones w refl refl refl))

-- ---- a number and its four words are near alike

-- the words of a number have its rest
pub value_rest : (n : ℕ) → value_of (wide_of n) ≡ n % wide_end
value_rest n =
    let e : n ≡ n % wide_end + wide_end * (n / wide_end) = omega (arith, div-add-mod' n wide_end, mul_comm wide_end (n / wide_end)) in
    ap (λ (x : ℕ). value_of (wide_of x)) e
    ∙ ap value_of (wide_more (n % wide_end) (n / wide_end))
    ∙ value_wide (n % wide_end) (mod-lt n whole_pos)

pub has_wide : (r : Run) (n : ℕ) → has_number r (value_of (wide_of n)) ≡ has_number r n
unfolding behind
has_wide r n = ap (λ (x : ℕ). ltb (behind wide_end r.from x) r.count) (value_rest n) ∙ ap (λ (x : ℕ). ltb x r.count) (mod-add-mod n wide_end (wide_end - r.from))
