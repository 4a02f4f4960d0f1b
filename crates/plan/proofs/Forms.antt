-- The forms of coded numbers as the code meets them: alone, direct behind the marks, or a body behind them. Assumes nothing.
use mathlib.Core.Path.{◌≡◌, refl, sym, ap, ◌∙◌}
use mathlib.Core.Bool.{Bool, true, false}
use mathlib.Core.List.{List, [], ◌∷◌, ◌++◌}
use Prim.Native.Nat.{ℕ, ◌+◌, ◌-◌, ◌*◌, ◌%◌, ◌^◌, ◌≤◌, ◌<◌}
use native.Mathlib.Nat.{add-mod_right, mod-eq_of_lt}
use native.Mathlib.Omega.{arith}
use lib.Dec.{ltb, lit≤}
use borrow.Author.Tests.{lt-ltb, le-ltb, ltb-true}
use Rattle.wide.specs.Number.{bytes_of}
use Rattle.wide.specs.Words.{wide_end}
use Rattle.wide.specs.Body.{size_at, rank}
use Rattle.wide.specs.Family.{behind, has_number, byte_of, unmarked_form, form}
use Rattle.wide.specs.Members.{run, headed, integer, integer_signed, integer_unsigned}
use Rattle.wide.proofs.Numbers.{either}
use Rattle.wide.proofs.Nearness.{behind_up, behind_round, behind_zero}
use Rattle.wide.proofs.Families.{cond_yes, cond_no}
use Rattle.wide.proofs.Sound.{sound_integers}
use Rattle.encode.proofs.Fronts.{no_alone}

-- ---- how far a number stands behind `from`

pub double_whole : 2 ^ 64 + 1 ≤ wide_end
unfolding wide_end
double_whole = lit≤ tt

pub far_from : (from n : ℕ) → from ≤ 1 → from ≤ n → n < wide_end → behind wide_end from n ≡ n - from
unfolding behind
far_from from n u l h =
    let e : n + (wide_end - from) ≡ n - from + wide_end = omega (arith, double_whole) in
    ap (λ (x : ℕ). x % wide_end) e ∙ add-mod_right (n - from) wide_end ∙ mod-eq_of_lt (omega arith)

pub far_below : (from n : ℕ) → from ≤ 1 → n < from → 256 ≤ behind wide_end from n
unfolding behind
far_below from n u l =
    let e : (n + (wide_end - from)) % wide_end ≡ n + (wide_end - from) = mod-eq_of_lt (omega (arith, double_whole)) in
    omega (arith, double_whole, e)

module _ (count from n : ℕ) (few : count ≤ 256) (u : from ≤ 1) (low : n < 2 ^ 64) where
  pub none_below : n < from → false ≡ ltb (behind wide_end from n) count
  none_below l = sym (le-ltb (behind wide_end from n) count (omega (arith, far_below from n u l)))

  pub some-from : from ≤ n → ltb (n - from) count ≡ ltb (behind wide_end from n) count
  some-from l = ap (λ (x : ℕ). ltb x count) (sym (far_from from n u l (omega (arith, double_whole))))

  pub alone-from : (r : Bool) → r ≡ ltb (behind wide_end from n) count → r ≡ true → from ≤ n
  alone-from r e t = either from n (λ l. l) (λ l. absurd (omega (arith, far_below from n u l, ltb-true (behind wide_end from n) count (sym e ∙ t))))

  pub alone-few : (r : Bool) → r ≡ ltb (behind wide_end from n) count → r ≡ true → n - from < count
  alone-few r e t = omega (arith, far_from from n u (alone-from r e t) (omega (arith, double_whole)), ltb-true (behind wide_end from n) count (sym e ∙ t))

-- ---- a headed number

small-alone : (n : ℕ) → n < 248 → (0 + n) % 256 ≡ n
small-alone n l = omega arith

module _ (low count from : ℕ) (ms : List ℕ) (n : ℕ) (h : low + count ≤ 256) (u : from ≤ 1) (small : n < 2 ^ 64) (r : Bool) (e : r ≡ ltb (behind wide_end from n) count) where
  pub form-alone : r ≡ true → (low + (n - from)) ∷ [] ≡ form (headed (run low count from) ms) n
  unfolding form
  form-alone t =
      let g : n - from < count = alone-few count from n (omega arith) u small r e t in
      let f : behind wide_end from n ≡ n - from = far_from from n u (alone-from count from n (omega arith) u small r e t) (omega (arith, double_whole)) in
      let b : (low + behind wide_end from n) % 256 ≡ low + (n - from) = ap (λ (x : ℕ). (low + x) % 256) f ∙ mod-eq_of_lt (omega arith) in
      ap (λ (x : ℕ). x ∷ []) (sym b) ∙ sym (cond_yes (ltb (behind wide_end from n) count) _ _ (sym e ∙ t))

  -- 248 numbers are themselves
  direct_far : behind wide_end 0 n ≡ n
  direct_far = let z : n - 0 ≡ n = omega arith in far_from 0 n (omega arith) (omega arith) (omega (arith, double_whole)) ∙ z

  pub form-direct : r ≡ false → n < 248 → ms ++ (n ∷ []) ≡ form (headed (run low count from) ms) n
  unfolding form unmarked_form
  form-direct t l =
      let b : (0 + behind wide_end 0 n) % 256 ≡ n = ap (λ (x : ℕ). (0 + x) % 256) direct_far ∙ small-alone n l in
      sym (cond_no (ltb (behind wide_end from n) count) _ _ (sym e ∙ t)
      ∙ ap (λ (x : List ℕ). ms ++ x) (cond_yes (ltb (behind wide_end 0 n) 248) _ _ (lt-ltb (behind wide_end 0 n) 248 (omega (arith, direct_far))) ∙ ap (λ (x : ℕ). x ∷ []) b))

  pub form-body : r ≡ false → 248 ≤ n → (v j k : ℕ) → v ≡ n → j ≡ rank false v → k ≡ size_at j → ms ++ ((248 + j) ∷ bytes_of k v) ≡ form (headed (run low count from) ms) n
  unfolding form unmarked_form
  form-body t l v j k p q s =
      sym (cond_no (ltb (behind wide_end from n) count) _ _ (sym e ∙ t)
      ∙ ap (λ (x : List ℕ). ms ++ x) (cond_no (ltb (behind wide_end 0 n) 248) _ _ (le-ltb (behind wide_end 0 n) 248 (omega (arith, direct_far))) ∙ cc))

-- ---- an integer

small-byte : (n m c : ℕ) → m ≡ 256 * c → n < m → m ≤ n + 31 → (0x20 + (n + 31 - m)) % 256 ≡ (n % 256 + 63) % 256
small-byte n m c e h l = omega arith

near_byte : (n : ℕ) → (0x20 + (n + 31)) % 256 ≡ (n % 256 + 63) % 256
near_byte n = omega arith

plain_byte : (n : ℕ) → (0x3f + (n + 0)) % 256 ≡ (n % 256 + 63) % 256
plain_byte n = omega arith

whole-bytes : wide_end ≡ 256 * 2 ^ 120
unfolding wide_end
whole-bytes = refl

low_byte : (signed : Bool) (n : ℕ) → n < wide_end → byte_of (integer signed).direct n ≡ (n % 256 + 63) % 256
low_byte true n h =
    either wide_end (n + 31)
    (λ l. ap (λ (x : ℕ). (0x20 + x) % 256) (behind_round 31 n (lit≤ tt) h l) ∙ small-byte n wide_end (2 ^ 120) whole-bytes h l)
    (λ l. ap (λ (x : ℕ). (0x20 + x) % 256) (behind_up 31 n (lit≤ tt) l) ∙ near_byte n)
low_byte false n h = ap (λ (x : ℕ). (0x3f + x) % 256) (sym (behind_zero n) ∙ behind_up 0 n (lit≤ tt) (omega arith)) ∙ plain_byte n

unmarked-integer : (signed : Bool) (n : ℕ) → form (integer signed) n ≡ unmarked_form (integer signed) n
unmarked-integer true n = no_alone integer_signed sound_integers.signed n refl
unmarked-integer false n = no_alone integer_unsigned sound_integers.unsigned n refl

signed_of : (signed : Bool) → (integer signed).signed ≡ signed
signed_of true = refl
signed_of false = refl

pub first-low : (signed : Bool) → (integer signed).first ≤ 24
first-low true = lit≤ tt
first-low false = lit≤ tt

module _ (signed : Bool) (n : ℕ) (h : n < wide_end) (r : Bool) (e : r ≡ has_number (integer signed).direct n) where
  pub integer-alone : r ≡ true → (b : ℕ) → b ≡ (n % 256 + 63) % 256 → b ∷ [] ≡ form (integer signed) n
  unfolding unmarked_form
  integer-alone t b g =
      sym (unmarked-integer signed n ∙ cond_yes (has_number (integer signed).direct n) _ _ (sym e ∙ t) ∙ ap (λ (x : ℕ). x ∷ []) (low_byte signed n h ∙ sym g))

  pub integer-body : r ≡ false → (f j k : ℕ) → f ≡ (integer signed).first → j ≡ rank signed n → k ≡ size_at j → (f + j) ∷ bytes_of k n ≡ form (integer signed) n
  unfolding unmarked_form
  integer-body t f j k a b c =
      sym (unmarked-integer signed n ∙ cond_no (has_number (integer signed).direct n) _ _ (sym e ∙ t) ∙ cc (signed_of signed))
