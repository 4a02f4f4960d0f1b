-- A run's bytes and numbers go over into each other, one for one. Assumes nothing.
use mathlib.Core.Path.{◌≡◌, ◌∙◌, ap}
use mathlib.Core.Bool.{true}
use Prim.Native.Nat.{ℕ, ◌+◌, ◌-◌, ◌%◌, ◌≤◌, ◌<◌}
use native.Mathlib.Nat.{mod-lt, mod-eq_of_lt, mod-add-mod, add-mod-mod, add-mod_right}
use native.Mathlib.Omega.{arith}
use lib.Dec.{ltb, lit≤}
use borrow.Author.Tests.{ltb-true}
use Rattle.wide.specs.Words.{wide_end}
use Rattle.wide.specs.Family.{Run, behind, has_byte, number_of, has_number, byte_of}

-- o behind a stands o behind a
pub behind_move : (m a o : ℕ) → a < m → o < m → behind m a ((a + o) % m) ≡ o
unfolding behind
behind_move m a o h l =
    let e : a + o + (m - a) ≡ o + m = omega arith in
    mod-add-mod (a + o) m (m - a) ∙ ap (λ (x : ℕ). x % m) e ∙ add-mod_right o m ∙ mod-eq_of_lt l

-- what stands as far behind a as x does is x
pub behind_back : (m a x : ℕ) → a ≤ m → x < m → (a + behind m a x) % m ≡ x
unfolding behind
behind_back m a x h l =
    let e : a + (x + (m - a)) ≡ x + m = omega arith in
    add-mod-mod a (x + (m - a)) m ∙ ap (λ (y : ℕ). y % m) e ∙ add-mod_right x m ∙ mod-eq_of_lt l

pub behind_lt : (m a x : ℕ) → 0 < m → behind m a x < m
unfolding behind
behind_lt m a x h = mod-lt (x + (m - a)) h

pub bytes_whole : 256 ≤ wide_end
unfolding wide_end
bytes_whole = lit≤ tt

-- a run has bytes and numbers of its own
pub record Valid (r : Run) : Type 0 where
  pub low_byte : r.low < 256
  pub from-small : r.from < wide_end
  pub few : r.count ≤ 256

module _ (r : Run) (v : Valid r) where
  -- the number of a byte is at the byte's distance, and is the run's where the byte is
  number_behind : (b : ℕ) → behind wide_end r.from (number_of r b) ≡ behind 256 r.low b
  number_behind b =
      behind_move wide_end r.from (behind 256 r.low b) v.from-small (omega (arith, behind_lt 256 r.low b (lit≤ tt), bytes_whole))

  pub number_has : (b : ℕ) → has_number r (number_of r b) ≡ has_byte r b
  number_has b = ap (λ (o : ℕ). ltb o r.count) (number_behind b)

  pub number_small : (b : ℕ) → number_of r b < wide_end
  number_small b = mod-lt (r.from + behind 256 r.low b) (omega (arith, bytes_whole))

  pub byte_small : (n : ℕ) → byte_of r n < 256
  byte_small n = mod-lt (r.low + behind wide_end r.from n) (lit≤ tt)

  -- the byte of a number is at the number's distance
  byte-behind : (n : ℕ) → has_number r n ≡ true → behind 256 r.low (byte_of r n) ≡ behind wide_end r.from n
  byte-behind n e =
      behind_move 256 r.low (behind wide_end r.from n) v.low_byte
      (omega (arith, ltb-true (behind wide_end r.from n) r.count e, v.few))

  pub byte_has : (n : ℕ) → has_number r n ≡ true → has_byte r (byte_of r n) ≡ true
  byte_has n e = ap (λ (o : ℕ). ltb o r.count) (byte-behind n e) ∙ e

  pub byte-number : (n : ℕ) → n < wide_end → has_number r n ≡ true → number_of r (byte_of r n) ≡ n
  byte-number n h e =
      let f : r.from ≤ wide_end = omega (arith, v.from-small) in
      ap (λ (o : ℕ). (r.from + o) % wide_end) (byte-behind n e) ∙ behind_back wide_end r.from n f h
