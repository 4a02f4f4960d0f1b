-- A number of up to four bytes is the low word of the body that they are, and a table is filled word by word. Assumes nothing.
use mathlib.Core.Path.{◌≡◌, refl, sym, ap, ap₂, subst, ◌∙◌}
use mathlib.Core.Bool.{false}
use mathlib.Core.List.{List, ◌∷◌, ◌++◌, append-nil}
use Prim.Native.Nat.{ℕ, zero, suc, ◌+◌, ◌-◌, ◌*◌, ◌^◌, ◌≤◌, ◌<◌}
use native.Mathlib.Nat.{pow-le-pow_right, zero-lt-suc, mod-eq_of_lt}
use native.Mathlib.Omega.{arith}
use lib.ListN.{length, take, drop, get_or, set, length-set, length-drop, drop_of_length-le}
use lib.Seq.{sets, sets-eq, length-take-le, drop-drop, take_all}
use Rattle.wide.specs.declared.wide.Wide.{Wide}
use Rattle.wide.specs.Number.{number}
use Rattle.wide.specs.Words.{wide_of}
use Rattle.wide.specs.Body.{body_value}
use Rattle.wide.proofs.Numbers.{number_lt, bytes-all, bytes_take, bytes_drop}
use Rattle.feed.specs.Words.{words_in}

-- ---- a number

module _ (s : List ℕ) (at size : ℕ) (few : size ≤ 4) (there : at + size ≤ length s) (bytes : (i : ℕ) → get_or s i 0 < 256) where
  abbrev bs : List ℕ
  bs = take size (drop at s)

  bs_length : length bs ≡ size
  bs_length = length-take-le size (drop at s) (simp length-drop (omega arith))

  bs_low : number bs < 256 ^ size
  bs_low = subst (λ (k : ℕ). number bs < 256 ^ k) bs_length (number_lt bs (bytes_take size (drop at s) (bytes_drop at s (bytes-all s bytes))))

  pub number_is : (w : Wide) → w ≡ wide_of (body_value false bs) → w.w0 ≡ number bs
  unfolding wide_of body_value
  number_is w e =
      let p : 256 ^ size ≤ 256 ^ 4 = pow-le-pow_right (zero-lt-suc 255) few in
      ap (λ (x : Wide). x.w0) e ∙ mod-eq_of_lt (omega (arith, bs_low))

  pub number-low : (w : Wide) → w ≡ wide_of (body_value false bs) → w.w0 < 256 ^ size
  number-low w e = omega (arith, number_is w e, bs_low)

-- ---- a table: what is left to fill completes it

pub record Filling (before : List ℕ) (words : ℕ) (s now : List ℕ) (i : ℕ) : Type 0 where
  pub long : length now ≡ length before
  pub upto : i ≤ words
  pub same : sets now i (words_in (words - i) (drop (4 * i) s)) ≡ sets before 0 (words_in words s)

module _ (before : List ℕ) (words : ℕ) (s : List ℕ) where
  module _ (now : List ℕ) (i : ℕ) (v : Filling before words s now i) where
    pub fill_next : (x : ℕ) → i < words → x ≡ number (take 4 (drop (4 * i) s)) → Filling before words s (set now i x) (i + 1)
    unfolding words_in
    fill_next x h e =
        let p : words - i ≡ suc (words - (i + 1)) = omega arith in
        let q : 4 * i + 4 ≡ 4 * (i + 1) = omega arith in
        let d : drop 4 (drop (4 * i) s) ≡ drop (4 * (i + 1)) s = drop-drop 4 (4 * i) s ∙ ap (λ (k : ℕ). drop k s) q in
        let left : List ℕ = words_in (words - (i + 1)) (drop (4 * (i + 1)) s) in
        let r : words_in (words - i) (drop (4 * i) s) ≡ x ∷ left =
        ap (λ (k : ℕ). words_in k (drop (4 * i) s)) p ∙ ap₂ (λ (y : ℕ) (t : List ℕ). y ∷ words_in (words - (i + 1)) t) (sym e) d in
        let f : i + 1 ≡ suc i = omega arith in
        record {
          long = simp length-set v.long;
          upto = omega arith;
          same = ap (λ (k : ℕ). sets (set now i x) k left) f ∙ sym (ap (sets now i) r) ∙ v.same;
        }

    pub fill_last : words ≤ i → now ≡ sets before 0 (words_in words s)
    unfolding words_in
    fill_last h = let z : words - i ≡ 0 = omega arith in sym (ap (λ (k : ℕ). sets now i (words_in k (drop (4 * i) s))) z) ∙ v.same

-- ---- a table of just so many words is those of the bytes

pub words_length : (n : ℕ) (s : List ℕ) → length (words_in n s) ≡ n
unfolding words_in
words_length zero s = refl
words_length (suc n) s = ap suc (words_length n (drop 4 s))

pub filled_whole : (before : List ℕ) (n : ℕ) (s : List ℕ) → length before ≡ n → sets before 0 (words_in n s) ≡ words_in n s
filled_whole before n s e =
    let w : length (words_in n s) ≡ n = words_length n s in
    sets-eq (words_in n s) before 0 (omega (arith, w, e))
    ∙ ap (λ (r : List ℕ). words_in n s ++ r) (drop_of_length-le before (omega (arith, w, e)))
    ∙ append-nil (words_in n s)

-- ---- the table is all that is lent, and the data stand behind its words

pub lent_filled : (before now : List ℕ) (words n : ℕ) (s : List ℕ) → length before ≡ words → words ≡ n → now ≡ sets before 0 (words_in words s) → now ≡ words_in n s
lent_filled before now words n s l e f = f ∙ filled_whole before words s l ∙ ap (λ (k : ℕ). words_in k s) e

pub data_behind : (s : List ℕ) (front n : ℕ) → front ≡ 4 * n → take (length s - front) (drop front s) ≡ drop (4 * n) s
data_behind s front n e =
    let h : length (drop front s) ≡ length s - front = length-drop front s in
    take_all (length s - front) (drop front s) (omega (arith, h)) ∙ ap (λ (k : ℕ). drop k s) e

pub data_length : (s : List ℕ) (front n more : ℕ) → length s ≡ front + n + more → length (take (length s - front) (drop front s)) ≡ n + more
data_length s front n more e = length-take-le (length s - front) (drop front s) (simp length-drop (omega arith)) ∙ omega (arith, e)
