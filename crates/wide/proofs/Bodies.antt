-- A body of any size, read from its top byte down and written from its low word up. Assumes nothing.
use mathlib.Core.Path.{◌≡◌, ◌∙◌, sym, ap, ap₂, refl, subst}
use mathlib.Core.Bool.{Bool, true, false, ◌&&◌}
use mathlib.Core.List.{List, [], ◌∷◌, ◌++◌, append-nil, append_assoc}
use Prim.Native.Nat.{ℕ, zero, suc, ◌+◌, ◌-◌, ◌*◌, ◌/◌, ◌%◌, ◌^◌, ◌≤◌, ◌<◌}
use native.Mathlib.Nat.{add-zero, mul_left_comm, mul_comm, mul-sub, mul-le-mul_right, mul-le-mul_left, pow-le-pow_right, zero-lt-suc}
use native.Mathlib.Omega.{arith}
use lib.ListN.{length, set, take, drop, get_or, length-drop}
use lib.Seq.{sets, sets-eq, drop-drop, length-take-le}
use lib.Dec.{leb}
use borrow.Rule.Slice.PartMut.{put_mid}
use Rattle.std.specs.Int.{w32, to_le_bytes}
use borrow.Author.Tests.{le-leb, lt-leb}
use Rattle.wide.specs.declared.wide.Wide.{Wide}
use Rattle.wide.specs.Number.{number, bytes_of}
use Rattle.wide.specs.Words.{wide_end, words, value_of, wide_of}
use Rattle.wide.specs.Body.{extended, negative, body_value}
use Rattle.wide.proofs.Numbers.{either, onto, Bytes, length-bytes_of, pow_step, pow_pos256, onto_number, onto_zero, bytes_low, bytes_split}
use Rattle.wide.proofs.Wides.{Words, wide_more}
use Rattle.wide.proofs.Steps.{in_again}

-- the number lies between what its top byte says
top_low : (bs : List ℕ) (k : ℕ) → length bs ≡ suc k → get_or bs k 0 * 256 ^ k ≤ number bs
top_low [] k e = omega arith
top_low (b ∷ []) zero e = omega arith
top_low (b ∷ []) (suc k) e = omega arith
top_low (b ∷ c ∷ bs) zero e = omega arith
top_low (b ∷ c ∷ bs) (suc k) e =
    let t : ℕ = get_or (c ∷ bs) k 0 in
    omega (arith, top_low (c ∷ bs) k (omega arith), mul_left_comm t 256 (256 ^ k), ap (λ (p : ℕ). t * p) (pow_step k))

top_high : (bs : List ℕ) (k : ℕ) → Bytes bs → length bs ≡ suc k → number bs < get_or bs k 0 * 256 ^ k + 256 ^ k
top_high [] k h e = omega arith
top_high (b ∷ []) zero h e = omega arith
top_high (b ∷ []) (suc k) h e = omega arith
top_high (b ∷ c ∷ bs) zero h e = omega arith
top_high (b ∷ c ∷ bs) (suc k) h e =
    let t : ℕ = get_or (c ∷ bs) k 0 in
    omega (arith, h.0, top_high (c ∷ bs) k h.1 (omega arith), mul_left_comm t 256 (256 ^ k), ap (λ (p : ℕ). t * p) (pow_step k), pow_step k)

-- the highest bit is that of the top byte
pub top_bit : (bs : List ℕ) (k : ℕ) → Bytes bs → length bs ≡ suc k → leb (256 ^ length bs) (2 * number bs) ≡ leb 128 (get_or bs k 0)
top_bit bs k h e =
    let t : ℕ = get_or bs k 0 in
    let p : ℕ = 256 ^ k in
    let lo : t * p ≤ number bs = top_low bs k e in
    let hi : number bs < t * p + p = top_high bs k h e in
    let q : 256 ^ length bs ≡ 256 * p = ap (λ (n : ℕ). 256 ^ n) e ∙ pow_step k in
    either 128 t
    (λ l. le-leb (256 ^ length bs) (2 * number bs) (omega (arith, mul-le-mul_right p l)) ∙ sym (le-leb 128 t l))
    (λ l. let l' : t ≤ 127 = omega arith in
    lt-leb (256 ^ length bs) (2 * number bs) (omega (arith, mul-le-mul_right p l')) ∙ sym (lt-leb 128 t l))

pub pow_whole : (k : ℕ) → k ≤ 16 → 256 ^ k ≤ wide_end
unfolding wide_end
pow_whole k h = pow-le-pow_right (zero-lt-suc 255) h

-- ones above a body, or none, are what its extension has
fill_true : (p n : ℕ) → 0 < p → p ≤ wide_end → n + (wide_end - 1) * p ≡ n + (wide_end - p) + wide_end * (p - 1)
fill_true p n h k =
    let a : p * (wide_end - 1) ≡ p * wide_end - p * 1 = mul-sub p wide_end 1 in
    let b : wide_end * (p - 1) ≡ wide_end * p - wide_end * 1 = mul-sub wide_end p 1 in
    omega (arith, mul_comm (wide_end - 1) p, mul_comm p wide_end, mul-le-mul_left wide_end h, mul-le-mul_left p k, mul-le-mul_right p (one_le_whole h k))
  where
    one_le_whole : 0 < p → p ≤ wide_end → 1 ≤ wide_end
    one_le_whole x y = omega arith

pub filled : (neg : Bool) (bs : List ℕ) → length bs ≤ 16 → wide_of (onto (extended neg 0 0) bs) ≡ wide_of (extended neg (length bs) (number bs))
filled false bs h = ap wide_of (onto_zero bs)
filled true bs h =
    let p : ℕ = 256 ^ length bs in
    let e : extended true 0 0 ≡ wide_end - 1 = omega arith in
    ap (λ (f : ℕ). wide_of (onto f bs)) e
    ∙ ap wide_of (onto_number (wide_end - 1) bs ∙ fill_true p (number bs) (pow_pos256 (length bs)) (pow_whole (length bs) h))
    ∙ wide_more (number bs + (wide_end - p)) (p - 1)

sign : (signed : Bool) (bs : List ℕ) (k : ℕ) → Bytes bs → length bs ≡ suc k → negative signed (length bs) (number bs) ≡ (signed && leb 128 (get_or bs k 0))
sign false bs k h e = refl
sign true bs k h e = top_bit bs k h e

-- ---- a body that is read from its top byte down: the bytes `rest` are left of bs, those behind them are read

pub record Reading (bs : List ℕ) (f : ℕ) (rest : List ℕ) (w : Wide) : Type 0 where
  pub passed : List ℕ
  pub whole : rest ++ passed ≡ bs
  pub so_far : w ≡ wide_of (onto f passed)

pub read_first : (bs rest : List ℕ) (f : ℕ) (w : Wide) → rest ≡ bs → w ≡ wide_of f → Reading bs f rest w
read_first bs rest f w h e = record { passed = []; whole = append-nil rest ∙ h; so_far = e }

pub read_next : (bs : List ℕ) (f : ℕ) (rest left : List ℕ) (x : ℕ) (w r : Wide) → Reading bs f rest w → rest ≡ left ++ x ∷ []
    → x < 256 → r ≡ wide_of (x + 256 * value_of w) → Reading bs f left r
read_next bs f rest left x w r h e b g =
    record {
      passed = x ∷ h.passed;
      whole = sym (append_assoc left (x ∷ []) h.passed) ∙ ap (λ (l : List ℕ). l ++ h.passed) (sym e) ∙ h.whole;
      so_far = g ∙ ap (λ (v : Wide). wide_of (x + 256 * value_of v)) h.so_far ∙ in_again (onto f h.passed) x b;
    }

pub read_last : (bs : List ℕ) (f : ℕ) (rest : List ℕ) (w : Wide) → Reading bs f rest w → length rest ≡ 0 → w ≡ wide_of (onto f bs)
read_last bs f [] w h e = h.so_far ∙ ap (λ (l : List ℕ). wide_of (onto f l)) h.whole
read_last bs f (x ∷ rest) w h e = absurd (omega arith)

-- ---- a body that lies in a slice

pub body_length : (s : List ℕ) (at size : ℕ) → at + size ≤ length s → length (take size (drop at s)) ≡ size
body_length s at size fits = length-take-le size (drop at s) (simp length-drop (omega arith))

pub body_read : (signed : Bool) (bs : List ℕ) (size : ℕ) → length bs ≡ size → 1 ≤ size → size ≤ 16 → Bytes bs
    → wide_of (onto (extended (signed && leb 128 (get_or bs (size - 1) 0)) 0 0) bs) ≡ wide_of (body_value signed bs)
unfolding body_value
body_read signed bs size e low high h =
    let k : length bs ≡ suc (size - 1) = omega arith in
    ap (λ (b : Bool). wide_of (onto (extended b 0 0) bs)) (sym (sign signed bs (size - 1) h k))
    ∙ filled (negative signed (length bs) (number bs)) bs (omega arith)

-- ---- a body that is written: what is left to write completes it

-- i words are written: the rest completes it
pub record Writing (out : List ℕ) (at size : ℕ) (w : Wide) (now : List ℕ) (i : ℕ) (rest : Wide) : Type 0 where
  pub long : length now ≡ length out
  pub words_left : Words rest
  pub same : sets now (at + 4 * i) (bytes_of (size - 4 * i) (value_of rest)) ≡ sets out at (bytes_of size (value_of w))

pub write_first : (out : List ℕ) (at size : ℕ) (w : Wide) → Words w → Writing out at size w out 0 w
write_first out at size w h =
    let p : at + 4 * 0 ≡ at = omega arith in
    let q : size - 4 * 0 ≡ size = omega arith in
    record { long = refl; words_left = h; same = ap₂ (λ (a k : ℕ). sets out a (bytes_of k (value_of w))) p q }

-- a word of it
pub put_one : (out : List ℕ) (at count w : ℕ) → count ≡ 1 → set out at (w % 256) ≡ sets out at (bytes_of count w)
put_one out at count w e = rw e

pub put_two : (out : List ℕ) (at count w : ℕ) → count ≡ 2 → set (set out at (w % 256)) (at + 1) (w / 256 % 256) ≡ sets out at (bytes_of count w)
put_two out at count w e = let p : at + 1 ≡ suc at = omega arith in rw (e, p)

pub put_three : (out : List ℕ) (at count w : ℕ) → count ≡ 3
    → set (set (set out at (w % 256)) (at + 1) (w / 256 % 256)) (at + 2) (w / 256 / 256 % 256) ≡ sets out at (bytes_of count w)
put_three out at count w e =
    let p : at + 1 ≡ suc at = omega arith in
    let q : at + 2 ≡ suc (suc at) = omega arith in
    rw (e, p, q)

pub put_four : (out : List ℕ) (at count w : ℕ) → count ≤ 4 → (count ≡ 0 → ⊥) → (count ≡ 1 → ⊥) → (count ≡ 2 → ⊥) → (count ≡ 3 → ⊥)
    → set (set (set (set out at (w % 256)) (at + 1) (w / 256 % 256)) (at + 2) (w / 256 / 256 % 256)) (at + 3) (w / 256 / 256 / 256 % 256)
    ≡ sets out at (bytes_of count w)
put_four out at count w l n0 n1 n2 n3 =
    let e : count ≡ 4 = omega arith in
    let p : at + 1 ≡ suc at = omega arith in
    let q : at + 2 ≡ suc (suc at) = omega arith in
    let r : at + 3 ≡ suc (suc (suc at)) = omega arith in
    rw (e, p, q, r)

-- the words of what is left
pub words_off : (w : Wide) → Words w → Words (words w.w1 w.w2 w.w3 0)
words_off w h = record { f0 = h.f1; f1 = h.f2; f2 = h.f3; f3 = omega arith }

pub write_next : (out : List ℕ) (at size : ℕ) (w : Wide) (now : List ℕ) (i : ℕ) (rest : Wide) (after : List ℕ) (r : Wide)
    → Writing out at size w now i rest → i < size / 4 → length after ≡ length now → after ≡ sets now (at + 4 * i) (bytes_of 4 rest.w0)
    → r ≡ words rest.w1 rest.w2 rest.w3 0 → Writing out at size w after (i + 1) r
write_next out at size w now i rest after r v l n ea er =
    let k : ℕ = size - 4 * (i + 1) in
    let y : ℕ = rest.w1 + 2 ^ 32 * (rest.w2 + 2 ^ 32 * rest.w3) in
    let p : at + 4 * (i + 1) ≡ suc (suc (suc (suc (at + 4 * i)))) = omega arith in
    let q : k + 4 ≡ size - 4 * i = omega arith in
    let e : value_of r ≡ y = ap value_of er ∙ ap (λ (n : ℕ). rest.w1 + 2 ^ 32 * (rest.w2 + 2 ^ 32 * n)) (add-zero rest.w3) in
    record {
      long = n ∙ v.long;
      words_left = subst Words (sym er) (words_off rest v.words_left);
      same = ap₂ (λ (o : List ℕ) (a : ℕ). sets o a (bytes_of k (value_of r))) ea p
          ∙ ap (λ (n : ℕ). sets (sets now (at + 4 * i) (bytes_of 4 rest.w0)) (suc (suc (suc (suc (at + 4 * i))))) (bytes_of k n)) e
          ∙ ap (sets now (at + 4 * i)) (sym (bytes_split 4 k rest.w0 y v.words_left.f0))
          ∙ ap (λ (x : ℕ). sets now (at + 4 * i) (bytes_of x (value_of rest))) q
          ∙ v.same;
    }

pub write_last : (out : List ℕ) (at size : ℕ) (w : Wide) (now : List ℕ) (i : ℕ) (rest : Wide) (after : List ℕ)
    → Writing out at size w now i rest → i ≡ size / 4 → after ≡ sets now (at + size / 4 * 4) (bytes_of (size % 4) rest.w0)
    → after ≡ sets out at (bytes_of size (value_of w))
write_last out at size w now i rest after v e ea =
    let y : ℕ = rest.w1 + 2 ^ 32 * (rest.w2 + 2 ^ 32 * rest.w3) in
    let p : size / 4 * 4 ≡ 4 * i = omega arith in
    let q : size % 4 ≡ size - 4 * i = omega arith in
    ea
    ∙ ap₂ (λ (a k : ℕ). sets now (at + a) (bytes_of k rest.w0)) p q
    ∙ ap (sets now (at + 4 * i)) (sym (bytes_low (size - 4 * i) 4 rest.w0 y (omega arith)))
    ∙ v.same
