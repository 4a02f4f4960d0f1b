-- How long a row's own bytes are: no head has more than 19. Assumes nothing.
use mathlib.Core.Path.{◌≡◌, refl, ap, ◌∙◌}
use mathlib.Core.Bool.{Bool, true, false, cond}
use mathlib.Core.List.{List, [], ◌∷◌, ◌++◌}
use Prim.Native.Nat.{ℕ, ◌+◌, ◌^◌, ◌≤◌, ◌<◌}
use native.Mathlib.Omega.{arith}
use lib.ListN.{length, take, drop, length-append}
use Rattle.wide.specs.declared.wide.Wide.{Wide}
use Rattle.wide.specs.Number.{bytes_of}
use Rattle.wide.specs.Words.{wide_end, value_of, words}
use Rattle.wide.specs.Body.{size_at, rank}
use Rattle.wide.specs.Family.{Family, has_number, byte_of, unmarked_form, form}
use Rattle.wide.specs.Members.{integer_signed, integer_unsigned, text_length, binary_length, key_length, reference_number, declaration_count, foreign_length}
use Rattle.wide.proofs.Numbers.{length-bytes_of}
use Rattle.wide.proofs.Wides.{Words, value_lt}
use Rattle.wide.proofs.Ranks.{rank_lt, size_high}
use Rattle.wide.proofs.Families.{cond-case}
use Rattle.format.specs.declared.head.Holder.{Holder}
use Rattle.format.specs.declared.head.Holder.TheVariants.{Array, Record, Map}
use Rattle.rows.specs.declared.row.Row.{Row}
use Rattle.rows.specs.Table.{Own, own_of}
use Rattle.rules.specs.declared.kind.Kind.{Kind}
use Rattle.rules.specs.declared.kind.Kind.TheVariants.{Constant, Small, Signed, Unsigned, Float, Text, Holds, Binary, Char, Reference, Declaration, Whole, Damaged, Key, Unknown}
use Rattle.encode.specs.Encode.{holder_count, head_for, has_bytes}
use Rattle.encode.proofs.Back.{part-long}
use Rattle.rules.specs.Shape.{named}
use Rattle.plan.specs.Inner.{own_head}
use Rattle.plan.proofs.Forms.{double_whole}
use Rattle.spell.specs.Inner.{own_bytes, own_size, Inside}

-- ---- heads

form-short : (F : Family) (n : ℕ) → n < wide_end → length (form F n) ≤ length F.marker + 17
unfolding form unmarked_form
form-short F n h =
    cond-case (λ (x : List ℕ). length x ≤ length F.marker + 17) (has_number F.alone n) (byte_of F.alone n ∷ []) (F.marker ++ unmarked_form F n)
    (λ _. omega arith)
    (λ _. omega (arith, length-append F.marker (unmarked_form F n), short))
  where
    short : length (unmarked_form F n) ≤ 17
    short =
        cond-case (λ (x : List ℕ). length x ≤ 17) (has_number F.direct n) (byte_of F.direct n ∷ []) ((F.first + rank F.signed n) ∷ bytes_of (size_at (rank F.signed n)) n)
        (λ _. omega arith)
        (λ _. omega (arith, length-bytes_of (size_at (rank F.signed n)) n, size_high (rank F.signed n) (rank_lt F.signed n h)))

holder_short : (h : Holder) (n : ℕ) → n < wide_end → length (form (holder_count h) n) ≤ 19
holder_short Array n l = omega (arith, form-short (holder_count Array) n l)
holder_short Record n l = omega (arith, form-short (holder_count Record) n l)
holder_short Map n l = omega (arith, form-short (holder_count Map) n l)

module _ (o : Own) (size : ℕ) (h : Words (words o.w0 o.w1 o.w2 o.w3)) (l : size < wide_end) where
  abbrev W : Wide
  W = words o.w0 o.w1 o.w2 o.w3

  word : (n : ℕ) → n < 2 ^ 32 → n < wide_end
  word n g = omega (arith, double_whole)

  pub head_short : (K : Kind) → length (head_for o size K) ≤ 19
  unfolding head_for
  head_short Constant = omega arith
  head_short Small = omega (arith, form-short integer_signed (value_of W) (value_lt W h))
  head_short Signed = omega (arith, form-short integer_signed (value_of W) (value_lt W h))
  head_short Unsigned = omega (arith, form-short integer_unsigned (value_of W) (value_lt W h))
  head_short Float = omega arith
  head_short Text = omega (arith, form-short text_length o.w1 (word o.w1 h.f1))
  head_short (Holds holder) = holder_short holder o.w0 (word o.w0 h.f0)
  head_short Binary = omega (arith, form-short binary_length o.w1 (word o.w1 h.f1))
  head_short Char = omega (arith, length-bytes_of 3 o.w0)
  head_short Reference = omega (arith, form-short reference_number o.w0 (word o.w0 h.f0))
  head_short Declaration = omega (arith, form-short declaration_count o.w0 (word o.w0 h.f0))
  head_short Whole = omega (arith, form-short foreign_length size l)
  head_short Damaged = omega (arith, form-short foreign_length o.w1 (word o.w1 h.f1))
  head_short Key = omega (arith, form-short key_length o.w1 (word o.w1 h.f1))
  head_short Unknown = omega arith

-- ---- rows

-- where the payload lies in the data, a row's own bytes are as many as its size says
pub own-long : (s : List ℕ) (w : Row) (size : ℕ) → Inside s w → length (own_bytes s w size) ≡ own_size w size
unfolding own_bytes own_size Inside
own-long s w size i = length-append (own_head w size) _ ∙ ap (λ (x : ℕ). length (own_head w size) + x) (of (has_bytes (named (own_of w))) i)
  where
    of : (b : Bool) → (b ≡ true → w.w0 + w.w1 ≤ length s) → length (cond b (take w.w1 (drop w.w0 s)) []) ≡ cond b w.w1 0
    of true g = part-long s w.w0 w.w1 (g refl)
    of false g = refl

pub own-few : (s : List ℕ) (w : Row) (size : ℕ) → Inside s w → Words (words w.w0 w.w1 w.w2 w.w3) → size < wide_end → own_size w size ≤ 19 + length s
unfolding own_size own_head Inside
own-few s w size i h l =
    cond-case (λ (x : ℕ). length (own_head w size) + x ≤ 19 + length s) (has_bytes (named (own_of w))) w.w1 0
    (λ b. omega (arith, head_short (own_of w) size h l (named (own_of w)), i b))
    (λ _. omega (arith, head_short (own_of w) size h l (named (own_of w))))

-- only a whole foreign body's head asks for the size of the children
pub head_any : (o : Own) (a b : ℕ) (K : Kind) → (K ≡ Whole → ⊥) → head_for o a K ≡ head_for o b K
unfolding head_for
head_any o a b Constant n = refl
head_any o a b Small n = refl
head_any o a b Signed n = refl
head_any o a b Unsigned n = refl
head_any o a b Float n = refl
head_any o a b Text n = refl
head_any o a b (Holds holder) n = refl
head_any o a b Binary n = refl
head_any o a b Char n = refl
head_any o a b Reference n = refl
head_any o a b Declaration n = refl
head_any o a b Whole n = absurd (n refl)
head_any o a b Damaged n = refl
head_any o a b Key n = refl
head_any o a b Unknown n = refl
