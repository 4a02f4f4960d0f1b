-- What is written reads back: the tree with its new places, up to the end of its bytes. By induction on the tree. Assumes nothing.
use Rattle.std.specs.Prelude.{Ok}
use mathlib.Core.Path.{◌≡◌, refl, sym, ap, ap₂, ◌∙◌, subst}
use Prim.Native.Nat.{ℕ, suc, ◌+◌, ◌-◌, ◌≤◌, ◌<◌}
use native.Mathlib.Omega.{arith}
use mathlib.Core.Bool.{Bool, true, false, not, cond, ◌&&◌}
use mathlib.Core.List.{List, [], ◌∷◌, ◌++◌, append-nil}
use lib.ListN.{length, take, drop, length-append, length-drop}
use lib.Seq.{length-take-le}
use lib.Dec.{leb, eqb, lit≤}
use borrow.Author.Tests.{eqb-true, leb-true}
use Rattle.lists.proofs.Tests.{and_first, and_second}
use Rattle.wide.specs.declared.wide.Wide.{Wide}
use Rattle.wide.specs.Words.{wide_end, value_of, words, wide_of}
use Rattle.wide.specs.Number.{bytes_of}
use Rattle.wide.specs.Body.{size_at, rank}
use Rattle.wide.specs.Family.{has_number, byte_of, number_of, form}
use Rattle.wide.specs.Members.{integer_signed, integer_unsigned, text_length, binary_length}
use Rattle.wide.proofs.Families.{direct-form, body-form}
use Rattle.wide.proofs.Ranks.{bool_case}
use Rattle.wide.proofs.Runs.{byte-number}
use Rattle.wide.proofs.Wides.{Words, wide_value, value_lt}
use Rattle.wide.proofs.Sound.{sound_integers}
use Rattle.wide.proofs.Numbers.{length-bytes_of}
use Rattle.std.specs.Prelude.{Ok, Err}
use Rattle.text.specs.Check.{Text, text_of, well_formed}
use Rattle.rows.specs.Table.{Own, with_place, limit}
use Rattle.rows.specs.Kinds.{kind_small, kind_signed, kind_unsigned, kind_float, kind_text, kind_binary, kind_char, span_own}
use Rattle.format.specs.declared.head.Content.{Content}
use Rattle.format.specs.declared.head.Content.TheVariants as holds
use Rattle.format.specs.declared.head.Head.TheVariants as stand
use Rattle.format.specs.Head.{codepoint, float_sizes, float_size, head_at}
use Rattle.format.specs.Tree.{leaf}
use Rattle.format.specs.Value.{right, integer_own, integer_kind, leaf_own, value}
use Rattle.format.proofs.Steps as clauses
use Rattle.rules.specs.declared.kind.Kind.{Kind}
use Rattle.rules.specs.declared.kind.Kind.TheVariants.{Constant, Small, Signed, Unsigned, Float, Text as Spelt, Holds, Binary, Char, Reference, Declaration, Whole, Damaged, Key, Unknown}
use Rattle.rules.specs.declared.shape.Shape.TheVariants as shape
use Rattle.rules.specs.Shape.{blank, one_of, span, spelt, fits, shape_for}
use Rattle.rules.proofs.Says.{Names, count-own, constant-own, span-own, spelt_within}
use Rattle.rules.proofs.Judged.{span_within, spelt-span}
use Rattle.encode.specs.Encode.{index_in, float_marker, head_for, has_bytes}
use Rattle.encode.proofs.Places.{moved_if}
use Rattle.encode.proofs.Worded.{Fit}
use Rattle.encode.proofs.Fronts.{Stand, no_alone}
use Rattle.encode.proofs.Leaves.{constant_back, text_back, binary_back, float_back, char_back, small_back, signed_back, unsigned_back, body_there}

-- ---- leaves

-- a part of the data has its size
pub part-long : (s : List ℕ) (place n : ℕ) → place + n ≤ length s → length (take n (drop place s)) ≡ n
part-long s place n h = length-take-le n (drop place s) (omega (arith, length-drop place s))

well : (t : Text) → well_formed t ≡ true → t ≡ Ok tt
well (Ok u) e = refl
well (Err i) e = cc

by_size : (P : ℕ → Type 0) (n : ℕ) → one_of float_sizes n ≡ true → P 2 → P 4 → P 8 → P 16 → P 32 → P n
unfolding one_of
by_size P n e a b c d f =
    bool_case (eqb n 2) (λ q. subst P (sym (eqb-true n 2 q)) a) (λ q₁.
    bool_case (eqb n 4) (λ q. subst P (sym (eqb-true n 4 q)) b) (λ q₂.
    bool_case (eqb n 8) (λ q. subst P (sym (eqb-true n 8 q)) c) (λ q₃.
    bool_case (eqb n 16) (λ q. subst P (sym (eqb-true n 16 q)) d) (λ q₄.
    bool_case (eqb n 32) (λ q. subst P (sym (eqb-true n 32 q)) f) (λ q₅.
    absurd (let z : false ≡ true = rw (q₁, q₂, q₃, q₄, q₅) at e in no_true z))))))
  where
    no_true : false ≡ true → ⊥
    no_true z = let y : ◌≡◌ {A = ℕ} 0 1 = cc in omega arith

not_false : (b : Bool) → not b ≡ true → b ≡ false
not_false true e = sym e
not_false false e = refl

-- what a text or a key spells
pub record SpeltRight (s : List ℕ) (o : Own) : Type 0 where
  pub long : length (take o.w1 (drop o.w0 s)) ≡ o.w1
  pub said : text_of (take o.w1 (drop o.w0 s)) ≡ Ok tt

pub spelling : (s : List ℕ) (o : Own) → spelt s o ≡ true → SpeltRight s o
unfolding spelt
spelling s o e =
    record {
      long = part-long s o.w0 o.w1 (spelt_within s o e);
      said = well (text_of (take o.w1 (drop o.w0 s))) (and_second (span s o) (well_formed (text_of (take o.w1 (drop o.w0 s)))) e);
    }

-- a place and a size, with another place
pub span_placed : (s : List ℕ) (o : Own) (kind place : ℕ) → o.kind ≡ kind → span s o ≡ true → span_own kind place o.w1 ≡ with_place o place
span_placed s o kind place m e = ap (λ (p : Own). with_place p place) (sym (span-own s o kind m e))

-- the float sizes and their markers
float-marker : (n : ℕ) → one_of float_sizes n ≡ true → (3 ≤ float_marker n) × (float_marker n < 8) × (float_size (float_marker n) ≡ n)
unfolding float_marker
float-marker n e = by_size (λ m. (3 ≤ 3 + index_in float_sizes m) × (3 + index_in float_sizes m < 8) × (float_size (3 + index_in float_sizes m) ≡ m)) n e (lit≤ tt, lit≤ tt, refl) (lit≤ tt, lit≤ tt, refl) (lit≤ tt, lit≤ tt, refl) (lit≤ tt, lit≤ tt, refl) (lit≤ tt, lit≤ tt, refl)

module _ (s s' : List ℕ) (d k at stop : ℕ) (short : length s' ≤ limit) (o : Own) (w : Fit o) where
  abbrev pub B : Kind → List ℕ
  B K = head_for o 0 K ++ cond (has_bytes K) (take o.w1 (drop o.w0 s)) []

  -- what it reads back as
  abbrev pub T : Kind → Own
  T K = moved_if (has_bytes K) o (at + length (head_for o 0 K))

  N : ℕ
  N = value_of (words o.w0 o.w1 o.w2 o.w3)

  bounded : Words (words o.w0 o.w1 o.w2 o.w3)
  bounded = record { f0 = w.w0-fits; f1 = w.w1-fits; f2 = w.w2-fits; f3 = w.w3-fits }

  low : N < wide_end
  unfolding N
  low = value_lt (words o.w0 o.w1 o.w2 o.w3) bounded

  by_head : (c : Content) (next m : ℕ) (p : Own) → head_at s' at stop ≡ Ok (stand.Leaf c next) → leaf_own s' c ≡ p → next ≡ m → value (suc d) s' k at stop ≡ right (leaf p) m
  by_head c next m p e q r = clauses.value-leaf d s' k at stop (head_at s' at stop) refl c next e ∙ ap₂ (λ (x : Own) (j : ℕ). right (leaf x) j) q r

  wide_own : (j : ℕ) (x : Wide) → x ≡ words o.w0 o.w1 o.w2 o.w3 → j ≡ o.kind → integer_own j x ≡ o
  wide_own j x e q = ap₂ integer_own q e

  N-words : wide_of N ≡ words o.w0 o.w1 o.w2 o.w3
  unfolding N
  N-words = wide_value (words o.w0 o.w1 o.w2 o.w3) bounded

  long-nil : (xs : List ℕ) → length (xs ++ []) ≡ length xs
  long-nil xs = ap length (append-nil xs)

  constant-leaf : (1 ≤ o.kind) × (o.kind ≤ 3) → blank o.w0 o.w1 o.w2 o.w3 ≡ true → Stand s' at stop ((o.kind - 1) ∷ []) → value (suc d) s' k at stop ≡ right (leaf o) (at + 1)
  unfolding leaf_own
  constant-leaf m f h =
      by_head (holds.Constant o.kind) (at + 1) (at + 1) o (constant_back s' at stop o.kind m.0 m.1 h)
      (sym (constant-own s o o.kind refl f)) refl

  small-leaf : o.kind ≡ kind_small → has_number integer_signed.direct N ≡ true → Stand s' at stop (form integer_signed N) → value (suc d) s' k at stop ≡ right (leaf o) (at + length (form integer_signed N))
  unfolding leaf_own
  small-leaf m f h =
      let b : ℕ = byte_of integer_signed.direct N in
      let q : form integer_signed N ≡ b ∷ [] = no_alone integer_signed sound_integers.signed N refl ∙ direct-form integer_signed sound_integers.signed N f in
      by_head (holds.Small b) (at + 1) (at + length (form integer_signed N)) o (small_back s' at stop N low f h)
      (wide_own kind_small (wide_of (number_of integer_signed.direct b)) (ap wide_of (byte-number integer_signed.direct sound_integers.signed.direct-run N low f) ∙ N-words) (sym m))
      (ap (λ (l : List ℕ). at + length l) (sym q))

  signed-leaf : o.kind ≡ kind_signed → has_number integer_signed.direct N ≡ false → Stand s' at stop (form integer_signed N) → value (suc d) s' k at stop ≡ right (leaf o) (at + length (form integer_signed N))
  unfolding leaf_own
  signed-leaf m f h =
      let z : ℕ = size_at (rank true N) in
      let q : form integer_signed N ≡ (0x10 + rank true N) ∷ bytes_of z N = no_alone integer_signed sound_integers.signed N refl ∙ body-form integer_signed sound_integers.signed N f in
      let v = body_there s' at stop N low true (0x10 + rank true N) (subst (Stand s' at stop) q h) in
      by_head (holds.Integer true (at + 1) z) (at + 1 + z) (at + length (form integer_signed N)) o (signed_back s' at stop N low f h)
      (ap (λ (n : ℕ). integer_own (integer_kind true n) (wide_of n)) v ∙ wide_own (integer_kind true N) (wide_of N) N-words (ap (λ (b : Bool). cond b kind_small kind_signed) f ∙ sym m))
      (omega (arith, ap length q, length-bytes_of z N))

  unsigned-leaf : o.kind ≡ kind_unsigned → has_number integer_unsigned.direct N ≡ false → Stand s' at stop (form integer_unsigned N) → value (suc d) s' k at stop ≡ right (leaf o) (at + length (form integer_unsigned N))
  unfolding leaf_own
  unsigned-leaf m f h =
      let z : ℕ = size_at (rank false N) in
      let q : form integer_unsigned N ≡ (0x18 + rank false N) ∷ bytes_of z N = no_alone integer_unsigned sound_integers.unsigned N refl ∙ body-form integer_unsigned sound_integers.unsigned N f in
      let v = body_there s' at stop N low false (0x18 + rank false N) (subst (Stand s' at stop) q h) in
      by_head (holds.Integer false (at + 1) z) (at + 1 + z) (at + length (form integer_unsigned N)) o (unsigned_back s' at stop N low f h)
      (ap (λ (n : ℕ). integer_own (integer_kind false n) (wide_of n)) v ∙ wide_own (integer_kind false N) (wide_of N) N-words (ap (λ (b : Bool). cond b kind_small kind_unsigned) f ∙ sym m))
      (omega (arith, ap length q, length-bytes_of z N))

  P : List ℕ
  P = take o.w1 (drop o.w0 s)

  pub leaf_back : (K : Kind) → Names K o.kind → fits s o K ≡ true → shape_for K ≡ shape.Leaf → Stand s' at stop (B K) → value (suc d) s' k at stop ≡ right (leaf (T K)) (at + length (B K))
  unfolding fits head_for leaf_own N
  leaf_back Constant m f e h = constant-leaf m f h
  leaf_back Small m f e h = small-leaf m f (subst (Stand s' at stop) (append-nil (form integer_signed N)) h) ∙ ap (λ (x : ℕ). right (leaf o) (at + x)) (sym (long-nil (form integer_signed N)))
  leaf_back Signed m f e h = signed-leaf m (not_false _ f) (subst (Stand s' at stop) (append-nil (form integer_signed N)) h) ∙ ap (λ (x : ℕ). right (leaf o) (at + x)) (sym (long-nil (form integer_signed N)))
  leaf_back Unsigned m f e h = unsigned-leaf m (not_false _ f) (subst (Stand s' at stop) (append-nil (form integer_unsigned N)) h) ∙ ap (λ (x : ℕ). right (leaf o) (at + x)) (sym (long-nil (form integer_unsigned N)))
  leaf_back Float m f e h =
      let b : span s o ≡ true = and_first (span s o) (one_of float_sizes o.w1) f in
      let l = part-long s o.w0 o.w1 (span_within s o b) in
      let q = float-marker o.w1 (and_second (span s o) (one_of float_sizes o.w1) f) in
      by_head (holds.Span kind_float (at + 1) o.w1) (at + 1 + o.w1) _ _ (float_back s' at stop (take o.w1 (drop o.w0 s)) o.w1 l short (float_marker o.w1) q.0 q.1 q.2 h)
      (span_placed s o kind_float _ m b) (omega (arith, l))
  leaf_back Spelt m f e h =
      let z = spelling s o f in
      by_head (holds.Span kind_text (at + length (form text_length o.w1)) o.w1) (at + length (form text_length o.w1) + o.w1) _ _ (text_back s' at stop (take o.w1 (drop o.w0 s)) o.w1 z.long short z.said h)
      (span_placed s o kind_text _ m (spelt-span s o f)) (omega (arith, z.long, length-append (form text_length o.w1) (take o.w1 (drop o.w0 s))))
  leaf_back (Holds x) m f e h = cc
  leaf_back Binary m f e h =
      let l = part-long s o.w0 o.w1 (span_within s o f) in
      by_head (holds.Span kind_binary (at + length (form binary_length o.w1)) o.w1) (at + length (form binary_length o.w1) + o.w1) _ _ (binary_back s' at stop (take o.w1 (drop o.w0 s)) o.w1 l short h)
      (span_placed s o kind_binary _ m f) (omega (arith, l, length-append (form binary_length o.w1) (take o.w1 (drop o.w0 s))))
  leaf_back Char m f e h =
      let b : blank 0 o.w1 o.w2 o.w3 ≡ true = and_first (blank 0 o.w1 o.w2 o.w3) (codepoint o.w0) f in
      let c : codepoint o.w0 ≡ true = and_second (blank 0 o.w1 o.w2 o.w3) (codepoint o.w0) f in
      let u : o.w0 ≤ 0x10FFFF = leb-true o.w0 0x10FFFF (and_first (leb o.w0 0x10FFFF) (not (leb 0xD800 o.w0 && leb o.w0 0xDFFF)) c) in
      by_head (holds.Char o.w0) (at + 4) _ _ (char_back s' at stop o.w0 c u (subst (Stand s' at stop) (append-nil (0xc0 ∷ bytes_of 3 o.w0)) h))
      (sym (count-own s o kind_char 0 m b))
      (ap (λ (x : ℕ). at + x) (sym (long-nil (0xc0 ∷ bytes_of 3 o.w0) ∙ ap suc (length-bytes_of 3 o.w0))))
  leaf_back Reference m f e h = cc
  leaf_back Declaration m f e h = cc
  leaf_back Whole m f e h = cc
  leaf_back Damaged m f e h = cc
  leaf_back Key m f e h = cc
  leaf_back Unknown m f e h = cc
