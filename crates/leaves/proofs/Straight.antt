-- A leaf met straight at its bytes: where it ends, and its row laid, by each way out. Assumes nothing.
use Rattle.std.specs.Prelude.{Result, Ok, Err, Some}
use mathlib.Core.Path.{◌≡◌, ◌∙◌, sym, ap, refl, subst}
use mathlib.Core.Bool.{Bool, true, false, cond}
use mathlib.Core.List.{List}
use Prim.Native.Nat.{ℕ, ◌+◌, ◌-◌, ◌*◌, ◌%◌, ◌≤◌, ◌<◌}
use native.Mathlib.Omega.{arith}
use lib.ListN.{length, get_or, take, drop}
use lib.Seq.{sets}
use lib.Dec.{leb}
use borrow.Author.Tests.{leb-true}
use Rattle.wide.specs.declared.wide.Wide.{Wide}
use Rattle.wide.specs.Words.{value_of, wide_of}
use Rattle.wide.specs.Body.{body_value, size_at}
use Rattle.wide.specs.Family.{number_of}
use Rattle.wide.specs.Members.{integer_signed, key_length}
use Rattle.wide.proofs.Numbers.{either}
use Rattle.text.specs.Check.{Text, text_of, well_formed}
use Rattle.rows.specs.declared.row.Row.{Row}
use Rattle.rows.specs.Table.{limit, words_per_row, words_of}
use Rattle.rows.specs.Kinds.{kind_small, kind_text, kind_binary, constant_own, span_own, leaf_row}
use Rattle.format.specs.declared.refused.Refused.{Refused}
use Rattle.format.specs.declared.head.Count.{Count}
use Rattle.format.specs.declared.head.Content.{Content}
use Rattle.format.specs.declared.head.Content.TheVariants.{Constant, Small, Integer, Span}
use Rattle.format.specs.declared.head.Head.{Head}
use Rattle.format.specs.declared.head.Head.TheVariants.{Leaf}
use Rattle.format.specs.declared.refusal.Refusal.{Refusal}
use Rattle.format.specs.declared.refusal.Refusal.TheVariants as why
use Rattle.format.specs.declared.head.Spelling.{Spelling}
use Rattle.format.specs.Head.{counts, refuse, count_at, bodied, spelled, spelling, spelling_of, integer_head, text_head, binary_head, head_at, key_at}
use Rattle.format.proofs.Heads.{CountAt, Counted, counted, leaf-after}
use Rattle.format.specs.Value.{integer_own, integer_kind, leaf_own}
use Rattle.heads.proofs.Counts.{length-one}
use Rattle.heads.proofs.Positions as positions
use Rattle.leaves.specs.Inner.{Known, end_of, LeafEnds, LeafAsked, KeyEnds, KeyAsked, SpanBehind, LeafLaid, LeafTried}
use Rattle.leaves.proofs.Leaves.{constant-row, small_row, integer-row, span-row}

-- ---- what is no refusal

-- what stands at `at`, said otherwise
pub known_as : (h : Result Head Refused) (s : List ℕ) (at stop : ℕ) → Known (head_at s at stop) → h ≡ head_at s at stop → Known h
known_as h s at stop k e = subst Known (sym e) k

-- its bytes are there
body_there : (at place size stop : ℕ) (c : Content) → Known (bodied at c place size stop) → size ≤ stop - place
body_there at place size stop c k = of (leb size (stop - place)) refl k
  where
    of : (b : Bool) → leb size (stop - place) ≡ b → Known (cond b (Ok (Leaf c (place + size))) (refuse why.Short at)) → size ≤ stop - place
    of true e k = leb-true size (stop - place) e
    of false e k = absurd k

module _ (s : List ℕ) (at place size stop : ℕ) (k : Known (text_head at (spelling s place size stop))) where
  -- and are text
  text_known : text_head at (spelling s place size stop) ≡ Ok (Leaf (Span kind_text place size) (place + size))
  text_known = of (leb size (stop - place)) (text_of (take size (drop place s))) k
    where
      of : (b : Bool) (x : Text) → Known (text_head at (cond b (spelled place size x) (Err why.Short))) → text_head at (cond b (spelled place size x) (Err why.Short)) ≡ Ok (Leaf (Span kind_text place size) (place + size))
      of true (Ok u) k = refl
      of true (Err i) k = absurd k
      of false x k = absurd k

-- an integer's
module _ (at stop rank size : ℕ) (signed : Bool) (z : size ≡ size_at rank) (l : at < stop) (k : Known (integer_head at stop rank signed)) where
  integer_there : size ≤ stop - (at + 1)
  integer_there = rw z (body_there at (at + 1) (size_at rank) stop (Integer signed (at + 1) (size_at rank)) k)

-- ---- one row

-- the row q of the leaf c is laid
laid : (h : Result Head Refused) (s table : List ℕ) (row : ℕ) (table' : List ℕ) (next : ℕ) (c : Content) (q : Row) → h ≡ Ok (Leaf c next) → q ≡ leaf_row (leaf_own s c) row
    → table' ≡ sets table (words_per_row * row) (words_of q) → LeafLaid h s table row table' next
laid h s table row table' next c q e w f = record { content = c; is = e; put = f ∙ ap (λ (x : Row). sets table (words_per_row * row) (words_of x)) w }

-- the same head, said otherwise
pub laid_as : (h h' : Result Head Refused) (s table : List ℕ) (row : ℕ) (table' : List ℕ) (r : ℕ) → h ≡ h' → LeafLaid h s table row table' r → LeafLaid h' s table row table' r
laid_as h h' s table row table' r e t = subst (λ (x : Result Head Refused). LeafLaid x s table row table' r) e t

-- what stands at `at` is laid: it ends behind its place, so not at 0
pub tried : (h : Result Head Refused) (s : List ℕ) (at stop : ℕ) (table : List ℕ) (row : ℕ) (table' : List ℕ) (r : ℕ) → h ≡ head_at s at stop
    → LeafLaid h s table row table' r → LeafTried (head_at s at stop) s table row table' (Some r) × (at < r)
tried h s at stop table row table' r e t = (laid_as h (head_at s at stop) s table row table' r e t, leaf-after s at stop h e t.content r t.is)

module _ (s table : List ℕ) (at row : ℕ) (table' : List ℕ) (q : Row) (f : table' ≡ sets table (words_per_row * row) (words_of q)) where
  -- a text, or a binary
  pub span-laid : (stop kind place size : ℕ) → head_at s at stop ≡ Ok (Leaf (Span kind place size) (place + size)) → q ≡ leaf_row (span_own kind place size) row
      → LeafLaid (head_at s at stop) s table row table' (place + size)
  span-laid stop kind place size e r =
      laid (head_at s at stop) s table row table' (place + size) (Span kind place size) q e (span-row s (Span kind place size) row q kind place size refl r) f

  -- by their own forms
  module _ (place size stop : ℕ) where
    pub text-laid : Known (text_head at (spelling s place size stop)) → q ≡ leaf_row (span_own kind_text place size) row
        → LeafLaid (text_head at (spelling s place size stop)) s table row table' (place + size)
    text-laid k r =
        laid (text_head at (spelling s place size stop)) s table row table' (place + size) (Span kind_text place size) q
        (text_known s at place size stop k) (span-row s (Span kind_text place size) row q kind_text place size refl r) f

    pub binary-laid : Known (bodied at (Span kind_binary place size) place size stop) → q ≡ leaf_row (span_own kind_binary place size) row
        → LeafLaid (bodied at (Span kind_binary place size) place size stop) s table row table' (place + size)
    binary-laid k r =
        laid (bodied at (Span kind_binary place size) place size stop) s table row table' (place + size) (Span kind_binary place size) q
        (sym (positions.body_there at place size stop (Span kind_binary place size) (body_there at place size stop (Span kind_binary place size) k)))
        (span-row s (Span kind_binary place size) row q kind_binary place size refl r) f

  pub integer-laid : (stop rank size : ℕ) (signed : Bool) (w : Wide) (kind : ℕ) → at < stop → Known (integer_head at stop rank signed) → size ≡ size_at rank
      → w ≡ wide_of (body_value signed (take size (drop (at + 1) s))) → kind ≡ integer_kind signed (value_of w)
      → q ≡ leaf_row (integer_own kind w) row → LeafLaid (integer_head at stop rank signed) s table row table' (at + 1 + size)
  integer-laid stop rank size signed w kind l known z v k r =
      let h : size ≤ stop - (at + 1) = integer_there at stop rank size signed z l known in
      rw (← z) (laid (bodied at (Integer signed (at + 1) size) (at + 1) size stop) s table row table' (at + 1 + size) (Integer signed (at + 1) size) q
      (sym (positions.body_there at (at + 1) size stop (Integer signed (at + 1) size) h))
      (integer-row s (Integer signed (at + 1) size) row q signed (at + 1) size w kind refl v k r) f)

  pub small-laid : (stop m : ℕ) (w : Wide) → Ok (Leaf (Small m) (at + 1)) ≡ head_at s at stop → w ≡ wide_of (number_of integer_signed.direct m)
      → q ≡ leaf_row (integer_own kind_small w) row → LeafLaid (head_at s at stop) s table row table' (at + 1)
  small-laid stop m w e v r =
      laid (head_at s at stop) s table row table' (at + 1) (Small m) q (sym e) (small_row s (Small m) row q m w refl v r) f

  pub constant-laid : (stop kind : ℕ) → Ok (Leaf (Constant kind) (at + 1)) ≡ head_at s at stop → q ≡ leaf_row (constant_own kind) row
      → LeafLaid (head_at s at stop) s table row table' (at + 1)
  constant-laid stop kind e r =
      laid (head_at s at stop) s table row table' (at + 1) (Constant kind) q (sym e) (constant-row s (Constant kind) row q kind refl r) f

-- a text behind its length is laid as the text that it is
pub spelt-laid : (s : List ℕ) (at stop n next : ℕ) (c : Result Count Refusal) → c ≡ count_at key_length s (at + 1) stop → c ≡ Ok (counts n next)
    → (table : List ℕ) (row : ℕ) (table' : List ℕ) (r : ℕ) → LeafLaid (text_head at (spelling s next n stop)) s table row table' r
    → LeafLaid (text_head at (spelling_of s stop (count_at key_length s (at + 1) stop))) s table row table' r
spelt-laid s at stop n next c e f table row table' r t =
    laid_as _ _ s table row table' r (ap (λ (x : Result Count Refusal). text_head at (spelling_of s stop x)) (sym f ∙ e)) t

-- ---- where it ends

-- what stands at `at`, said otherwise
module _ (s : List ℕ) (at stop : ℕ) where
  pub asked_as : (h : Result Head Refused) (r : ℕ) → LeafAsked h r → h ≡ head_at s at stop → LeafAsked (head_at s at stop) r
  asked_as h r t e = subst (λ (x : Result Head Refused). LeafAsked x r) e t

  leaf-asked : (c : Content) (next : ℕ) → Ok (Leaf c next) ≡ head_at s at stop → LeafAsked (head_at s at stop) next
  leaf-asked c next e = record { ends = λ n. record { content = c; is = sym e } }

pub text-asked : (s : List ℕ) (at place size stop : ℕ) → size ≤ stop - place → (b : Bool) → b ≡ well_formed (text_of (take (place + size - place) (drop place s))) → b ≡ true
    → LeafAsked (text_head at (spelling s place size stop)) (place + size)
text-asked s at place size stop h b e t = record { ends = λ n. record { content = Span kind_text place size; is = sym (ap (text_head at) (positions.spelling_well s place size stop b h e t)) } }

body-asked : (at place size stop : ℕ) (c : Content) (r : ℕ) → r ≡ end_of place size stop → LeafAsked (bodied at c place size stop) r
body-asked at place size stop c r e = of (leb size (stop - place)) e
  where
    of : (b : Bool) → r ≡ cond b (place + size) 0 → LeafAsked (cond b (Ok (Leaf c (place + size))) (refuse why.Short at)) r
    of true e = record { ends = λ n. record { content = c; is = ap (λ (z : ℕ). Ok (Leaf c z)) (sym e) } }
    of false e = record { ends = λ n. absurd (n e) }

-- ---- by the marker

module _ (s : List ℕ) (at stop : ℕ) (l : at < stop) (h : stop ≤ length s) where
  module _ (b m : ℕ) (e : m ≡ get_or s at 0) (g : b ≡ m) where
    pub signed_head : 16 ≤ b → b < 24 → integer_head at stop (b - 16) true ≡ head_at s at stop
    signed_head low high = positions.head_signed s at stop l b _ (g ∙ e) low high refl

    pub unsigned_head : 24 ≤ b → b < 32 → integer_head at stop (b - 24) false ≡ head_at s at stop
    unsigned_head low high = positions.head_unsigned s at stop l b _ (g ∙ e) low high refl

    pub constant_head : b < 3 → Ok (Leaf (Constant (b + 1)) (at + 1)) ≡ head_at s at stop
    constant_head low = positions.head_constant s at stop l b (g ∙ e) low

    pub small_head : 32 ≤ b → b < 128 → Ok (Leaf (Small m) (at + 1)) ≡ head_at s at stop
    small_head low high = ap (λ (x : ℕ). Ok (Leaf (Small x) (at + 1))) e ∙ positions.head_small s at stop l b (g ∙ e) low high

    pub text_head_lem : 128 ≤ b → b < 160 → text_head at (spelling s (at + 1) (b - 127) stop) ≡ head_at s at stop
    text_head_lem low high = positions.head_text s at stop l h b _ (g ∙ e) low high refl

    pub long-text_head : b ≡ 8 → text_head at (spelling_of s stop (count_at key_length s (at + 1) stop)) ≡ head_at s at stop
    long-text_head f = positions.head_long-text s at stop l h b _ (g ∙ e) f refl

    pub binary-head : b ≡ 12 → binary_head at stop (count_at key_length s (at + 1) stop) ≡ head_at s at stop
    binary-head f = positions.head_binary s at stop l h b _ (g ∙ e) f refl

    -- it is no refusal, so it is the text or the binary
    module _ (k : Known (head_at s at stop)) where
      pub text_stands : 128 ≤ b → b < 160 → head_at s at stop ≡ Ok (Leaf (Span kind_text (at + 1) (b - 127)) (at + 1 + (b - 127)))
      text_stands low high =
          let e : text_head at (spelling s (at + 1) (b - 127) stop) ≡ head_at s at stop = text_head_lem low high in
          sym e ∙ text_known s at (at + 1) (b - 127) stop (known_as _ s at stop k e)

      pub long-text_stands : b ≡ 8 → SpanBehind (count_at key_length s (at + 1) stop) kind_text (head_at s at stop)
      long-text_stands f = of (count_at key_length s (at + 1) stop) (known_as _ s at stop k (long-text_head f)) (long-text_head f)
        where
          of : (c : Result Count Refusal) → Known (text_head at (spelling_of s stop c)) → text_head at (spelling_of s stop c) ≡ head_at s at stop → SpanBehind c kind_text (head_at s at stop)
          of (Ok c) k e = sym e ∙ text_known s at c.next c.value stop k
          of (Err y) k e = absurd k

      pub long-binary_stands : b ≡ 12 → SpanBehind (count_at key_length s (at + 1) stop) kind_binary (head_at s at stop)
      long-binary_stands f = of (count_at key_length s (at + 1) stop) (known_as _ s at stop k (binary-head f)) (binary-head f)
        where
          of : (c : Result Count Refusal) → Known (binary_head at stop c) → binary_head at stop c ≡ head_at s at stop → SpanBehind c kind_binary (head_at s at stop)
          of (Ok c) k e = sym (positions.body_there at c.next c.value stop (Span kind_binary c.next c.value) (body_there at c.next c.value stop (Span kind_binary c.next c.value) k) ∙ e)
          of (Err y) k e = absurd k

    -- its end was asked
    pub constant-asked : b < 3 → LeafAsked (head_at s at stop) (at + 1)
    constant-asked low = leaf-asked s at stop (Constant (b + 1)) (at + 1) (constant_head low)

    pub small-asked : 32 ≤ b → b < 128 → LeafAsked (head_at s at stop) (at + 1)
    small-asked low high = leaf-asked s at stop (Small m) (at + 1) (small_head low high)

    pub integer-asked : (size r : ℕ) → 16 ≤ b → b < 32 → size ≡ size_at (b % 8) → r ≡ end_of (at + 1) size stop → LeafAsked (head_at s at stop) r
    integer-asked size r low high z t =
        either 24 b
        (λ (i : 24 ≤ b). let q : b % 8 ≡ b - 24 = omega arith in
        asked_as s at stop _ r (body-asked at (at + 1) (size_at (b - 24)) stop (Integer false (at + 1) (size_at (b - 24))) r (t ∙ ap (λ (n : ℕ). end_of (at + 1) n stop) (z ∙ ap size_at q))) (unsigned_head i high))
        (λ (i : b < 24). let q : b % 8 ≡ b - 16 = omega arith in
        asked_as s at stop _ r (body-asked at (at + 1) (size_at (b - 16)) stop (Integer true (at + 1) (size_at (b - 16))) r (t ∙ ap (λ (n : ℕ). end_of (at + 1) n stop) (z ∙ ap size_at q))) (signed_head low i))

  -- the length is one byte
  module _ (m : ℕ) (e : m ≡ get_or s at 0) (n : ℕ) (c : n ≡ get_or s (at + 1) 0) (few : n ≤ 247) (there : at + 2 ≤ stop) (r : ℕ) where
    count : count_at key_length s (at + 1) stop ≡ Ok (counts n (at + 2))
    count = let p : at + 1 + 1 ≡ at + 2 = omega arith in sym (length-one s (at + 1) stop n (omega arith) h c (omega arith)) ∙ ap (λ (z : ℕ). Ok (counts n z)) p

    pub short-text-asked : m ≡ 8 → LeafAsked (text_head at (spelling s (at + 2) n stop)) r → LeafAsked (head_at s at stop) r
    short-text-asked g t = asked_as s at stop _ r t (ap (λ (c : Result Count Refusal). text_head at (spelling_of s stop c)) (sym count) ∙ long-text_head m m e refl g)

    pub short-binary-asked : m ≡ 12 → r ≡ end_of (at + 2) n stop → LeafAsked (head_at s at stop) r
    short-binary-asked g t =
        asked_as s at stop _ r (body-asked at (at + 2) n stop (Span kind_binary (at + 2) n) r t) (ap (binary_head at stop) (sym count) ∙ binary-head m m e refl g)

-- ---- a key

-- a text that ends there is a key's
text_key : (at : ℕ) (x : Result Spelling Refusal) (r : ℕ) → LeafEnds (text_head at x) r → KeyEnds x r
text_key at (Ok x) r w = record { place = x.place; size = x.size; is = refl; ends = (let e : Ok (Leaf (Span kind_text x.place x.size) (x.place + x.size)) ≡ Ok (Leaf w.content r) = w.is in cc) }
text_key at (Err e) r w = absurd (let q : refuse e at ≡ Ok (Leaf w.content r) = w.is in let z : ◌≡◌ {A = ℕ} 0 1 = cc in omega arith)

pub key_asked : (s : List ℕ) (at stop n r : ℕ) → at < stop → stop ≤ length s → n ≡ get_or s at 0 → n ≤ 247
    → LeafAsked (text_head at (spelling s (at + 1) n stop)) r → KeyAsked (key_at s at stop) r
unfolding key_at
key_asked s at stop n r l h e few w =
    let is : spelling s (at + 1) n stop ≡ key_at s at stop = ap (spelling_of s stop) (length-one s at stop n l h e (omega arith)) in
    record { ends = λ z. subst (λ (x : Result Spelling Refusal). KeyEnds x r) is (text_key at (spelling s (at + 1) n stop) r (w.ends z)) }

-- ---- behind a length

-- what is no refusal has a length
module _ (s : List ℕ) (at stop : ℕ) (c : Result Count Refusal) (e : c ≡ count_at key_length s (at + 1) stop) (y : Refusal) (f : c ≡ Err y) where
  pub spelt_never : Known (text_head at (spelling_of s stop (count_at key_length s (at + 1) stop))) → ⊥
  spelt_never k = subst (λ (x : Result Count Refusal). Known (text_head at (spelling_of s stop x))) (sym e ∙ f) k

  pub bodied_never : Known (binary_head at stop (count_at key_length s (at + 1) stop)) → ⊥
  bodied_never k = subst (λ (x : Result Count Refusal). Known (binary_head at stop x)) (sym e ∙ f) k

module _ (s : List ℕ) (at stop : ℕ) (c : Result Count Refusal) (e : c ≡ count_at key_length s (at + 1) stop) (r : Count) (f : c ≡ Ok r) where
  counts_at : CountAt (at + 1) stop r.value r.next
  counts_at = subst (Counted (at + 1) stop) (sym e ∙ f) (counted key_length s (at + 1) stop)

  pub next_low : stop ≤ length s → length s ≤ limit → r.next ≤ limit
  next_low h l = omega (arith, counts_at.within)

  pub count_low : r.value ≤ limit
  count_low = counts_at.few

  pub long_stands : (kind : ℕ) (h : Result Head Refused) → SpanBehind (count_at key_length s (at + 1) stop) kind h → h ≡ Ok (Leaf (Span kind r.next r.value) (r.next + r.value))
  long_stands kind h k = subst (λ (x : Result Count Refusal). SpanBehind x kind h) (sym e ∙ f) k
