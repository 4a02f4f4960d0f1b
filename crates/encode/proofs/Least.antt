-- Nothing that reads as a tree is shorter than its bytes. By induction on the levels left. Assumes nothing.
use Rattle.std.specs.Prelude.{Result, Ok, Err}
use mathlib.Core.Path.{◌≡◌, refl, sym, ap, ◌∙◌, subst}
use Prim.Native.Nat.{ℕ, zero, suc, ◌+◌, ◌-◌, ◌^◌, ◌≤◌, ◌<◌}
use native.Mathlib.Omega.{arith}
use mathlib.Core.Bool.{Bool, true, false, cond}
use mathlib.Core.List.{List, [], ◌∷◌, ◌++◌, append-nil}
use lib.ListN.{length, get_or, take, drop, length-append, length-take, length-drop}
use lib.Dec.{ltb, leb, eqb}
use lib.Seq.{length-take-le}
use borrow.Author.Tests.{ltb-true, ltb-false}
use Rattle.wide.specs.declared.wide.Wide.{Wide}
use Rattle.wide.specs.Words.{wide_end as wordsWhole, value_of, words, wide_of}
use Rattle.wide.specs.Number.{number}
use Rattle.wide.specs.Body.{size_at, body_value, rank}
use Rattle.wide.specs.Family.{behind, Family, Coded, is, short, other, coded, has_number, number_of, form}
use Rattle.wide.specs.Members.{integer_signed, integer_unsigned, integer, text_length, binary_length, array_count, record_count, map_count, key_length, reference_number, declaration_count, foreign_length}
use Rattle.wide.proofs.Families.{cond-case, Sound, Reads, reads, direct-form, body-form}
use Rattle.wide.proofs.Ranks.{bool_case, reach, Kept, body_held, rank_lt, rank_least, rank_holds, size_mono}
use Rattle.wide.proofs.Numbers.{Bytes, bytes_take, bytes_drop, length-bytes_of}
use Rattle.wide.proofs.Nearness.{behind_up, behind_zero}
use Rattle.wide.proofs.Wides.{value_wide}
use Rattle.wide.proofs.Sound.{sound_variable, sound_integers, sound_headers}
use Rattle.rows.specs.Table.{Own, limit}
use Rattle.format.specs.declared.refused.Refused.{Refused}
use Rattle.format.specs.declared.head.Count.{Count}
use Rattle.format.specs.declared.refusal.Refusal.TheVariants as why
use Rattle.format.specs.Head.{counts, refuse, between, count_of, count_at, Marker, constant, float, text, array, entries, map, binary, special, nothing, signed_body, unsigned_body, small, char, reference, marker_of, bodied, spelled, spelling_of, codepoint, char_body, float_size, with_count, text_head, declare_head, foreign_head, second_head, head_by, head_at, key_at}
use native.Mathlib.Nat.{min-le_left}
use Rattle.std.specs.Prelude.{Ok, Err}
use Rattle.text.specs.Check.{Text, text_of}
use Rattle.rows.specs.Kinds.{kind_small, kind_signed, kind_unsigned, kind_float, kind_text, kind_binary, kind_key, constant_own, span_own, holder_own, char_own, declaration_own, foreign_own, damaged_own}
use Rattle.format.specs.declared.refusal.Refusal.{Refusal}
use Rattle.format.specs.declared.head.Spelling.{Spelling}
use Rattle.format.specs.declared.head.Content.{Content}
use Rattle.format.specs.declared.head.Content.TheVariants as holds
use Rattle.format.specs.declared.head.Holder.{Holder}
use Rattle.format.specs.declared.head.Head.{Head}
use Rattle.format.specs.declared.head.Head.TheVariants as stand
use Rattle.format.specs.declared.head.Children.{Children}
use Rattle.format.specs.declared.head.Children.TheVariants.{Entries}
use Rattle.format.specs.Tree.{Tree, leaf, foreign, damaged, Trees}
use Rattle.format.specs.Value.{Reading, right, wrong, Readings, ran, broke, integer_own, leaf_own, kind_of, child_count, children_of, keyed, is_key, in_force, in_turn, child, ahead, follow, readings, holding, referred, closed, declaring, ended, whole, framed, in_foreign, step, value, document}
use Rattle.rules.specs.declared.kind.Kind.{Kind}
use Rattle.rules.specs.declared.kind.Kind.TheVariants.{Constant, Small, Signed, Unsigned, Float, Text as Spelt, Binary, Char, Damaged, Key}
use Rattle.rules.specs.Shape.{named}
use Rattle.rules.proofs.Read.{marker_has, small-words, small_both}
use Rattle.wide.proofs.Runs.{number_has}
use Rattle.encode.specs.Encode.{holder_count, head_for, head_of, has_bytes, payload_of, encode, encodes}
use Rattle.format.proofs.Heads.{IntegerAt, Payload, floating, written, plain, ContentAt, Stood, head_stood}
use Rattle.format.proofs.Values.{ReadAt, value_read, document-value, document-next}
use Rattle.encode.proofs.Fronts.{no_alone, limit-whole}
use Rattle.encode.proofs.Places.{damaged-named}
use Rattle.encode.proofs.Again.{reference_head, holder-head, declaration_head, foreign-head}
use Rattle.format.specs.Refusal.{refusal_number}

-- ---- a length, count or number

count-of : (F : Family) → Sound F → (s : List ℕ) → Bytes s → (at n next : ℕ) (c : Coded) → coded F s ≡ c → count_of at c ≡ Ok (counts n next) → at + length (form F n) ≤ next
count-of F good s b at n next (is m used) e q = go (leb m limit) q
  where
    go : (t : Bool) → cond t (Ok (counts m (at + used))) (Err why.Huge) ≡ Ok (counts n next) → at + length (form F n) ≤ next
    go true r =
        let z : counts m (at + used) ≡ counts n next = cc in
        let i : m ≡ n = ap (λ (x : Count). x.value) z in
        let j : at + used ≡ next = ap (λ (x : Count). x.next) z in
        let k : Reads F s m used = reads F good s m used b e in
        omega (arith, k.least, ap (λ (x : ℕ). length (form F x)) i)
    go false r = absurd (let z : ◌≡◌ {A = ℕ} 0 1 = cc in omega arith)
count-of F good s b at n next short e q = absurd (let z : ◌≡◌ {A = ℕ} 0 1 = cc in omega arith)
count-of F good s b at n next other e q = absurd (let z : ◌≡◌ {A = ℕ} 0 1 = cc in omega arith)

-- what says n has at least the bytes of its form
pub count_least : (F : Family) → Sound F → (s : List ℕ) → Bytes s → (at stop n next : ℕ) → count_at F s at stop ≡ Ok (counts n next) → at + length (form F n) ≤ next
unfolding count_at
count_least F good s b at stop n next e =
    count-of F good (between s at stop) (bytes_take (stop - at) (drop at s) (bytes_drop at s b)) at n next (coded F (between s at stop)) refl e

-- ---- the length of a form does not fall

form-length : (n : ℕ) → has_number foreign_length.direct n ≡ false → length (form foreign_length n) ≡ 3 + size_at (rank false n)
form-length n e =
    let q = no_alone foreign_length sound_headers.foreign n refl ∙ ap (λ (l : List ℕ). 0x0d ∷ 0x00 ∷ l) (body-form foreign_length sound_headers.foreign n e) in
    ap length q ∙ omega (arith, length-bytes_of (size_at (rank false n)) n)

form-direct : (n : ℕ) → has_number foreign_length.direct n ≡ true → length (form foreign_length n) ≡ 3
form-direct n e = ap length (no_alone foreign_length sound_headers.foreign n refl ∙ ap (λ (l : List ℕ). 0x0d ∷ 0x00 ∷ l) (direct-form foreign_length sound_headers.foreign n e))

pub foreign_mono : (m n : ℕ) → m ≤ n → n ≤ limit → length (form foreign_length m) ≤ length (form foreign_length n)
foreign_mono m n h l =
    bool_case (has_number foreign_length.direct m)
    (λ a. bool_case (has_number foreign_length.direct n)
    (λ b. omega (arith, form-direct m a, form-direct n b))
    (λ b. omega (arith, form-direct m a, form-length n b)))
    (λ a. bool_case (has_number foreign_length.direct n)
    (λ b. absurd (direct-below m n h l a b))
    (λ b.
    let r : rank false m ≤ rank false n = rank_least false m (limit-whole m (omega arith)) (rank false n) (rank_lt false n (limit-whole n l)) (reach_less m n h (rank_holds false n (limit-whole n l))) in
    omega (arith, form-length m a, form-length n b, size_mono (rank false m) (rank false n) (rank_lt false n (limit-whole n l)) r)))
  where
    direct-below : (m n : ℕ) → m ≤ n → n ≤ limit → has_number foreign_length.direct m ≡ false → has_number foreign_length.direct n ≡ true → ⊥
    direct-below m n h l a b =
        let p : behind wordsWhole 0 m ≡ m + 0 = sym (behind_zero m) ∙ behind_up 0 m (omega arith) (omega (arith, limit-whole m (omega arith))) in
        let q : behind wordsWhole 0 n ≡ n + 0 = sym (behind_zero n) ∙ behind_up 0 n (omega arith) (omega (arith, limit-whole n l)) in
        omega (arith, p, q, ltb-false (behind wordsWhole 0 m) 248 a, ltb-true (behind wordsWhole 0 n) 248 b)

    reach_less : (m n : ℕ) → m ≤ n → {x : ℕ} → reach false n < x → reach false m < x
    reach_less m n h e = omega arith

-- ---- what stands before a head's place

-- of a text and a binary: the form of its length; the others have no length
abbrev LeastContent : ℕ → Content → Type 0
LeastContent at (holds.Constant kind) = Unit {0}
LeastContent at (holds.Small marker) = Unit {0}
LeastContent at (holds.Integer sign place n) = Unit {0}
LeastContent at (holds.Span kind place n) = (kind ≡ kind_text → at + length (form text_length n) ≤ place) × (kind ≡ kind_binary → at + length (form binary_length n) ≤ place)
LeastContent at (holds.Char c) = Unit {0}

abbrev LeastHead : ℕ → Result Head Refused → Type 0
LeastHead at (Ok (stand.Leaf c next)) = LeastContent at c
LeastHead at (Ok (stand.Hold h n next)) = at + length (form (holder_count h) n) ≤ next
LeastHead at (Ok (stand.Refer n next)) = at + length (form reference_number n) ≤ next
LeastHead at (Ok (stand.Declare n next)) = at + length (form declaration_count n) ≤ next
LeastHead at (Ok (stand.Foreign place n)) = at + length (form foreign_length n) ≤ place
LeastHead at (Err w) = Unit {0}

bodied_least : (at : ℕ) (c : Content) (place n stop : ℕ) → LeastContent at c → LeastHead at (bodied at c place n stop)
bodied_least at c place n stop h = cond-case (LeastHead at) (leb n (stop - place)) (Ok (stand.Leaf c (place + n))) (refuse why.Short at) (λ _. h) (λ _. tt)

-- the bytes of a text or of a key stand behind the form of its length
abbrev LeastSpelling : Family → ℕ → Result Spelling Refusal → Type 0
LeastSpelling F at (Ok x) = at + length (form F x.size) ≤ x.place
LeastSpelling F at (Err e) = Unit {0}

module _ (s : List ℕ) (b : Bytes s) (at stop : ℕ) where
  -- behind a number of a family
  with_least : (F : Family) → Sound F → (rest : ℕ → ℕ → Result Head Refused) → ((n next : ℕ) → at + length (form F n) ≤ next → LeastHead at (rest n next)) → LeastHead at (with_count at (count_at F s at stop) rest)
  with_least F good rest f = of (count_at F s at stop) refl
    where
      of : (c : Result Count Refusal) → count_at F s at stop ≡ c → LeastHead at (with_count at c rest)
      of (Ok c) e = f c.value c.next (count_least F good s b at stop c.value c.next e)
      of (Err e) q = tt

  spelling_least : (F : Family) → Sound F → LeastSpelling F at (spelling_of s stop (count_at F s at stop))
  spelling_least F good = of (count_at F s at stop) refl
    where
      told : (t : Text) (n place : ℕ) → at + length (form F n) ≤ place → LeastSpelling F at (spelled place n t)
      told (Ok u) n place h = h
      told (Err i) n place h = tt

      of : (c : Result Count Refusal) → count_at F s at stop ≡ c → LeastSpelling F at (spelling_of s stop c)
      of (Ok c) e =
          cond-case (LeastSpelling F at) (leb c.value (stop - c.next)) (spelled c.next c.value (text_of (take c.value (drop c.next s)))) (Err why.Short)
          (λ _. told (text_of (take c.value (drop c.next s))) c.value c.next (count_least F good s b at stop c.value c.next e)) (λ _. tt)
      of (Err y) e = tt

  text_least : (x : Result Spelling Refusal) → LeastSpelling text_length at x → LeastHead at (text_head at x)
  text_least (Ok x) h = ((λ _. h), (λ e. absurd (omega (arith, e))))
  text_least (Err e) h = tt

  second_least : (c : ℕ) → LeastHead at (second_head s at stop c)
  second_least c =
      cond-case (LeastHead at) (eqb c 0x0d) (declare_head at (count_at declaration_count s at stop)) _
      (λ _. with_least declaration_count sound_headers.declaration _ (λ n next h. cond-case (LeastHead at) (eqb n 0) (refuse why.Empty at) (Ok (stand.Declare n next)) (λ _. tt) (λ _. h)))
      (λ _. cond-case (LeastHead at) (eqb c 0x00) (foreign_head at stop (count_at foreign_length s at stop)) (refuse why.Marker at)
      (λ _. with_least foreign_length sound_headers.foreign _ (λ n place h. cond-case (LeastHead at) (leb n (stop - place)) (Ok (stand.Foreign place n)) (refuse why.Short at) (λ _. h) (λ _. tt)))
      (λ _. tt))

  stands_least : (c : ℕ) (m : Marker) → LeastHead at (head_by s at stop c m)
  unfolding head_by
  stands_least c constant = tt
  stands_least c small = tt
  stands_least c signed_body = bodied_least at (holds.Integer true (at + 1) (size_at (c - 0x10))) (at + 1) (size_at (c - 0x10)) stop tt
  stands_least c unsigned_body = bodied_least at (holds.Integer false (at + 1) (size_at (c - 0x18))) (at + 1) (size_at (c - 0x18)) stop tt
  stands_least c float = bodied_least at (holds.Span kind_float (at + 1) (float_size c)) (at + 1) (float_size c) stop ((λ e. absurd (omega (arith, e))), (λ e. absurd (omega (arith, e))))
  stands_least c text = text_least (spelling_of s stop (count_at text_length s at stop)) (spelling_least text_length sound_headers.text)
  stands_least c binary = with_least binary_length sound_headers.binary _ (λ n place h. bodied_least at (holds.Span kind_binary place n) place n stop ((λ e. absurd (omega (arith, e))), (λ _. h)))
  stands_least c char =
      cond-case (LeastHead at) (leb 3 (stop - (at + 1))) (char_body at (number (take 3 (drop (at + 1) s)))) (refuse why.Short at)
      (λ _. cond-case (LeastHead at) (codepoint (number (take 3 (drop (at + 1) s)))) (Ok (stand.Leaf (holds.Char (number (take 3 (drop (at + 1) s)))) (at + 4))) (refuse why.Char at) (λ _. tt) (λ _. tt)) (λ _. tt)
  stands_least c array = with_least array_count sound_headers.array _ (λ n next h. h)
  stands_least c entries = with_least record_count sound_headers.entries _ (λ n next h. h)
  stands_least c map = with_least map_count sound_headers.map _ (λ n next h. h)
  stands_least c reference = with_least reference_number sound_headers.reference _ (λ n next h. h)
  stands_least c special =
      cond-case (LeastHead at) (ltb (at + 1) stop) (second_head s at stop (get_or s (at + 1) 0)) (refuse why.Short at) (λ _. second_least (get_or s (at + 1) 0)) (λ _. tt)
  stands_least c nothing = tt

  head_least : LeastHead at (head_at s at stop)
  unfolding head_at
  head_least = cond-case (LeastHead at) (ltb at stop) (head_by s at stop (get_or s at 0) (marker_of (get_or s at 0))) (refuse why.Short at) (λ _. stands_least (get_or s at 0) (marker_of (get_or s at 0))) (λ _. tt)

-- ---- a leaf

part-short : (s : List ℕ) (place n : ℕ) → length (take n (drop place s)) ≤ n
part-short s place n = omega (arith, length-take n (drop place s), min-le_left n (length (drop place s)))

-- a leaf with a payload of n bytes
span_least : (s : List ℕ) (o : Own) (at : ℕ) (K : Kind) → named o ≡ K → has_bytes K ≡ true → at + length (head_for o 0 K) ≤ o.w0 → at + length (head_of o 0 ++ payload_of s o) ≤ o.w0 + o.w1
span_least s o at K e h l =
    subst (λ (J : Kind). at + length (head_for o 0 J ++ cond (has_bytes J) (take o.w1 (drop o.w0 s)) []) ≤ o.w0 + o.w1) (sym e)
    (rw h (omega (arith, l, length-append (head_for o 0 K) (take o.w1 (drop o.w0 s)), part-short s o.w0 o.w1)))

-- one without
plain_least : (s : List ℕ) (o : Own) (at next : ℕ) (K : Kind) → named o ≡ K → has_bytes K ≡ false → at + length (head_for o 0 K) ≤ next → at + length (head_of o 0 ++ payload_of s o) ≤ next
plain_least s o at next K e h l =
    subst (λ (J : Kind). at + length (head_for o 0 J ++ cond (has_bytes J) (take o.w1 (drop o.w0 s)) []) ≤ next) (sym e)
    (rw h (omega (arith, l, ap length (append-nil (head_for o 0 K)))))

constant-named : (kind : ℕ) → 1 ≤ kind → kind ≤ 3 → named (constant_own kind) ≡ Constant
unfolding named
constant-named zero l h = absurd (omega arith)
constant-named (suc zero) l h = refl
constant-named (suc (suc zero)) l h = refl
constant-named (suc (suc (suc zero))) l h = refl
constant-named (suc (suc (suc (suc k)))) l h = absurd (omega arith)

-- a number in -31..64 takes a byte
small-length : (n : ℕ) → has_number integer_signed.direct n ≡ true → length (form integer_signed n) ≡ 1
small-length n e = ap length (no_alone integer_signed sound_integers.signed n refl ∙ direct-form integer_signed sound_integers.signed n e)

body-form-length : (sign : Bool) (n : ℕ) → has_number (integer sign).direct n ≡ false → length (form (integer sign) n) ≡ 1 + size_at (rank sign n)
body-form-length true n e =
    ap length (no_alone integer_signed sound_integers.signed n refl ∙ body-form integer_signed sound_integers.signed n e) ∙ omega (arith, length-bytes_of (size_at (rank true n)) n)
body-form-length false n e =
    ap length (no_alone integer_unsigned sound_integers.unsigned n refl ∙ body-form integer_unsigned sound_integers.unsigned n e) ∙ omega (arith, length-bytes_of (size_at (rank false n)) n)

-- another no more than a body that holds it
body-length : (sign : Bool) (n z j : ℕ) → n < wordsWhole → has_number (integer sign).direct n ≡ false → z ≡ size_at j → j < 8 → reach sign n < 256 ^ z → length (form (integer sign) n) ≤ 1 + z
body-length sign n z j low e sized l h =
    let r : rank sign n ≤ j = rank_least sign n low j l (subst (λ (x : ℕ). reach sign n < 256 ^ x) sized h) in
    omega (arith, body-form-length sign n e, size_mono (rank sign n) j l r)

-- a body's number is as near as its size says
body_read : (s : List ℕ) → Bytes s → (at next place n : ℕ) (sign : Bool) → IntegerAt at next place n → next ≤ length s → Kept sign n (body_value sign (take n (drop place s)))
body_read s b at next place n sign w u =
    let l : length (take n (drop place s)) ≡ n = length-take-le n (drop place s) (omega (arith, length-drop place s, w.ends)) in
    subst (λ (z : ℕ). Kept sign z (body_value sign (take n (drop place s)))) l (body_held sign (take n (drop place s)) (bytes_take n (drop place s) (bytes_drop place s b)) (omega (arith, l, w.few)))

integer_least : (s : List ℕ) → Bytes s → (at next place n : ℕ) (sign : Bool) → IntegerAt at next place n → next ≤ length s → at + length (encode s (leaf (leaf_own s (holds.Integer sign place n)))) ≤ next
unfolding leaf_own encode head_for named
integer_least s b at next place n true w u =
    let M : ℕ = body_value true (take n (drop place s)) in
    let x : Wide = wide_of M in
    let k = body_read s b at next place n true w u in
    let q : value_of (words x.w0 x.w1 x.w2 x.w3) ≡ M = value_wide M k.small in
    bool_case (has_number integer_signed.direct M)
    (λ e. rw e (plain_least s (integer_own kind_small x) at next Small refl refl (rw q (omega (arith, w.begins, w.ends, w.some, small-length M e)))))
    (λ e. rw e (plain_least s (integer_own kind_signed x) at next Signed refl refl (rw q (omega (arith, w.begins, w.ends, body-length true M n w.rank k.small e w.sized w.ranked k.near)))))
integer_least s b at next place n false w u =
    let M : ℕ = body_value false (take n (drop place s)) in
    let x : Wide = wide_of M in
    let k = body_read s b at next place n false w u in
    let q : value_of (words x.w0 x.w1 x.w2 x.w3) ≡ M = value_wide M k.small in
    bool_case (has_number integer_unsigned.direct M)
    (λ e. rw e (plain_least s (integer_own kind_small x) at next Small refl refl (rw q (omega (arith, w.begins, w.ends, w.some, small-length M (small_both M k.small e))))))
    (λ e. rw e (plain_least s (integer_own kind_unsigned x) at next Unsigned refl refl (rw q (omega (arith, w.begins, w.ends, body-length false M n w.rank k.small e w.sized w.ranked k.near)))))

payload_least : (s : List ℕ) (at next kind place n : ℕ) → at < place → place + n ≡ next → LeastContent at (holds.Span kind place n) → Payload s kind place n → at + length (encode s (leaf (span_own kind place n))) ≤ next
unfolding encode head_for named
payload_least s at next kind place n h e l (floating x a b k z) = subst (λ (y : ℕ). at + length (encode s (leaf (span_own kind place n))) ≤ y) e (span_least s (span_own kind place n) at Float (rw k) refl (omega arith))
payload_least s at next kind place n h e l (written k z) = subst (λ (y : ℕ). at + length (encode s (leaf (span_own kind place n))) ≤ y) e (span_least s (span_own kind place n) at Spelt (rw k) refl (l.0 k))
payload_least s at next kind place n h e l (plain k) = subst (λ (y : ℕ). at + length (encode s (leaf (span_own kind place n))) ≤ y) e (span_least s (span_own kind place n) at Binary (rw k) refl (l.1 k))

content_least : (s : List ℕ) → Bytes s → (at next : ℕ) (c : Content) → ContentAt s at next c → LeastContent at c → next ≤ length s → at + length (encode s (leaf (leaf_own s c))) ≤ next
unfolding leaf_own encode head_for named
content_least s b at next (holds.Constant kind) w l u =
    plain_least s (constant_own kind) at next Constant (constant-named kind w.low w.high) refl (omega (arith, w.ends))
content_least s b at next (holds.Small marker) w l u =
    let n : ℕ = number_of integer_signed.direct marker in
    let x : Wide = wide_of n in
    let e : has_number integer_signed.direct (value_of (words x.w0 x.w1 x.w2 x.w3)) ≡ true =
    small-words kind_small n (number_has integer_signed.direct sound_integers.signed.direct-run marker ∙ marker_has marker w.low w.high) in
    plain_least s (integer_own kind_small x) at next Small refl refl (omega (arith, w.ends, small-length (value_of (words x.w0 x.w1 x.w2 x.w3)) e))
content_least s b at next (holds.Integer sign place n) w l u = integer_least s b at next place n sign w u
content_least s b at next (holds.Span kind place n) w l u = payload_least s at next kind place n w.begins w.ends l w.payload
content_least s b at next (holds.Char c) w l u = plain_least s (char_own c) at next Char refl refl (omega (arith, w.ends, length-bytes_of 3 c))

-- ---- a value position

abbrev LeastRead : List ℕ → ℕ → Reading → Type 0
LeastRead s at (right t next) = at + length (encode s t) ≤ next
LeastRead s at (wrong e place) = Unit {0}

abbrev LeastRun : List ℕ → ℕ → Readings → Type 0
LeastRun s at (ran ts next) = at + length (encodes s ts) ≤ next
LeastRun s at (broke e place) = Unit {0}

key_span : (s : List ℕ) (at place n : ℕ) → at + length (form key_length n) ≤ place → at + length (encode s (leaf (span_own kind_key place n))) ≤ place + n
unfolding encode head_for named
key_span s at place n h = span_least s (span_own kind_key place n) at Key refl refl h

-- a key
key_least : (s : List ℕ) → Bytes s → (at stop : ℕ) → LeastRead s at (keyed at (key_at s at stop))
unfolding key_at
key_least s b at stop = of (spelling_of s stop (count_at key_length s at stop)) (spelling_least s b at stop key_length (sound_variable false))
  where
    of : (x : Result Spelling Refusal) → LeastSpelling key_length at x → LeastRead s at (keyed at x)
    of (Ok x) h = key_span s at x.place x.size h
    of (Err e) h = tt

-- a damaged body
damaged_least : (s : List ℕ) (at place n : ℕ) (e : Refusal) → at + length (form foreign_length n) ≤ place → at + length (encode s (damaged (damaged_own place n (refusal_number e)))) ≤ place + n
unfolding encode head_for
damaged_least s at place n e l = span_least s (damaged_own place n (refusal_number e)) at Damaged (damaged-named place n e) refl l

module _ (s : List ℕ) (b : Bytes s) (few : length s ≤ limit) (d : ℕ) (good : (k at stop : ℕ) → stop ≤ length s → LeastRead s at (value d s k at stop)) where
  turn_least : (c : Bool) (k at stop : ℕ) → stop ≤ length s → LeastRead s at (in_turn c (value d s) s k at stop)
  turn_least true k at stop l = key_least s b at stop
  turn_least false k at stop l = good k at stop l

  child_least : (c : Children) (k i at stop : ℕ) → stop ≤ length s → LeastRead s at (child c (value d s) s k i at stop)
  unfolding child
  child_least c k i at stop l = turn_least (is_key c i) (in_force c k i) at stop l

  ahead_least : (at m : ℕ) (t : Tree) (q : Readings) → at + length (encode s t) ≤ m → LeastRun s m q → LeastRun s at (ahead t q)
  unfolding encode
  ahead_least at m t (ran ts next) h g = omega (arith, h, g, length-append (encode s t) (encodes s ts))
  ahead_least at m t (broke e p) h g = tt

  follow_least : (at : ℕ) (x : Reading) → LeastRead s at x → (rest : ℕ → Readings) → ((m : ℕ) → LeastRun s m (rest m)) → LeastRun s at (follow x rest)
  follow_least at (right t m) h rest f = ahead_least at m t (rest m) h (f m)
  follow_least at (wrong e p) h rest f = tt

  run_least : (c : Children) (k i n at stop : ℕ) → stop ≤ length s → LeastRun s at (readings (value d s) c s k i n at stop)
  unfolding readings encode
  run_least c k i zero at stop l = omega arith
  run_least c k i (suc n) at stop l = follow_least at (child c (value d s) s k i at stop) (child_least c k i at stop l) _ (λ m. run_least c k (i + 1) n m stop l)

  held_least : (h : Holder) (at n next : ℕ) (q : Readings) → at + length (form (holder_count h) n) ≤ next → LeastRun s next q → LeastRead s at (holding (holder_own (kind_of h) n) q)
  unfolding encode
  held_least h at n next (ran ts m) l g =
      let L : ℕ = length (encodes s ts) in
      omega (arith, l, g, length-append (head_of (holder_own (kind_of h) n) L) (encodes s ts), ap length (holder-head h n L))
  held_least h at n next (broke e p) l g = tt

  closed_least : (at n next m : ℕ) (es : Trees) (x : Reading) → at + length (form declaration_count n) ≤ next → next + length (encodes s es) ≤ m → LeastRead s m x → LeastRead s at (closed n es x)
  unfolding encode
  closed_least at n next m es (right t z) l g h =
      let Y : List ℕ = encodes s es ++ encode s t in
      omega (arith, l, g, h, length-append (head_of (declaration_own n) (length Y)) Y, length-append (encodes s es) (encode s t), ap length (declaration_head n (length Y)))
  closed_least at n next m es (wrong e p) l g h = tt

  declaring_least : (at n next stop : ℕ) (q : Readings) → at + length (form declaration_count n) ≤ next → LeastRun s next q → stop ≤ length s → LeastRead s at (declaring n q (value d s) stop)
  declaring_least at n next stop (ran es m) l g h = closed_least at n next m es (value d s n m stop) l g (good n m stop h)
  declaring_least at n next stop (broke e p) l g h = tt

  body_least : (at place n m : ℕ) (t : Tree) → at + length (form foreign_length n) ≤ place → n ≤ limit → place + length (encode s t) ≤ m → m ≤ place + n
      → at + length (encode s (foreign foreign_own t)) ≤ place + n
  unfolding encode
  body_least at place n m t l u g r =
      let L : ℕ = length (encode s t) in
      omega (arith, l, g, length-append (head_of foreign_own L) (encode s t), ap length (foreign-head L), foreign_mono L n (omega arith) u)

  framed_least : (at place n : ℕ) → at + length (form foreign_length n) ≤ place → n ≤ limit → (x : Reading) → LeastRead s place x → ReadAt place (place + n) x
      → LeastRead s at (framed place n (whole (place + n) x))
  framed_least at place n l u (right t m) g r = go (eqb m (place + n))
    where
      go : (c : Bool) → LeastRead s at (framed place n (ended c t m))
      go true = body_least at place n m t l u g r.within
      go false = damaged_least s at place n why.Extra l
  framed_least at place n l u (wrong e p) g r = damaged_least s at place n e l

  step_least : (k at stop : ℕ) → stop ≤ length s → (h : Result Head Refused) → Stood s at stop h → LeastHead at h → LeastRead s at (step (value d s) s k at stop h)
  unfolding step encode
  step_least k at stop l (Ok (stand.Leaf c next)) w g = content_least s b at next (c) w.content g (omega (arith, w.within))
  step_least k at stop l (Ok (stand.Hold h n next)) w g = held_least h at n next (readings (value d s) (children_of h) s k 0 (child_count h n) next stop) g (run_least (children_of h) k 0 (child_count h n) next stop l)
  step_least k at stop l (Ok (stand.Refer n next)) w g = go (ltb n k)
    where
      go : (c : Bool) → LeastRead s at (referred c n at next)
      go true = omega (arith, g, ap length (reference_head n 0 0))
      go false = tt
  step_least k at stop l (Ok (stand.Declare n next)) w g = declaring_least at n next stop (readings (value d s) Entries s 0 0 n next stop) g (run_least Entries 0 0 n next stop l) l
  step_least k at stop l (Ok (stand.Foreign place n)) w g =
      framed_least at place n g w.few (value d s (in_foreign k) place (place + n)) (good (in_foreign k) place (place + n) (omega (arith, w.within))) (value_read d s (in_foreign k) place (place + n))
  step_least k at stop l (Err x) w g = tt

pub value_least : (s : List ℕ) → Bytes s → length s ≤ limit → (d k at stop : ℕ) → stop ≤ length s → LeastRead s at (value d s k at stop)
unfolding value
value_least s b few zero k at stop l = tt
value_least s b few (suc d) k at stop l = step_least s b few d (λ k at stop l. value_least s b few d k at stop l) k at stop l (head_at s at stop) (head_stood s at stop) (head_least s b at stop)

-- ---- documents

-- a document has at least the bytes of its tree
pub document_least : (depth : ℕ) (s : List ℕ) → Bytes s → length s ≤ limit → (t : Tree) (next : ℕ) → document depth s ≡ right t next → length (encode s t) ≤ length s
document_least depth s b few t next e =
    let q = subst (LeastRead s 0) (document-value depth s t next e) (value_least s b few (suc depth) 0 0 (length s) (omega arith)) in
    omega (arith, q, document-next depth s t next e)
