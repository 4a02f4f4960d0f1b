-- Reading goes by the bytes, the entries in force and the levels left: the same bytes elsewhere, with as many of both, read as the same tree with
-- its places as far on, or are refused for the same reason as far on. By induction on the levels left. Assumes nothing.
use Rattle.std.specs.Prelude.{Result, Ok, Err}
use mathlib.Core.Path.{◌≡◌, refl, sym, ap, ap₂, ◌∙◌}
use Prim.Native.Nat.{ℕ, zero, suc, ◌+◌, ◌-◌, ◌≤◌, ◌<◌}
use native.Mathlib.Omega.{arith}
use native.Mathlib.Nat.{add-zero, add_assoc}
use mathlib.Core.Bool.{Bool, true, false, cond}
use mathlib.Core.List.{List, [], ◌∷◌}
use lib.ListN.{get_or, take, drop}
use lib.Dec.{ltb, leb, eqb}
use lib.Seq.{drop-drop, take-take, get_or-take, get_or-drop}
use Rattle.wide.specs.Words.{wide_of}
use Rattle.wide.specs.Number.{number}
use Rattle.wide.specs.Body.{size_at, body_value}
use Rattle.wide.specs.Family.{Family, Coded, is, short, other, coded, has_number}
use Rattle.wide.specs.Members.{text_length, binary_length, array_count, record_count, map_count, key_length, reference_number, declaration_count, foreign_length, integer}
use Rattle.wide.proofs.Ranks.{bool_case}
use borrow.Author.Tests.{leb-true, ltb-true, ltb-false, lt-ltb, le-ltb, eqb-true, eqb-false, eq-eqb, ne_eqb}
use Rattle.std.specs.Prelude.{Ok, Err}
use Rattle.text.specs.Check.{Text, text_of}
use Rattle.rows.specs.Table.{limit, Own}
use Rattle.rows.specs.Kinds.{kind_float, kind_text, kind_binary, kind_key, constant_own, span_own, holder_own, foreign_own, damaged_own}
use Rattle.format.specs.declared.refused.Refused.{Refused}
use Rattle.format.specs.declared.refusal.Refusal.{Refusal}
use Rattle.format.specs.declared.refusal.Refusal.TheVariants as why
use Rattle.format.specs.declared.head.Count.{Count}
use Rattle.format.specs.declared.head.Spelling.{Spelling}
use Rattle.format.specs.declared.head.Content.{Content}
use Rattle.format.specs.declared.head.Content.TheVariants as holds
use Rattle.format.specs.declared.head.Head.{Head}
use Rattle.format.specs.declared.head.Head.TheVariants.{Leaf, Hold, Refer, Declare, Foreign}
use Rattle.format.specs.declared.head.Children.{Children}
use Rattle.format.specs.declared.head.Children.TheVariants.{Entries}
use Rattle.format.specs.Refusal.{refusal_number}
use Rattle.format.specs.Head.{counts, spells, refuse, Marker, constant, float, text, array, entries, map, binary, special, nothing, signed_body, unsigned_body, small, char, reference, marker_of, count_of, count_at, bodied, spelled, spelling, spelling_of, text_head, codepoint, char_body, char_head, float_size, with_count, declare_head, foreign_head, second_head, special_head, head_by, head_at, key_at}
use Rattle.format.specs.Tree.{Tree, Trees, leaf, foreign, damaged}
use Rattle.format.specs.Value.{Reading, right, wrong, Readings, ran, broke, Reader, integer_own, integer_kind, leaf_own, kind_of, child_count, children_of, keyed, is_key, in_force, in_turn, child, ahead, follow, readings, holding, referred, closed, declaring, whole, framed, in_foreign, step, value}
use Rattle.format.proofs.Heads.{Counted, counted, Payload, floating, written, plain, ContentAt, Stood, head_stood}
use Rattle.format.proofs.Values.{ReadAt, values_child}
use Rattle.rules.specs.declared.kind.Kind.{Kind}
use Rattle.rules.specs.Shape.{named}
use Rattle.encode.specs.Encode.{has_bytes}
use Rattle.encode.proofs.Places.{moved_if, damaged-named}
use Rattle.encode.specs.Further.{own_further, tree_further, trees_further, reading_further}

-- ---- parts of a list

take_part : (a b n : ℕ) (l : List ℕ) → b + a ≤ n → take a (drop b (take n l)) ≡ take a (drop b l)
take_part a zero n l h = take-take a n l (omega arith)
take_part a (suc b) zero l h = absurd (omega arith)
take_part a (suc b) (suc n) [] h = refl
take_part a (suc b) (suc n) (x ∷ l) h = take_part a b n l (omega arith)

-- ---- the parts of a reading, `by` further on

abbrev count_further : ℕ → Result Count Refusal → Result Count Refusal
count_further by (Ok c) = Ok (counts c.value (by + c.next))
count_further by (Err e) = Err e

abbrev spelling_further : ℕ → Result Spelling Refusal → Result Spelling Refusal
spelling_further by (Ok x) = Ok (spells (by + x.place) x.size)
spelling_further by (Err e) = Err e

abbrev content_further : ℕ → Content → Content
content_further by (holds.Constant kind) = holds.Constant kind
content_further by (holds.Small marker) = holds.Small marker
content_further by (holds.Integer signed place m) = holds.Integer signed (by + place) m
content_further by (holds.Span kind place m) = holds.Span kind (by + place) m
content_further by (holds.Char c) = holds.Char c

abbrev head_further : ℕ → Result Head Refused → Result Head Refused
head_further by (Ok (Leaf c next)) = Ok (Leaf (content_further by c) (by + next))
head_further by (Ok (Hold h m next)) = Ok (Hold h m (by + next))
head_further by (Ok (Refer m next)) = Ok (Refer m (by + next))
head_further by (Ok (Declare m next)) = Ok (Declare m (by + next))
head_further by (Ok (Foreign place m)) = Ok (Foreign (by + place) m)
head_further by (Err w) = refuse w.why (by + w.place)

abbrev readings_further : ℕ → Readings → Readings
readings_further by (ran ts next) = ran (trees_further by ts) (by + next)
readings_further by (broke e place) = broke e (by + place)

-- ---- the bytes x stand in s from `by` on

module _ (s : List ℕ) (by n : ℕ) where
  abbrev x : List ℕ
  x = take n (drop by s)

  part_same : (a b : ℕ) → b + a ≤ n → take a (drop (by + b) s) ≡ take a (drop b x)
  part_same a b h = ap (take a) (sym (drop-drop b by s)) ∙ sym (take_part a b n (drop by s) h)

  byte_same : (b : ℕ) → b < n → get_or s (by + b) 0 ≡ get_or x b 0
  byte_same b h = sym (get_or-drop by s b 0) ∙ sym (get_or-take n (drop by s) b 0 h)

  stop_less : (stop b : ℕ) → by + stop - (by + b) ≡ stop - b
  stop_less stop b = omega arith

  -- ---- a length, count or number

  count-of : (at : ℕ) (c : Coded) → count_of (by + at) c ≡ count_further by (count_of at c)
  count-of at (is m used) = go (leb m limit)
    where
      go : (b : Bool) → cond b (Ok (counts m (by + at + used))) (Err why.Huge) ≡ count_further by (cond b (Ok (counts m (at + used))) (Err why.Huge))
      go true = ap (λ (z : ℕ). Ok (counts m z)) (add_assoc by at used)
      go false = refl
  count-of at short = refl
  count-of at other = refl

  count_same : (F : Family) (at stop : ℕ) → at ≤ stop → stop ≤ n → count_at F s (by + at) (by + stop) ≡ count_further by (count_at F x at stop)
  unfolding count_at
  count_same F at stop h l =
      ap (λ (y : List ℕ). count_of (by + at) (coded F y)) (ap (λ (k : ℕ). take k (drop (by + at) s)) (stop_less stop at) ∙ part_same (stop - at) at (omega arith))
      ∙ count-of at (coded F (take (stop - at) (drop at x)))

  counted_same : (F : Family) (at stop : ℕ) → at ≤ stop → stop ≤ n → (rest rest' : ℕ → ℕ → Result Head Refused) → ((m j : ℕ) → rest m (by + j) ≡ head_further by (rest' m j))
      → with_count (by + at) (count_at F s (by + at) (by + stop)) rest ≡ head_further by (with_count at (count_at F x at stop) rest')
  counted_same F at stop h l rest rest' f = ap (λ (c : Result Count Refusal). with_count (by + at) c rest) (count_same F at stop h l) ∙ go (count_at F x at stop)
    where
      go : (c : Result Count Refusal) → with_count (by + at) (count_further by c) rest ≡ head_further by (with_count at c rest')
      go (Ok c) = f c.value c.next
      go (Err e) = refl

  -- ---- bodies

  bodied_same : (at stop : ℕ) (c : Content) (j m : ℕ) → bodied (by + at) (content_further by c) (by + j) m (by + stop) ≡ head_further by (bodied at c j m stop)
  bodied_same at stop c j m = ap (λ (k : ℕ). cond (leb m k) (Ok (Leaf (content_further by c) (by + j + m))) (refuse why.Short (by + at))) (stop_less stop j) ∙ go (leb m (stop - j))
    where
      go : (b : Bool) → cond b (Ok (Leaf (content_further by c) (by + j + m))) (refuse why.Short (by + at)) ≡ head_further by (cond b (Ok (Leaf c (j + m))) (refuse why.Short at))
      go true = ap (λ (z : ℕ). Ok (Leaf (content_further by c) z)) (add_assoc by j m)
      go false = refl

  spelling_same : (stop j m : ℕ) → j ≤ stop → stop ≤ n → spelling s (by + j) m (by + stop) ≡ spelling_further by (spelling x j m stop)
  spelling_same stop j m h l =
      ap (λ (k : ℕ). cond (leb m k) (spelled (by + j) m (text_of (take m (drop (by + j) s)))) (Err why.Short)) (stop_less stop j)
      ∙ bool_case (leb m (stop - j))
      (λ e. rw e (ap (λ (y : List ℕ). spelled (by + j) m (text_of y)) (part_same m j (omega (arith, leb-true m (stop - j) e))) ∙ go (text_of (take m (drop j x)))))
      (λ e. rw e refl)
    where
      go : (t : Text) → spelled (by + j) m t ≡ spelling_further by (spelled j m t)
      go (Ok u) = refl
      go (Err i) = refl

  spellings_same : (F : Family) (at stop : ℕ) → at ≤ stop → stop ≤ n → spelling_of s (by + stop) (count_at F s (by + at) (by + stop)) ≡ spelling_further by (spelling_of x stop (count_at F x at stop))
  spellings_same F at stop h l = ap (spelling_of s (by + stop)) (count_same F at stop h l) ∙ go (count_at F x at stop) (counted F x at stop)
    where
      go : (c : Result Count Refusal) → Counted at stop c → spelling_of s (by + stop) (count_further by c) ≡ spelling_further by (spelling_of x stop c)
      go (Ok c) k = spelling_same stop c.next c.value k.within l
      go (Err e) k = refl

  text_same : (at : ℕ) (y : Result Spelling Refusal) → text_head (by + at) (spelling_further by y) ≡ head_further by (text_head at y)
  text_same at (Ok x) = ap (λ (z : ℕ). Ok (Leaf (holds.Span kind_text (by + x.place) x.size) z)) (add_assoc by x.place x.size)
  text_same at (Err e) = refl

  char_same : (at stop : ℕ) → stop ≤ n → char_head s (by + at) (by + stop) ≡ head_further by (char_head x at stop)
  char_same at stop l =
      let e : by + stop - (by + at + 1) ≡ stop - (at + 1) = omega arith in
      ap (λ (k : ℕ). cond (leb 3 k) (char_body (by + at) (number (take 3 (drop (by + at + 1) s)))) (refuse why.Short (by + at))) e
      ∙ bool_case (leb 3 (stop - (at + 1)))
      (λ b. rw b (ap (λ (y : List ℕ). char_body (by + at) (number y)) (ap (λ (k : ℕ). take 3 (drop k s)) (add_assoc by at 1) ∙ part_same 3 (at + 1) (omega (arith, leb-true 3 (stop - (at + 1)) b)))
      ∙ go (codepoint (number (take 3 (drop (at + 1) x)))) (number (take 3 (drop (at + 1) x)))))
      (λ b. rw b refl)
    where
      go : (b : Bool) (c : ℕ) → cond b (Ok (Leaf (holds.Char c) (by + at + 4))) (refuse why.Char (by + at)) ≡ head_further by (cond b (Ok (Leaf (holds.Char c) (at + 4))) (refuse why.Char at))
      go true c = ap (λ (z : ℕ). Ok (Leaf (holds.Char c) z)) (add_assoc by at 4)
      go false c = refl

  foreign-body : (at stop m j : ℕ) → cond (leb m (by + stop - (by + j))) (Ok (Foreign (by + j) m)) (refuse why.Short (by + at)) ≡ head_further by (cond (leb m (stop - j)) (Ok (Foreign j m)) (refuse why.Short at))
  foreign-body at stop m j = ap (λ (k : ℕ). cond (leb m k) (Ok (Foreign (by + j) m)) (refuse why.Short (by + at))) (stop_less stop j) ∙ go (leb m (stop - j))
    where
      go : (b : Bool) → cond b (Ok (Foreign (by + j) m)) (refuse why.Short (by + at)) ≡ head_further by (cond b (Ok (Foreign j m)) (refuse why.Short at))
      go true = refl
      go false = refl

  declare-body : (at m j : ℕ) → cond (eqb m 0) (refuse why.Empty (by + at)) (Ok (Declare m (by + j))) ≡ head_further by (cond (eqb m 0) (refuse why.Empty at) (Ok (Declare m j)))
  declare-body at m j = go (eqb m 0)
    where
      go : (b : Bool) → cond b (refuse why.Empty (by + at)) (Ok (Declare m (by + j))) ≡ head_further by (cond b (refuse why.Empty at) (Ok (Declare m j)))
      go true = refl
      go false = refl

  module _ (at stop : ℕ) (h : at < stop) (l : stop ≤ n) where
    -- a body behind the marker
    body_at : (m : ℕ) (c : ℕ → Content) → c (by + (at + 1)) ≡ content_further by (c (at + 1)) → bodied (by + at) (c (by + at + 1)) (by + at + 1) m (by + stop) ≡ head_further by (bodied at (c (at + 1)) (at + 1) m stop)
    body_at m c e =
        ap (λ (p : ℕ). bodied (by + at) (c p) p m (by + stop)) (add_assoc by at 1)
        ∙ ap (λ (y : Content). bodied (by + at) y (by + (at + 1)) m (by + stop)) e ∙ bodied_same at stop (c (at + 1)) (at + 1) m

    second_same : (b : ℕ) → second_head s (by + at) (by + stop) b ≡ head_further by (second_head x at stop b)
    second_same b = go (eqb b 0x0d) (eqb b 0x00)
      where
        go : (p q : Bool)
            → cond p (declare_head (by + at) (count_at declaration_count s (by + at) (by + stop))) (cond q (foreign_head (by + at) (by + stop) (count_at foreign_length s (by + at) (by + stop))) (refuse why.Marker (by + at)))
            ≡ head_further by (cond p (declare_head at (count_at declaration_count x at stop)) (cond q (foreign_head at stop (count_at foreign_length x at stop)) (refuse why.Marker at)))
        go true q = counted_same declaration_count at stop (omega arith) l _ _ (λ m j. declare-body at m j)
        go false true = counted_same foreign_length at stop (omega arith) l _ _ (λ m j. foreign-body at stop m j)
        go false false = refl

    special_same : special_head s (by + at) (by + stop) ≡ head_further by (special_head x at stop)
    special_same =
        bool_case (ltb (at + 1) stop)
        (λ b. rw (lt-ltb (by + at + 1) (by + stop) (omega (arith, ltb-true (at + 1) stop b)), b)
        (ap (second_head s (by + at) (by + stop)) (ap (λ (k : ℕ). get_or s k 0) (add_assoc by at 1) ∙ byte_same (at + 1) (omega (arith, ltb-true (at + 1) stop b))) ∙ second_same (get_or x (at + 1) 0)))
        (λ b. rw (le-ltb (by + at + 1) (by + stop) (omega (arith, ltb-false (at + 1) stop b)), b) refl)

    stands_same : (b : ℕ) (m : Marker) → head_by s (by + at) (by + stop) b m ≡ head_further by (head_by x at stop b m)
    unfolding head_by
    stands_same b constant = ap (λ (z : ℕ). Ok (Leaf (holds.Constant (b + 1)) z)) (add_assoc by at 1)
    stands_same b small = ap (λ (z : ℕ). Ok (Leaf (holds.Small b) z)) (add_assoc by at 1)
    stands_same b signed_body = body_at (size_at (b - 0x10)) (λ p. holds.Integer true p (size_at (b - 0x10))) refl
    stands_same b unsigned_body = body_at (size_at (b - 0x18)) (λ p. holds.Integer false p (size_at (b - 0x18))) refl
    stands_same b float = body_at (float_size b) (λ p. holds.Span kind_float p (float_size b)) refl
    stands_same b text = ap (text_head (by + at)) (spellings_same text_length at stop (omega arith) l) ∙ text_same at (spelling_of x stop (count_at text_length x at stop))
    stands_same b binary = counted_same binary_length at stop (omega arith) l _ _ (λ m j. bodied_same at stop (holds.Span kind_binary j m) j m)
    stands_same b char = char_same at stop l
    stands_same b array = counted_same array_count at stop (omega arith) l _ _ (λ m j. refl)
    stands_same b entries = counted_same record_count at stop (omega arith) l _ _ (λ m j. refl)
    stands_same b map = counted_same map_count at stop (omega arith) l _ _ (λ m j. refl)
    stands_same b reference = counted_same reference_number at stop (omega arith) l _ _ (λ m j. refl)
    stands_same b special = special_same
    stands_same b nothing = refl

  head_same : (at stop : ℕ) → stop ≤ n → head_at s (by + at) (by + stop) ≡ head_further by (head_at x at stop)
  unfolding head_at
  head_same at stop l =
      bool_case (ltb at stop)
      (λ b.
      let h : at < stop = ltb-true at stop b in
      rw (lt-ltb (by + at) (by + stop) (omega arith), b)
      (ap (λ (y : ℕ). head_by s (by + at) (by + stop) y (marker_of y)) (byte_same at (omega arith)) ∙ stands_same at stop h l (get_or x at 0) (marker_of (get_or x at 0))))
      (λ b. rw (le-ltb (by + at) (by + stop) (omega (arith, ltb-false at stop b)), b) refl)

  key_same : (at stop : ℕ) → at ≤ stop → stop ≤ n → key_at s (by + at) (by + stop) ≡ spelling_further by (key_at x at stop)
  unfolding key_at
  key_same at stop h l = spellings_same key_length at stop h l

  keyed_same : (at : ℕ) (y : Result Spelling Refusal) → keyed (by + at) (spelling_further by y) ≡ reading_further by (keyed at y)
  unfolding named tree_further
  keyed_same at (Ok x) = ap (right (leaf (span_own kind_key (by + x.place) x.size))) (add_assoc by x.place x.size)
  keyed_same at (Err e) = refl

  -- ---- what a leaf says

  constant_same : (kind : ℕ) → 1 ≤ kind → kind ≤ 3 → constant_own kind ≡ own_further by (constant_own kind)
  unfolding named
  constant_same zero h l = absurd (omega arith)
  constant_same (suc zero) h l = refl
  constant_same (suc (suc zero)) h l = refl
  constant_same (suc (suc (suc zero))) h l = refl
  constant_same (suc (suc (suc (suc kind)))) h l = absurd (omega arith)

  integer_same : (signed : Bool) (v : ℕ) → integer_own (integer_kind signed v) (wide_of v) ≡ own_further by (integer_own (integer_kind signed v) (wide_of v))
  unfolding named
  integer_same true v = bool_case (has_number (integer true).direct v) (λ e. rw e refl) (λ e. rw e refl)
  integer_same false v = bool_case (has_number (integer false).direct v) (λ e. rw e refl) (λ e. rw e refl)

  span_same : (kind place m : ℕ) → Payload x kind place m → span_own kind (by + place) m ≡ own_further by (span_own kind place m)
  unfolding named
  span_same kind place m (floating b low high e f) = rw e refl
  span_same kind place m (written e f) = rw e refl
  span_same kind place m (plain e) = rw e refl

  leaf_same : (at next : ℕ) → next ≤ n → (c : Content) → ContentAt x at next c → leaf_own s (content_further by c) ≡ own_further by (leaf_own x c)
  unfolding leaf_own named
  leaf_same at next l (holds.Constant kind) k = constant_same kind k.low k.high
  leaf_same at next l (holds.Small marker) k = refl
  leaf_same at next l (holds.Integer signed place m) k =
      ap (λ (y : List ℕ). integer_own (integer_kind signed (body_value signed y)) (wide_of (body_value signed y))) (part_same m place (omega (arith, k.ends)))
      ∙ integer_same signed (body_value signed (take m (drop place x)))
  leaf_same at next l (holds.Span kind place m) k = span_same kind place m k.payload
  leaf_same at next l (holds.Char c) k = refl

-- ---- what is made of readings

module _ (by : ℕ) where
  held_further : (w : Own) (q : Readings) → holding w (readings_further by q) ≡ reading_further by (holding w q)
  unfolding tree_further
  held_further w (ran ts next) = refl
  held_further w (broke e place) = refl

  ahead_further : (t : Tree) (q : Readings) → ahead (tree_further by t) (readings_further by q) ≡ readings_further by (ahead t q)
  unfolding tree_further
  ahead_further t (ran ts next) = refl
  ahead_further t (broke e place) = refl

  closed_further : (m : ℕ) (es : Trees) (y : Reading) → closed m (trees_further by es) (reading_further by y) ≡ reading_further by (closed m es y)
  unfolding tree_further
  closed_further m es (right t next) = refl
  closed_further m es (wrong e place) = refl

  refer_further : (b : Bool) (m at next : ℕ) → referred b m (by + at) (by + next) ≡ reading_further by (referred b m at next)
  unfolding tree_further
  refer_further true m at next = refl
  refer_further false m at next = refl

  whole_further : (stop : ℕ) (y : Reading) → whole (by + stop) (reading_further by y) ≡ reading_further by (whole stop y)
  whole_further stop (right t next) =
      bool_case (eqb next stop)
      (λ e. rw (eq-eqb (by + next) (by + stop) (omega (arith, eqb-true next stop e)), e) refl)
      (λ e. rw (ne_eqb (by + next) (by + stop) (λ i. eqb-false next stop e (omega arith)), e) refl)
  whole_further stop (wrong e place) = refl

  damaged_further : (place m : ℕ) (e : Refusal) → damaged_own (by + place) m (refusal_number e) ≡ own_further by (damaged_own place m (refusal_number e))
  damaged_further place m e = sym (ap (λ (K : Kind). moved_if (has_bytes K) (damaged_own place m (refusal_number e)) (by + place)) (damaged-named place m e))

  framed_further : (place m : ℕ) (y : Reading) → framed (by + place) m (reading_further by y) ≡ reading_further by (framed place m y)
  unfolding tree_further
  framed_further place m (right t next) = ap (right (foreign foreign_own (tree_further by t))) (add_assoc by place m)
  framed_further place m (wrong e p) = ap₂ (λ (w : Own) (next : ℕ). right (damaged w) next) (damaged_further place m e) (add_assoc by place m)

  follow_further : (at stop : ℕ) (y : Reading) → ReadAt at stop y → (rest rest' : ℕ → Readings) → ((j : ℕ) → j ≤ stop → rest (by + j) ≡ readings_further by (rest' j))
      → follow (reading_further by y) rest ≡ readings_further by (follow y rest')
  follow_further at stop (right t next) g rest rest' f = ap (ahead (tree_further by t)) (f next g.within) ∙ ahead_further t (rest' next)
  follow_further at stop (wrong e place) g rest rest' f = refl

  declaring_further : (stop m : ℕ) (q : Readings) (R R' : Reader) → ((j : ℕ) → R m (by + j) (by + stop) ≡ reading_further by (R' m j stop))
      → declaring m (readings_further by q) R (by + stop) ≡ reading_further by (declaring m q R' stop)
  declaring_further stop m (ran es next) R R' f = ap (closed m (trees_further by es)) (f next) ∙ closed_further m es (R' m next stop)
  declaring_further stop m (broke e place) R R' f = refl

-- ---- one level down

module _ (s : List ℕ) (by n d : ℕ) (same : (k at stop : ℕ) → stop ≤ n → value d s k (by + at) (by + stop) ≡ reading_further by (value d (take n (drop by s)) k at stop)) where
  abbrev y : List ℕ
  y = take n (drop by s)

  turn_same : (b : Bool) (k at stop : ℕ) → at ≤ stop → stop ≤ n → in_turn b (value d s) s k (by + at) (by + stop) ≡ reading_further by (in_turn b (value d y) y k at stop)
  turn_same true k at stop h l = ap (keyed (by + at)) (key_same s by n at stop h l) ∙ keyed_same s by n at (key_at y at stop)
  turn_same false k at stop h l = same k at stop l

  child_same : (c : Children) (k i at stop : ℕ) → at ≤ stop → stop ≤ n → child c (value d s) s k i (by + at) (by + stop) ≡ reading_further by (child c (value d y) y k i at stop)
  unfolding child
  child_same c k i at stop h l = turn_same (is_key c i) (in_force c k i) at stop h l

  run_same : (c : Children) (k i m at stop : ℕ) → at ≤ stop → stop ≤ n → readings (value d s) c s k i m (by + at) (by + stop) ≡ readings_further by (readings (value d y) c y k i m at stop)
  unfolding readings tree_further
  run_same c k i zero at stop h l = refl
  run_same c k i (suc m) at stop h l =
      ap (λ (z : Reading). follow z (λ next. readings (value d s) c s k (i + 1) m next (by + stop))) (child_same c k i at stop h l)
      ∙ follow_further by at stop (child c (value d y) y k i at stop) (values_child d c y k i at stop) _ _ (λ j g. run_same c k (i + 1) m j stop g l)

  step_same : (k at stop : ℕ) → stop ≤ n → (h : Result Head Refused) → Stood y at stop h → step (value d s) s k (by + at) (by + stop) (head_further by h) ≡ reading_further by (step (value d y) y k at stop h)
  unfolding step tree_further
  step_same k at stop l (Ok (Leaf c next)) w = ap (λ (z : Own). right (leaf z) (by + next)) (leaf_same s by n at next (omega (arith, w.within)) c w.content)
  step_same k at stop l (Ok (Hold h m next)) w =
      ap (holding (holder_own (kind_of h) m)) (run_same (children_of h) k 0 (child_count h m) next stop w.within l)
      ∙ held_further by (holder_own (kind_of h) m) (readings (value d y) (children_of h) y k 0 (child_count h m) next stop)
  step_same k at stop l (Ok (Refer m next)) w = refer_further by (ltb m k) m at next
  step_same k at stop l (Ok (Declare m next)) w =
      ap (λ (q : Readings). declaring m q (value d s) (by + stop)) (run_same Entries 0 0 m next stop w.within l)
      ∙ declaring_further by stop m (readings (value d y) Entries y 0 0 m next stop) (value d s) (value d y) (λ j. same m j stop l)
  step_same k at stop l (Ok (Foreign place m)) w =
      ap (framed (by + place) m) (ap (λ (i : ℕ). whole i (value d s (in_foreign k) (by + place) i)) (add_assoc by place m)
      ∙ ap (whole (by + (place + m))) (same (in_foreign k) place (place + m) (omega (arith, w.within)))
      ∙ whole_further by (place + m) (value d y (in_foreign k) place (place + m)))
      ∙ framed_further by place m (whole (place + m) (value d y (in_foreign k) place (place + m)))
  step_same k at stop l (Err x) w = refl

-- the same bytes read alike, with k entries in force
pub value_further : (d : ℕ) (s : List ℕ) (by n k at stop : ℕ) → stop ≤ n → value d s k (by + at) (by + stop) ≡ reading_further by (value d (take n (drop by s)) k at stop)
unfolding value
value_further zero s by n k at stop l = refl
value_further (suc d) s by n k at stop l =
    ap (step (value d s) s k (by + at) (by + stop)) (head_same s by n at stop l)
    ∙ step_same s by n d (value_further d s by n) k at stop l (head_at (take n (drop by s)) at stop) (head_stood (take n (drop by s)) at stop)

-- and so all the n bytes from `by` on, and nothing behind them
pub whole_elsewhere : (d : ℕ) (s : List ℕ) (by n k : ℕ) → whole (by + n) (value d s k by (by + n)) ≡ reading_further by (whole n (value d (take n (drop by s)) k 0 n))
whole_elsewhere d s by n k =
    ap (λ (i : ℕ). whole (by + n) (value d s k i (by + n))) (sym (add-zero by))
    ∙ ap (whole (by + n)) (value_further d s by n k 0 n (omega arith)) ∙ whole_further by n (value d (take n (drop by s)) k 0 n)

-- what is refused further on is refused for the same reason
pub further_wrong : (by : ℕ) (y : Reading) (e : Refusal) (place : ℕ) → reading_further by y ≡ wrong e place → (there : ℕ) × (y ≡ wrong e there)
further_wrong by (right t next) e place z = absurd (let i : ◌≡◌ {A = ℕ} 0 1 = cc in omega arith)
further_wrong by (wrong a there) e place z = let i : a ≡ e = cc in (there, ap (λ (w : Refusal). wrong w there) i)
