-- Every tree that is read is right: a law for each kind of leaf, then by induction on the levels left. Assumes nothing.
use Rattle.std.specs.Prelude.{Result, Ok, Err}
use mathlib.Core.Path.{◌≡◌, refl, sym, ap, ◌∙◌, subst}
use Prim.Native.Nat.{ℕ, zero, suc, ◌+◌, ◌-◌, ◌≤◌, ◌<◌}
use native.Mathlib.Omega.{arith}
use native.Mathlib.Nat.{mod-lt}
use mathlib.Core.Bool.{Bool, true, false}
use mathlib.Core.List.{List}
use lib.ListN.{length, take, drop}
use lib.Dec.{ltb, eqb}
use borrow.Author.Tests.{le-leb, lt-ltb, ltb-true}
use Rattle.wide.specs.Words.{wide_end as wordsWhole, value_of, wide_of}
use Rattle.wide.specs.Body.{body_value}
use Rattle.wide.specs.Family.{behind, has_byte, number_of, has_number}
use Rattle.wide.specs.Members.{integer_signed, integer_unsigned}
use Rattle.wide.proofs.Ranks.{bool_case}
use Rattle.wide.proofs.Runs.{number_has, bytes_whole}
use Rattle.wide.proofs.Nearness.{behind_up, behind_zero, value_rest, has_wide}
use Rattle.wide.proofs.Sound.{sound_integers}
use Rattle.std.specs.Prelude.{Ok}
use Rattle.text.specs.Check.{text_of}
use Rattle.rows.specs.Kinds.{kind_small, kind_signed, kind_unsigned, kind_float, kind_text, kind_binary, kind_key, constant_own, span_own, holder_own, char_own, foreign_own, damaged_own}
use Rattle.format.specs.declared.refused.Refused.{Refused}
use Rattle.format.specs.declared.refusal.Refusal.{Refusal}
use Rattle.format.specs.declared.refusal.Refusal.TheVariants as why
use Rattle.format.specs.declared.head.Spelling.{Spelling}
use Rattle.format.specs.declared.head.Content.{Content}
use Rattle.format.specs.declared.head.Content.TheVariants as holds
use Rattle.format.specs.declared.head.Holder.{Holder}
use Rattle.format.specs.declared.head.Holder.TheVariants.{Array, Record, Map}
use Rattle.format.specs.declared.head.Head.{Head}
use Rattle.format.specs.declared.head.Head.TheVariants as stands
use Rattle.format.specs.declared.head.Children.{Children}
use Rattle.format.specs.declared.head.Children.TheVariants.{Plain, Keyed, Entries}
use Rattle.format.specs.Tree.{Tree, Trees, many}
use Rattle.format.specs.Head.{codepoint, float_sizes, float_size, head_at, key_at}
use Rattle.format.specs.Value.{Reading, right, wrong, Readings, ran, broke, integer_own, integer_kind, leaf_own, kind_of, child_count, children_of, keyed, in_turn, child, in_force, ahead, follow, readings, holding, referred, closed, declaring, framed, in_foreign, step, value, ended, whole, document, is_key}
use Rattle.format.proofs.Values.{document-value}
use Rattle.format.specs.Layout.{is_entry}
use Rattle.format.proofs.Layouts.{around_force}
use Rattle.format.proofs.Heads.{Payload, floating, written, plain as binary, ContentAt, Spelled, Stood, head_stood, key_spelled}
use Rattle.rules.specs.declared.shape.Shape.TheVariants.{Leaf, Hold, Whole, Damaged}
use Rattle.rules.specs.Shape.{named, blank, inside, is_small, one_of, span, spelt, fits, shape_of}
use Rattle.rules.specs.Obeys.{KeyObeys, IfKey, after, Obeys, ObeyAll}
use Rattle.rules.proofs.Levels.{down}
use Rattle.rules.proofs.Says.{refer_shape, declare_shape}
use Rattle.format.specs.Refusal.{refusal_number}

-- ---- leaves

constant_shape : (s : List ℕ) (kind : ℕ) → 1 ≤ kind → kind ≤ 3 → shape_of s (constant_own kind) ≡ Leaf
unfolding shape_of named fits blank
constant_shape s zero l h = absurd (omega arith)
constant_shape s (suc zero) l h = refl
constant_shape s (suc (suc zero)) l h = refl
constant_shape s (suc (suc (suc zero))) l h = refl
constant_shape s (suc (suc (suc (suc k)))) l h = absurd (omega arith)

-- the four words of n are in -31..64 where n is
pub small-words : (kind n : ℕ) → has_number integer_signed.direct n ≡ true → is_small true (integer_own kind (wide_of n)) ≡ true
small-words kind n e = has_wide integer_signed.direct n ∙ e

-- an unsigned number in 0..64 is in -31..64
pub small_both : (m : ℕ) → m < wordsWhole → has_number integer_unsigned.direct m ≡ true → has_number integer_signed.direct m ≡ true
small_both m l e =
    let z : behind wordsWhole 0 m ≡ m + 0 = sym (behind_zero m) ∙ behind_up 0 m (omega arith) (omega arith) in
    let h : m < 65 = omega (arith, ltb-true (behind wordsWhole 0 m) 65 e, z) in
    let u : behind wordsWhole (wordsWhole - 31) m ≡ m + 31 = behind_up 31 m (omega arith) (omega (arith, bytes_whole)) in
    lt-ltb (behind wordsWhole (wordsWhole - 31) m) 96 (omega (arith, u))

-- the bytes of -31..64
pub marker_has : (b : ℕ) → 0x20 ≤ b → b < 0x80 → has_byte integer_signed.direct b ≡ true
unfolding behind
marker_has b l h = lt-ltb (behind 256 0x20 b) 96 (omega arith)

module _ (s : List ℕ) where
  shape_small : (n : ℕ) → is_small true (integer_own kind_small (wide_of n)) ≡ true → shape_of s (integer_own kind_small (wide_of n)) ≡ Leaf
  unfolding shape_of named fits
  shape_small n e = rw e

  shape_signed : (n : ℕ) → is_small true (integer_own kind_signed (wide_of n)) ≡ false → shape_of s (integer_own kind_signed (wide_of n)) ≡ Leaf
  unfolding shape_of named fits
  shape_signed n e = rw e

  shape_unsigned : (n : ℕ) → is_small false (integer_own kind_unsigned (wide_of n)) ≡ false → shape_of s (integer_own kind_unsigned (wide_of n)) ≡ Leaf
  unfolding shape_of named fits
  shape_unsigned n e = rw e

  -- a place and a size in the data
  span_yes : (kind place size : ℕ) → place + size ≤ length s → span s (span_own kind place size) ≡ true
  unfolding span inside blank
  span_yes kind place size h = le-leb (place + size) (length s) h

  spelt_yes : (kind place size : ℕ) → place + size ≤ length s → text_of (take size (drop place s)) ≡ Ok tt → spelt s (span_own kind place size) ≡ true
  unfolding spelt
  spelt_yes kind place size h e = rw (span_yes kind place size h, e)

  float_size_lem : (b : ℕ) → 0x03 ≤ b → b < 0x08 → one_of float_sizes (float_size b) ≡ true
  unfolding one_of
  float_size_lem zero l h = absurd (omega arith)
  float_size_lem (suc zero) l h = absurd (omega arith)
  float_size_lem (suc (suc zero)) l h = absurd (omega arith)
  float_size_lem (suc (suc (suc zero))) l h = refl
  float_size_lem (suc (suc (suc (suc zero)))) l h = refl
  float_size_lem (suc (suc (suc (suc (suc zero))))) l h = refl
  float_size_lem (suc (suc (suc (suc (suc (suc zero)))))) l h = refl
  float_size_lem (suc (suc (suc (suc (suc (suc (suc zero))))))) l h = refl
  float_size_lem (suc (suc (suc (suc (suc (suc (suc (suc b)))))))) l h = absurd (omega arith)

  payload_shape : (kind place size : ℕ) → place + size ≤ length s → Payload s kind place size → shape_of s (span_own kind place size) ≡ Leaf
  unfolding shape_of named fits
  payload_shape kind place size h (floating b l u k z) = rw k (rw (span_yes kind_float place size h, z, float_size_lem b l u))
  payload_shape kind place size h (written k w) = rw k (rw (spelt_yes kind_text place size h w))
  payload_shape kind place size h (binary k) = rw k (rw (span_yes kind_binary place size h))

  char_shape : (c : ℕ) → codepoint c ≡ true → shape_of s (char_own c) ≡ Leaf
  unfolding shape_of named fits blank
  char_shape c e = rw e

  -- a damaged body
  damaged_shape : (place n : ℕ) (e : Refusal) → place + n ≤ length s → shape_of s (damaged_own place n (refusal_number e)) ≡ Damaged
  unfolding shape_of named fits blank inside
  damaged_shape place n why.Short h = rw (le-leb (place + n) (length s) h)
  damaged_shape place n why.Marker h = rw (le-leb (place + n) (length s) h)
  damaged_shape place n why.Huge h = rw (le-leb (place + n) (length s) h)
  damaged_shape place n why.Text h = rw (le-leb (place + n) (length s) h)
  damaged_shape place n why.Char h = rw (le-leb (place + n) (length s) h)
  damaged_shape place n why.NoEntry h = rw (le-leb (place + n) (length s) h)
  damaged_shape place n why.Empty h = rw (le-leb (place + n) (length s) h)
  damaged_shape place n why.Deep h = rw (le-leb (place + n) (length s) h)
  damaged_shape place n why.Extra h = rw (le-leb (place + n) (length s) h)

  whole_shape : shape_of s foreign_own ≡ Whole
  unfolding shape_of named fits blank
  whole_shape = refl

  hold_shape : (h : Holder) (n : ℕ) → shape_of s (holder_own (kind_of h) n) ≡ Hold h
  unfolding shape_of named fits blank
  hold_shape Array n = refl
  hold_shape Record n = refl
  hold_shape Map n = refl

  integer-leaf : (signed : Bool) (n : ℕ) → shape_of s (integer_own (integer_kind signed n) (wide_of n)) ≡ Leaf
  integer-leaf true n =
      bool_case (has_number integer_signed.direct n)
      (λ e. rw e (shape_small n (small-words kind_small n e)))
      (λ e. rw e (shape_signed n (has_wide integer_signed.direct n ∙ e)))
  integer-leaf false n =
      bool_case (has_number integer_unsigned.direct n)
      (λ e. rw e (shape_small n (small_both (value_of (wide_of n)) (low n) (has_wide integer_unsigned.direct n ∙ e))))
      (λ e. rw e (shape_unsigned n (has_wide integer_unsigned.direct n ∙ e)))
    where
      low : (n : ℕ) → value_of (wide_of n) < wordsWhole
      low n = subst (λ (x : ℕ). x < wordsWhole) (sym (value_rest n)) (mod-lt n (omega (arith, bytes_whole)))

  -- a leaf that is read
  content-leaf : (at next : ℕ) (c : Content) → ContentAt s at next c → next ≤ length s → shape_of s (leaf_own s c) ≡ Leaf
  unfolding leaf_own
  content-leaf at next (holds.Constant kind) w l = constant_shape s kind w.low w.high
  content-leaf at next (holds.Small marker) w l =
      let n : ℕ = number_of integer_signed.direct marker in
      shape_small n (small-words kind_small n (number_has integer_signed.direct sound_integers.signed.direct-run marker ∙ marker_has marker w.low w.high))
  content-leaf at next (holds.Integer signed place size) w l = integer-leaf signed (body_value signed (take size (drop place s)))
  content-leaf at next (holds.Span kind place size) w l = payload_shape kind place size (omega (arith, w.ends)) w.payload
  content-leaf at next (holds.Char c) w l = char_shape c w.allowed

-- ---- what is read

abbrev FineAt : (Tree → Type 0) → Reading → Type 0
FineAt F (right t next) = F t
FineAt F (wrong e place) = Unit {0}

-- children, and how many
abbrev FinesAt : List ℕ → ℕ → Children → ℕ → ℕ → ℕ → Readings → Type 0
FinesAt s d c k i n (ran ts next) = (many ts ≡ n) × ObeyAll s d c k i ts
FinesAt s d c k i n (broke e place) = Unit {0}

keyed_fine : (s : List ℕ) (at stop : ℕ) → stop ≤ length s → (x : Result Spelling Refusal) → Spelled s at stop x → FineAt (KeyObeys s) (keyed at x)
keyed_fine s at stop l (Ok x) w =
    record { own = span_own kind_key x.place x.size; is = refl; fits = spelt_yes s kind_key x.place x.size (omega (arith, w.within)) w.spelt }
keyed_fine s at stop l (Err e) w = tt

pub force_next : (c : Children) (k i : ℕ) → after (is_entry c) (in_force c k i) ≡ in_force c k (i + 1)
force_next Plain k i = refl
force_next Keyed k i = refl
force_next Entries k i = refl

module _ (s : List ℕ) (d : ℕ) (good : (k at stop : ℕ) → stop ≤ length s → FineAt (Obeys s d k) (value d s k at stop)) where
  turn_fine : (b : Bool) (k at stop : ℕ) → stop ≤ length s → FineAt (λ t. IfKey b (KeyObeys s t) (Obeys s d k t)) (in_turn b (value d s) s k at stop)
  turn_fine true k at stop l = keyed_fine s at stop l (key_at s at stop) (key_spelled s at stop)
  turn_fine false k at stop l = good k at stop l

  child_fine : (c : Children) (k i at stop : ℕ) → stop ≤ length s
      → FineAt (λ t. IfKey (is_key c i) (KeyObeys s t) (Obeys s d (in_force c k i) t)) (child c (value d s) s k i at stop)
  unfolding child
  child_fine c k i at stop l = turn_fine (is_key c i) (in_force c k i) at stop l

  ahead_fine : (c : Children) (k i n : ℕ) (t : Tree) → IfKey (is_key c i) (KeyObeys s t) (Obeys s d (in_force c k i) t) → (q : Readings)
      → FinesAt s d c (in_force c k (i + 1)) (i + 1) n q → FinesAt s d c (in_force c k i) i (suc n) (ahead t q)
  unfolding many Obeys
  ahead_fine c k i n t f (ran ts next) g = (ap suc g.0, (f, subst (λ (x : ℕ). ObeyAll s d c x (i + 1) ts) (sym (force_next c k i)) g.1))
  ahead_fine c k i n t f (broke e place) g = tt

  follow_fine : (c : Children) (k i n : ℕ) (x : Reading) → FineAt (λ t. IfKey (is_key c i) (KeyObeys s t) (Obeys s d (in_force c k i) t)) x → (rest : ℕ → Readings)
      → ((m : ℕ) → FinesAt s d c (in_force c k (i + 1)) (i + 1) n (rest m)) → FinesAt s d c (in_force c k i) i (suc n) (follow x rest)
  follow_fine c k i n (right t m) f rest g = ahead_fine c k i n t f (rest m) (g m)
  follow_fine c k i n (wrong e place) f rest g = tt

  run_fine : (c : Children) (k i n at stop : ℕ) → stop ≤ length s → FinesAt s d c (in_force c k i) i n (readings (value d s) c s k i n at stop)
  unfolding readings many Obeys
  run_fine c k i zero at stop l = (refl, tt)
  run_fine c k i (suc n) at stop l =
      follow_fine c k i n (child c (value d s) s k i at stop) (child_fine c k i at stop l) _ (λ m. run_fine c k (i + 1) n m stop l)

  held_fine : (h : Holder) (k n : ℕ) (q : Readings) → FinesAt s d (children_of h) k 0 (child_count h n) q → FineAt (Obeys s (suc d) k) (holding (holder_own (kind_of h) n) q)
  unfolding Obeys
  held_fine h k n (ran ts next) f = (omega arith, (h, hold_shape s h n, f.0, subst (λ (x : ℕ). ObeyAll s x (children_of h) k 0 ts) (sym (down d)) f.1))
  held_fine h k n (broke e place) f = tt

  closed_fine : (k n : ℕ) → 0 < n → (es : Trees) → many es ≡ n → ObeyAll s d Entries 0 0 es → (x : Reading) → FineAt (Obeys s d n) x → FineAt (Obeys s (suc d) k) (closed n es x)
  unfolding Obeys
  closed_fine k n some es num f (right t next) g =
      (omega arith, declare_shape s n some, num, subst (λ (x : ℕ). ObeyAll s x Entries 0 0 es) (sym (down d)) f, subst (λ (x : ℕ). Obeys s x n t) (sym (down d)) g)
  closed_fine k n some es num f (wrong e place) g = tt

  declaring_fine : (k n : ℕ) → 0 < n → (q : Readings) → FinesAt s d Entries 0 0 n q → (stop : ℕ) → stop ≤ length s → FineAt (Obeys s (suc d) k) (declaring n q (value d s) stop)
  declaring_fine k n some (ran es next) f stop l = closed_fine k n some es f.0 f.1 (value d s n next stop) (good n next stop l)
  declaring_fine k n some (broke e place) f stop l = tt

  whole_fine : (F : Tree → Type 0) (stop : ℕ) (x : Reading) → FineAt F x → FineAt F (whole stop x)
  whole_fine F stop (right t next) f = go (eqb next stop)
    where
      go : (b : Bool) → FineAt F (ended b t next)
      go true = f
      go false = tt
  whole_fine F stop (wrong e place) f = tt

  -- a body of n bytes, read as x
  framed_fine : (k place n : ℕ) → place + n ≤ length s → (x : Reading) → whole (place + n) (value d s (in_foreign k) place (place + n)) ≡ x → FineAt (Obeys s d (in_foreign k)) x
      → FineAt (Obeys s (suc d) k) (framed place n x)
  unfolding Obeys
  framed_fine k place n l (right t next) e f = (omega arith, whole_shape s, subst (λ (x : ℕ). Obeys s x (in_foreign k) t) (sym (down d)) f)
  framed_fine k place n l (wrong r p) e f = (omega arith, damaged_shape s place n r l, record { why = r; place = p; reads = rw (down d) e; verdict = refl })

  referred_fine : (k at n next : ℕ) (b : Bool) → ltb n k ≡ b → FineAt (Obeys s (suc d) k) (referred b n at next)
  unfolding Obeys
  referred_fine k at n next true e = (omega arith, refer_shape s n 0, refl, ltb-true n k e)
  referred_fine k at n next false e = tt

  step_fine : (k at stop : ℕ) → stop ≤ length s → (h : Result Head Refused) → Stood s at stop h → FineAt (Obeys s (suc d) k) (step (value d s) s k at stop h)
  unfolding step Obeys
  step_fine k at stop l (Ok (stands.Leaf c next)) w = (omega arith, content-leaf s at next c w.content (omega (arith, w.within)))
  step_fine k at stop l (Ok (stands.Hold h n next)) w =
      let Q : Readings = readings (value d s) (children_of h) s k 0 (child_count h n) next stop in
      held_fine h k n Q (subst (λ (x : ℕ). FinesAt s d (children_of h) x 0 (child_count h n) Q) (around_force h k 0) (run_fine (children_of h) k 0 (child_count h n) next stop l))
  step_fine k at stop l (Ok (stands.Refer n next)) w = referred_fine k at n next (ltb n k) refl
  step_fine k at stop l (Ok (stands.Declare n next)) w =
      declaring_fine k n (omega (arith, w.some)) (readings (value d s) Entries s 0 0 n next stop) (run_fine Entries 0 0 n next stop l) stop l
  step_fine k at stop l (Ok (stands.Foreign place n)) w =
      let x : Reading = value d s (in_foreign k) place (place + n) in
      framed_fine k place n (omega (arith, w.within)) (whole (place + n) x) refl
      (whole_fine (Obeys s d (in_foreign k)) (place + n) x (good (in_foreign k) place (place + n) (omega (arith, w.within))))
  step_fine k at stop l (Err x) w = tt

pub value_fine : (s : List ℕ) (d k at stop : ℕ) → stop ≤ length s → FineAt (Obeys s d k) (value d s k at stop)
unfolding value
value_fine s zero k at stop l = tt
value_fine s (suc d) k at stop l = step_fine s d (value_fine s d) k at stop l (head_at s at stop) (head_stood s at stop)

-- a document's tree is right
pub document_fine : (depth : ℕ) (s : List ℕ) (t : Tree) (next : ℕ) → document depth s ≡ right t next → Obeys s (suc depth) 0 t
document_fine depth s t next e =
    subst (FineAt (Obeys s (suc depth) 0)) (document-value depth s t next e) (value_fine s (suc depth) 0 0 (length s) (omega arith))
