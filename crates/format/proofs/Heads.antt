-- What stands at a position begins behind `at`, ends within the stop, and its numbers are within the paper's bounds. Assumes nothing: not
-- that the numbers of the list are bytes, nor that the stop is within it.
use Rattle.std.specs.Prelude.{Result, Ok, Err}
use mathlib.Core.Path.{◌≡◌, refl, sym, subst, ◌∙◌}
use mathlib.Core.Bool.{Bool, true, false, cond, and-eq-true_iff}
use mathlib.Core.List.{List, [], ◌∷◌}
use Prim.Native.Nat.{ℕ, zero, suc, ◌+◌, ◌-◌, ◌≤◌, ◌<◌}
use native.Mathlib.Omega.{arith}
use lib.ListN.{length, get_or, take, drop, length-take}
use lib.Dec.{ltb, leb, eqb, lit≤}
use borrow.Author.Tests.{ltb-true, ltb-false, leb-true, eqb-false}
use Rattle.wide.specs.Number.{number}
use Rattle.wide.specs.Body.{size_at}
use Rattle.wide.specs.Family.{Family, Coded, is, short, other, coded}
use Rattle.wide.specs.Members.{text_length, binary_length, array_count, record_count, map_count, key_length, reference_number, declaration_count, foreign_length}
use Rattle.wide.proofs.Ranks.{size_low, size_high}
use Rattle.wide.proofs.Families.{cond-case, Takes, coded_takes}
use Rattle.text.specs.Check.{Text, text_of}
use Rattle.rows.specs.Table.{limit}
use Rattle.rows.specs.Kinds.{kind_float, kind_text, kind_binary}
use Rattle.format.specs.declared.refused.Refused.{Refused}
use Rattle.format.specs.declared.refusal.Refusal.{Refusal}
use Rattle.format.specs.declared.refusal.Refusal.TheVariants as why
use Rattle.format.specs.declared.head.Count.{Count}
use Rattle.format.specs.declared.head.Spelling.{Spelling}
use Rattle.format.specs.declared.head.Content.{Content}
use Rattle.format.specs.declared.head.Content.TheVariants as holds
use Rattle.format.specs.declared.head.Holder.{Holder}
use Rattle.format.specs.declared.head.Holder.TheVariants.{Array, Record, Map}
use Rattle.format.specs.declared.head.Head.{Head}
use Rattle.format.specs.declared.head.Head.TheVariants.{Leaf, Hold, Refer, Declare, Foreign}
use Rattle.format.specs.Head.{counts, spells, refuse, Marker, constant, float, text, array, entries, map, binary, special, nothing, signed_body, unsigned_body, small, char, reference, marker_of, between, count_of, count_at, bodied, spelled, spelling_of, codepoint, char_body, char_head, float_size, text_head, binary_head, holder_head, refer_head, declare_head, foreign_head, special_head, head_by, head_at, key_at}

-- ---- a length, count or number

-- the number n, said behind `at` and before `next`
pub record CountAt (at stop n next : ℕ) : Type 0 where
  pub after : at < next
  pub within : next ≤ stop
  pub few : n ≤ limit

abbrev pub Counted : ℕ → ℕ → Result Count Refusal → Type 0
Counted at stop (Ok c) = CountAt at stop c.value c.next
Counted at stop (Err e) = Unit {0}

coded_counted : (at stop l : ℕ) → l ≤ stop - at → (c : Coded) → Takes 1 l c → Counted at stop (count_of at c)
coded_counted at stop l h (is n used) t =
    cond-case (Counted at stop) (leb n limit) _ _
    (λ p. record { after = omega arith; within = omega arith; few = leb-true n limit p })
    (λ _. tt)
coded_counted at stop l h short t = tt
coded_counted at stop l h other t = tt

pub counted : (F : Family) (s : List ℕ) (at stop : ℕ) → Counted at stop (count_at F s at stop)
unfolding count_at
counted F s at stop =
    coded_counted at stop (length (between s at stop)) (omega (arith, length-take (stop - at) (drop at s))) (coded F (between s at stop)) (coded_takes F (between s at stop))

-- ---- what a head may be relied on for

-- "`00` false, `01` true, `02` none"
pub record ConstantAt (at next kind : ℕ) : Type 0 where
  pub low : 1 ≤ kind
  pub high : kind ≤ 3
  pub ends : next ≡ at + 1

-- "`20`..`3f`: -31..0. `40`..`7f`: 1..64"
pub record SmallAt (at next marker : ℕ) : Type 0 where
  pub low : 0x20 ≤ marker
  pub high : marker < 0x80
  pub ends : next ≡ at + 1

-- "bodies of 1, 2, 3, 4, 6, 8, 12, 16 bytes": the size is number `rank` of these
pub record IntegerAt (at next place size : ℕ) : Type 0 where
  pub rank : ℕ
  pub ranked : rank < 8
  pub sized : size ≡ size_at rank
  pub some : 1 ≤ size
  pub few : size ≤ 16
  pub begins : place ≡ at + 1
  pub ends : place + size ≡ next

-- a float, whose marker is b; text that follows RFC 3629; or binary
pub data Payload (s : List ℕ) (kind place size : ℕ) : Type 0 where
  floating : (b : ℕ) → 0x03 ≤ b → b < 0x08 → kind ≡ kind_float → size ≡ float_size b → Payload s kind place size
  written : kind ≡ kind_text → text_of (take size (drop place s)) ≡ Ok tt → Payload s kind place size
  plain : kind ≡ kind_binary → Payload s kind place size

pub record SpanAt (s : List ℕ) (at next kind place size : ℕ) : Type 0 where
  pub begins : at < place
  pub ends : place + size ≡ next
  pub few : size ≤ limit
  pub payload : Payload s kind place size

pub record CharAt (at next c : ℕ) : Type 0 where
  pub allowed : codepoint c ≡ true
  pub high : c ≤ 0x10FFFF
  pub ends : next ≡ at + 4

abbrev pub ContentAt : List ℕ → ℕ → ℕ → Content → Type 0
ContentAt s at next (holds.Constant kind) = ConstantAt at next kind
ContentAt s at next (holds.Small marker) = SmallAt at next marker
ContentAt s at next (holds.Integer sign place size) = IntegerAt at next place size
ContentAt s at next (holds.Span kind place size) = SpanAt s at next kind place size
ContentAt s at next (holds.Char c) = CharAt at next c

pub record LeafAt (s : List ℕ) (at stop : ℕ) (c : Content) (next : ℕ) : Type 0 where
  pub after : at < next
  pub within : next ≤ stop
  pub content : ContentAt s at next c

-- "`0d 0d`, a count n of 1 or more"
pub record DeclareAt (at stop n next : ℕ) : Type 0 where
  pub after : at < next
  pub within : next ≤ stop
  pub few : n ≤ limit
  pub some : 1 ≤ n

-- "`0d 00`, a length, that many bytes"
pub record ForeignAt (at stop place size : ℕ) : Type 0 where
  pub after : at < place
  pub within : place + size ≤ stop
  pub few : size ≤ limit

-- "Place is the first byte of the innermost value position or key being read."
abbrev pub Stood : List ℕ → ℕ → ℕ → Result Head Refused → Type 0
Stood s at stop (Ok (Leaf c next)) = LeafAt s at stop c next
Stood s at stop (Ok (Hold h n next)) = CountAt at stop n next
Stood s at stop (Ok (Refer n next)) = CountAt at stop n next
Stood s at stop (Ok (Declare n next)) = DeclareAt at stop n next
Stood s at stop (Ok (Foreign place size)) = ForeignAt at stop place size
Stood s at stop (Err w) = w.place ≡ at

-- ---- each form

-- a leaf of a body is one where the body is there
bodied-case : (P : Result Head Refused → Type 0) (at : ℕ) (c : Content) (place size stop : ℕ)
    → (size ≤ stop - place → P (Ok (Leaf c (place + size)))) → P (refuse why.Short at) → P (bodied at c place size stop)
bodied-case P at c place size stop f g = cond-case P (leb size (stop - place)) _ _ (λ p. f (leb-true size (stop - place) p)) (λ _. g)

-- the bytes of a text or of a key, behind `at`
pub record SpeltAt (s : List ℕ) (at stop place size : ℕ) : Type 0 where
  pub begins : at < place
  pub within : place + size ≤ stop
  pub few : size ≤ limit
  pub spelt : text_of (take size (drop place s)) ≡ Ok tt

abbrev pub Spelled : List ℕ → ℕ → ℕ → Result Spelling Refusal → Type 0
Spelled s at stop (Ok x) = SpeltAt s at stop x.place x.size
Spelled s at stop (Err e) = Unit {0}

spelled_at : (s : List ℕ) (at stop : ℕ) (c : Result Count Refusal) → Counted at stop c → Spelled s at stop (spelling_of s stop c)
spelled_at s at stop (Ok c) k =
    cond-case (Spelled s at stop) (leb c.value (stop - c.next)) _ _ (λ p. go (text_of (take c.value (drop c.next s))) refl (leb-true c.value (stop - c.next) p)) (λ _. tt)
  where
    go : (t : Text) → text_of (take c.value (drop c.next s)) ≡ t → c.value ≤ stop - c.next → Spelled s at stop (spelled c.next c.value t)
    go (Ok u) e l = record { begins = k.after; within = omega arith; few = k.few; spelt = e }
    go (Err i) e l = tt
spelled_at s at stop (Err e) k = tt

module _ (s : List ℕ) (at stop : ℕ) where
  text_stood : (x : Result Spelling Refusal) → Spelled s at stop x → Stood s at stop (text_head at x)
  text_stood (Ok x) k =
      record {
        after = omega arith;
        within = k.within;
        content = record { begins = k.begins; ends = refl; few = k.few; payload = written refl k.spelt };
      }
  text_stood (Err e) k = refl

  binary_stood : (c : Result Count Refusal) → Counted at stop c → Stood s at stop (binary_head at stop c)
  binary_stood (Ok c) k =
      bodied-case (Stood s at stop) at (holds.Span kind_binary c.next c.value) c.next c.value stop
      (λ l.
      record {
        after = omega arith;
        within = omega arith;
        content = record { begins = k.after; ends = refl; few = k.few; payload = plain refl };
      })
      refl
  binary_stood (Err e) k = refl

  holder_stood : (h : Holder) (c : Result Count Refusal) → Counted at stop c → Stood s at stop (holder_head h at c)
  holder_stood h (Ok c) k = k
  holder_stood h (Err e) k = refl

  refer_stood : (c : Result Count Refusal) → Counted at stop c → Stood s at stop (refer_head at c)
  refer_stood (Ok c) k = k
  refer_stood (Err e) k = refl

  declare_stood : (c : Result Count Refusal) → Counted at stop c → Stood s at stop (declare_head at c)
  declare_stood (Ok c) k =
      cond-case (Stood s at stop) (eqb c.value 0) _ _ (λ _. refl)
      (λ p. let z : c.value ≡ 0 → ⊥ = eqb-false c.value 0 p in record { after = k.after; within = k.within; few = k.few; some = omega arith })
  declare_stood (Err e) k = refl

  foreign_stood : (c : Result Count Refusal) → Counted at stop c → Stood s at stop (foreign_head at stop c)
  foreign_stood (Ok c) k =
      cond-case (Stood s at stop) (leb c.value (stop - c.next)) _ _
      (λ p. record { after = k.after; within = omega (arith, leb-true c.value (stop - c.next) p); few = k.few })
      (λ _. refl)
  foreign_stood (Err e) k = refl

  special_stood : Stood s at stop (special_head s at stop)
  special_stood =
      cond-case (Stood s at stop) (ltb (at + 1) stop) _ _
      (λ _. cond-case (Stood s at stop) (eqb (get_or s (at + 1) 0) 0x0d) _ _
      (λ _. declare_stood (count_at declaration_count s at stop) (counted declaration_count s at stop))
      (λ _. cond-case (Stood s at stop) (eqb (get_or s (at + 1) 0) 0x00) _ _
      (λ _. foreign_stood (count_at foreign_length s at stop) (counted foreign_length s at stop))
      (λ _. refl)))
      (λ _. refl)

  char_stood : Stood s at stop (char_head s at stop)
  char_stood =
      cond-case (Stood s at stop) (leb 3 (stop - (at + 1))) _ _
      (λ p. allowed (number (take 3 (drop (at + 1) s))) (leb-true 3 (stop - (at + 1)) p))
      (λ _. refl)
    where
      allowed : (c : ℕ) → 3 ≤ stop - (at + 1) → Stood s at stop (char_body at c)
      allowed c l =
          cond-case (Stood s at stop) (codepoint c) _ _
          (λ p.
          record {
            after = omega arith;
            within = omega arith;
            content = record { allowed = p; high = leb-true c 0x10FFFF ((and-eq-true_iff (leb c 0x10FFFF) _).0 p).0; ends = refl };
          })
          (λ _. refl)

  -- a body behind the marker
  integer_stood : (sign : Bool) (j : ℕ) → j < 8 → Stood s at stop (bodied at (holds.Integer sign (at + 1) (size_at j)) (at + 1) (size_at j) stop)
  integer_stood sign j h =
      bodied-case (Stood s at stop) at (holds.Integer sign (at + 1) (size_at j)) (at + 1) (size_at j) stop
      (λ l.
      record {
        after = omega arith;
        within = omega (arith, size_low j h);
        content = record { rank = j; ranked = h; sized = refl; some = size_low j h; few = size_high j h; begins = refl; ends = refl };
      })
      refl

  float_stood : (b : ℕ) → at < stop → 0x03 ≤ b → b < 0x08
      → Stood s at stop (bodied at (holds.Span kind_float (at + 1) (float_size b)) (at + 1) (float_size b) stop)
  float_stood b h low high =
      bodied-case (Stood s at stop) at (holds.Span kind_float (at + 1) (float_size b)) (at + 1) (float_size b) stop
      (λ l.
      record {
        after = omega arith;
        within = omega arith;
        content = record { begins = omega arith; ends = refl; few = omega (arith, float-few (b - 0x03)); payload = floating b low high refl refl };
      })
      refl
    where
      float-few : (j : ℕ) → get_or (2 ∷ 4 ∷ 8 ∷ 16 ∷ 32 ∷ []) j 0 ≤ 32
      float-few zero = lit≤ tt
      float-few (suc zero) = lit≤ tt
      float-few (suc (suc zero)) = lit≤ tt
      float-few (suc (suc (suc zero))) = lit≤ tt
      float-few (suc (suc (suc (suc zero)))) = lit≤ tt
      float-few (suc (suc (suc (suc (suc j))))) = lit≤ tt

-- ---- the marker

-- the bytes of those markers that say more by their place among the others
abbrev Marked : ℕ → Marker → Type 0
Marked b constant = b < 0x03
Marked b float = (0x03 ≤ b) × (b < 0x08)
Marked b text = Unit {0}
Marked b array = Unit {0}
Marked b entries = Unit {0}
Marked b map = Unit {0}
Marked b binary = Unit {0}
Marked b special = Unit {0}
Marked b nothing = Unit {0}
Marked b signed_body = (0x10 ≤ b) × (b < 0x18)
Marked b unsigned_body = (0x18 ≤ b) × (b < 0x20)
Marked b small = (0x20 ≤ b) × (b < 0x80)
Marked b char = Unit {0}
Marked b reference = Unit {0}

below : (P : Marker → Type 0) (b n : ℕ) (x y : Marker) → (b < n → P x) → (n ≤ b → P y) → P (cond (ltb b n) x y)
below P b n x y f g = cond-case P (ltb b n) x y (λ p. f (ltb-true b n p)) (λ p. g (ltb-false b n p))

marker-marked : (b : ℕ) → Marked b (marker_of b)
unfolding marker_of
marker-marked b =
    below (Marked b) b 0x03 _ _ (λ h. h)
    (λ l. below (Marked b) b 0x08 _ _ (λ h. (l, h))
    (λ _. below (Marked b) b 0x09 _ _ (λ _. tt)
    (λ _. below (Marked b) b 0x0a _ _ (λ _. tt)
    (λ _. below (Marked b) b 0x0b _ _ (λ _. tt)
    (λ _. below (Marked b) b 0x0c _ _ (λ _. tt)
    (λ _. below (Marked b) b 0x0d _ _ (λ _. tt)
    (λ _. below (Marked b) b 0x0e _ _ (λ _. tt)
    (λ _. below (Marked b) b 0x10 _ _ (λ _. tt)
    (λ l. below (Marked b) b 0x18 _ _ (λ h. (l, h))
    (λ l. below (Marked b) b 0x20 _ _ (λ h. (l, h))
    (λ l. below (Marked b) b 0x80 _ _ (λ h. (l, h))
    (λ _. below (Marked b) b 0xa0 _ _ (λ _. tt)
    (λ _. below (Marked b) b 0xb0 _ _ (λ _. tt)
    (λ _. below (Marked b) b 0xb8 _ _ (λ _. tt)
    (λ _. below (Marked b) b 0xc0 _ _ (λ _. tt)
    (λ _. below (Marked b) b 0xc1 _ _ (λ _. tt) (λ _. tt)))))))))))))))))

module _ (s : List ℕ) (at stop : ℕ) where
  marker_stood : (b : ℕ) (m : Marker) → at < stop → Marked b m → Stood s at stop (head_by s at stop b m)
  unfolding head_by
  marker_stood b constant h k =
      record { after = omega arith; within = omega arith; content = record { low = omega arith; high = omega arith; ends = refl } }
  marker_stood b small h k =
      record { after = omega arith; within = omega arith; content = record { low = k.0; high = k.1; ends = refl } }
  marker_stood b signed_body h k = integer_stood s at stop true (b - 0x10) (omega arith)
  marker_stood b unsigned_body h k = integer_stood s at stop false (b - 0x18) (omega arith)
  marker_stood b float h k = float_stood s at stop b h k.0 k.1
  marker_stood b text h k =
      text_stood s at stop (spelling_of s stop (count_at text_length s at stop)) (spelled_at s at stop (count_at text_length s at stop) (counted text_length s at stop))
  marker_stood b binary h k = binary_stood s at stop (count_at binary_length s at stop) (counted binary_length s at stop)
  marker_stood b char h k = char_stood s at stop
  marker_stood b array h k = holder_stood s at stop Array (count_at array_count s at stop) (counted array_count s at stop)
  marker_stood b entries h k = holder_stood s at stop Record (count_at record_count s at stop) (counted record_count s at stop)
  marker_stood b map h k = holder_stood s at stop Map (count_at map_count s at stop) (counted map_count s at stop)
  marker_stood b reference h k = refer_stood s at stop (count_at reference_number s at stop) (counted reference_number s at stop)
  marker_stood b special h k = special_stood s at stop
  marker_stood b nothing h k = refl

  pub head_stood : Stood s at stop (head_at s at stop)
  unfolding head_at
  head_stood =
      cond-case (Stood s at stop) (ltb at stop) _ _
      (λ p. marker_stood (get_or s at 0) (marker_of (get_or s at 0)) (ltb-true at stop p) (marker-marked (get_or s at 0)))
      (λ _. refl)

-- ---- a key

pub key_spelled : (s : List ℕ) (at stop : ℕ) → Spelled s at stop (key_at s at stop)
unfolding key_at
key_spelled s at stop = spelled_at s at stop (count_at key_length s at stop) (counted key_length s at stop)

-- ---- one law for each part: c is the number at `at`

module _ (F : Family) (s : List ℕ) (at stop : ℕ) (c : Result Count Refusal) (count : c ≡ count_at F s at stop) (n next : ℕ) (said : c ≡ Ok (counts n next)) where
  pub count_at_lem : CountAt at stop n next
  count_at_lem = subst (Counted at stop) (sym count ∙ said) (counted F s at stop)

  pub count_within : next ≤ stop
  count_within = count_at_lem.within

  pub count-few : n ≤ limit
  count-few = count_at_lem.few

-- ---- h is what stands at `at`

module _ (s : List ℕ) (at stop : ℕ) (h : Result Head Refused) (head : h ≡ head_at s at stop) where
  stood_as : (g : Result Head Refused) → h ≡ g → Stood s at stop g
  stood_as g e = subst (Stood s at stop) (sym head ∙ e) (head_stood s at stop)

  pub refuse_place : (e : Refusal) (place : ℕ) → h ≡ refuse e place → place ≡ at
  refuse_place e place q = stood_as (refuse e place) q

  module _ (c : Content) (next : ℕ) (leaf : h ≡ Ok (Leaf c next)) where
    pub leaf_at : LeafAt s at stop c next
    leaf_at = stood_as (Ok (Leaf c next)) leaf

    pub leaf-after : at < next
    leaf-after = leaf_at.after

    pub leaf_within : next ≤ stop
    leaf_within = leaf_at.within

    content_as : (d : Content) → c ≡ d → ContentAt s at next d
    content_as d e = subst (ContentAt s at next) e leaf_at.content

    pub constant_at : (kind : ℕ) → c ≡ holds.Constant kind → ConstantAt at next kind
    constant_at kind e = content_as (holds.Constant kind) e

    pub small_at : (marker : ℕ) → c ≡ holds.Small marker → SmallAt at next marker
    small_at marker e = content_as (holds.Small marker) e

    pub char_at : (codepoint : ℕ) → c ≡ holds.Char codepoint → CharAt at next codepoint
    char_at codepoint e = content_as (holds.Char codepoint) e

    module _ (sign : Bool) (place size : ℕ) (content : c ≡ holds.Integer sign place size) where
      pub integer_at : IntegerAt at next place size
      integer_at = content_as (holds.Integer sign place size) content

      pub integer-some : 1 ≤ size
      integer-some = integer_at.some

      pub integer-few : size ≤ 16
      integer-few = integer_at.few

      pub integer-ends : place + size ≡ next
      integer-ends = integer_at.ends

      pub integer_within : place + size ≤ stop
      integer_within = omega (arith, integer-ends, leaf_within)

    module _ (kind place size : ℕ) (content : c ≡ holds.Span kind place size) where
      pub span_at : SpanAt s at next kind place size
      span_at = content_as (holds.Span kind place size) content

      pub span-ends : place + size ≡ next
      span-ends = span_at.ends

      pub span_within : place + size ≤ stop
      span_within = omega (arith, span-ends, leaf_within)

  module _ (x : Holder) (n next : ℕ) (hold : h ≡ Ok (Hold x n next)) where
    pub hold_at : CountAt at stop n next
    hold_at = stood_as (Ok (Hold x n next)) hold

    pub hold-after : at < next
    hold-after = hold_at.after

    pub hold_within : next ≤ stop
    hold_within = hold_at.within

    pub hold-few : n ≤ limit
    hold-few = hold_at.few

  module _ (n next : ℕ) (refer : h ≡ Ok (Refer n next)) where
    pub refer_at : CountAt at stop n next
    refer_at = stood_as (Ok (Refer n next)) refer

    pub refer_within : next ≤ stop
    refer_within = refer_at.within

    pub refer-few : n ≤ limit
    refer-few = refer_at.few

  module _ (n next : ℕ) (declare : h ≡ Ok (Declare n next)) where
    pub declare_at : DeclareAt at stop n next
    declare_at = stood_as (Ok (Declare n next)) declare

    pub declare-after : at < next
    declare-after = declare_at.after

    pub declare_within : next ≤ stop
    declare_within = declare_at.within

    pub declare-few : n ≤ limit
    declare-few = declare_at.few

    pub declare-some : 1 ≤ n
    declare-some = declare_at.some

  module _ (place size : ℕ) (foreign : h ≡ Ok (Foreign place size)) where
    pub foreign_at : ForeignAt at stop place size
    foreign_at = stood_as (Ok (Foreign place size)) foreign

    pub foreign-after : at < place
    foreign-after = foreign_at.after

    pub foreign_within : place + size ≤ stop
    foreign_within = foreign_at.within

-- x is the key at `at`
module _ (s : List ℕ) (at stop : ℕ) (x : Result Spelling Refusal) (key : x ≡ key_at s at stop) (place size : ℕ) (spelt : x ≡ Ok (spells place size)) where
  pub key-at : SpeltAt s at stop place size
  key-at = subst (Spelled s at stop) (sym key ∙ spelt) (key_spelled s at stop)

  pub key_after : at < place
  key_after = key-at.begins

  pub key_within : place + size ≤ stop
  key_within = key-at.within
