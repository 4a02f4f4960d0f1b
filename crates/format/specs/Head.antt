-- What stands at a value position of some bytes, up to a stop. Assumes nothing: these are definitions.
use Rattle.std.specs.Prelude.{ℕ, ◌+◌, ◌-◌, Bool, true, false, not, cond, ◌&&◌, List, [], ◌∷◌, get_or, take, drop, ltb, leb, eqb, Result, Ok, Err}
use Rattle.wide.specs.Number.{number}
use Rattle.wide.specs.Body.{size_at}
use Rattle.wide.specs.Family.{Family, Coded, is, short, other, coded}
use Rattle.wide.specs.Members.{text_length, binary_length, array_count, record_count, map_count, key_length, reference_number, declaration_count, foreign_length}
use Rattle.text.specs.Check.{Text, text_of}
use Rattle.rows.specs.Table.{limit}
use Rattle.rows.specs.Kinds.{kind_float, kind_text, kind_binary}
use Rattle.format.specs.declared.refused.Refused.{Refused}
use Rattle.format.specs.declared.refusal.Refusal.{Refusal}
use Rattle.format.specs.declared.refusal.Refusal.TheVariants as why
use Rattle.format.specs.declared.head.Count.{Count}
use Rattle.format.specs.declared.head.Spelling.{Spelling}
use Rattle.format.specs.declared.head.Content.{Content}
use Rattle.format.specs.declared.head.Content.TheVariants as holds
use Rattle.format.specs.declared.head.Holder.{Holder}
use Rattle.format.specs.declared.head.Holder.TheVariants.{Array, Record, Map}
use Rattle.format.specs.declared.head.Head.{Head}
use Rattle.format.specs.declared.head.Head.TheVariants.{Leaf, Hold, Refer, Declare, Foreign}

-- "A value position is one of": what its first byte begins
pub data Marker : Type 0 where
  constant float text array entries map binary special nothing signed_body unsigned_body small char reference : Marker

unfoldable pub marker_of : ℕ → Marker
marker_of b =
    cond (ltb b 0x03) constant  -- "`00` false, `01` true, `02` none"
    (cond (ltb b 0x08) float  -- "`03`..`07`: float bodies"
    (cond (ltb b 0x09) text  -- "`08` and a length: text"
    (cond (ltb b 0x0a) array  -- "`09` and a count"
    (cond (ltb b 0x0b) entries  -- "`0a` and a count"
    (cond (ltb b 0x0c) map  -- "`0b` and a count"
    (cond (ltb b 0x0d) binary  -- "`0c` and a length: binary"
    (cond (ltb b 0x0e) special  -- "`0d 0d`": a declaration, "`0d 00`": a foreign document
    (cond (ltb b 0x10) nothing  -- "3 marker: `0e`, `0f`"
    (cond (ltb b 0x18) signed_body  -- "`10`..`17`: signed bodies"
    (cond (ltb b 0x20) unsigned_body  -- "`18`..`1f`: unsigned"
    (cond (ltb b 0x80) small  -- "`20`..`3f`: -31..0. `40`..`7f`: 1..64"
    (cond (ltb b 0xa0) text  -- "`80`..`9f`: text of 1..32 bytes"
    (cond (ltb b 0xb0) array  -- "`a0`..`af`: array of 1..16"
    (cond (ltb b 0xb8) entries  -- "`b0`..`b7`: record of 1..8 entries"
    (cond (ltb b 0xc0) map  -- "`b8`..`bf`: map of 1..8"
    (cond (ltb b 0xc1) char  -- "`c0` and 3 bytes: a char"
    reference))))))))))))))))  -- "`c1`..`fe`: reference 0..61; `ff` and a number"

-- n, with `next` behind it
abbrev pub counts : ℕ → ℕ → Count
counts n next = record { value = n; next = next }

-- a text or a key of `size` bytes at `place`
abbrev pub spells : ℕ → ℕ → Spelling
spells place size = record { place = place; size = size }

-- why the position `at` is refused
abbrev pub refused : Refusal → ℕ → Refused
refused e at = record { why = e; place = at }

abbrev pub refuse : Refusal → ℕ → Result Head Refused
refuse e at = Err (refused e at)

-- a length, count or number, or why the position `at` is refused that says it
abbrev pub placed : ℕ → Result Count Refusal → Result Count Refused
placed at (Ok c) = Ok c
placed at (Err e) = Err (refused e at)

-- the bytes from `at` up to `stop`
abbrev pub between : List ℕ → ℕ → ℕ → List ℕ
between s at stop = take (stop - at) (drop at s)

-- "4 huge: length, count or number above 16,777,215"; the marker was looked at before, so `other` does not occur
abbrev pub count_of : ℕ → Coded → Result Count Refusal
count_of at (is n used) = cond (leb n limit) (Ok (counts n (at + used))) (Err why.Huge)
count_of at short = Err why.Short
count_of at other = Err why.Marker

-- the number of a family at `at`
unfoldable pub count_at : Family → List ℕ → ℕ → ℕ → Result Count Refusal
count_at F s at stop = count_of at (coded F (between s at stop))

-- a leaf whose body has size bytes from place on, or "2 short: bytes end inside an item"
abbrev pub bodied : ℕ → Content → ℕ → ℕ → ℕ → Result Head Refused
bodied at c place size stop = cond (leb size (stop - place)) (Ok (Leaf c (place + size))) (refuse why.Short at)

-- "Text follows RFC 3629", asked once its bytes are there
abbrev pub spelled : ℕ → ℕ → Text → Result Spelling Refusal
spelled place size (Ok u) = Ok (spells place size)
spelled place size (Err e) = Err why.Text

abbrev pub spelling : List ℕ → ℕ → ℕ → ℕ → Result Spelling Refusal
spelling s place size stop = cond (leb size (stop - place)) (spelled place size (text_of (take size (drop place s)))) (Err why.Short)

-- text behind its length: a text's, or a key's
abbrev pub spelling_of : List ℕ → ℕ → Result Count Refusal → Result Spelling Refusal
spelling_of s stop (Ok c) = spelling s c.next c.value stop
spelling_of s stop (Err e) = Err e

-- "0..0x10FFFF without D800..DFFF"
abbrev pub codepoint : ℕ → Bool
codepoint c = leb c 0x10FFFF && not (leb 0xD800 c && leb c 0xDFFF)

abbrev pub char_body : ℕ → ℕ → Result Head Refused
char_body at c = cond (codepoint c) (Ok (Leaf (holds.Char c) (at + 4))) (refuse why.Char at)

abbrev pub char_head : List ℕ → ℕ → ℕ → Result Head Refused
char_head s at stop = cond (leb 3 (stop - (at + 1))) (char_body at (number (take 3 (drop (at + 1) s)))) (refuse why.Short at)

-- "`03`..`07`: float bodies of 2, 4, 8, 16, 32 bytes"
abbrev pub float_sizes : List ℕ
float_sizes = 2 ∷ 4 ∷ 8 ∷ 16 ∷ 32 ∷ []

abbrev pub float_size : ℕ → ℕ
float_size b = get_or float_sizes (b - 0x03) 0

-- "`10`..`17`: signed bodies of 1, 2, 3, 4, 6, 8, 12, 16 bytes; `18`..`1f`: unsigned, same sizes"
abbrev pub integer_head : ℕ → ℕ → ℕ → Bool → Result Head Refused
integer_head at stop rank signed = bodied at (holds.Integer signed (at + 1) (size_at rank)) (at + 1) (size_at rank) stop

-- what a length, count or number is followed by, or its refusal
abbrev pub with_count : ℕ → Result Count Refusal → (ℕ → ℕ → Result Head Refused) → Result Head Refused
with_count at (Ok c) rest = rest c.value c.next
with_count at (Err e) rest = refuse e at

abbrev pub text_head : ℕ → Result Spelling Refusal → Result Head Refused
text_head at (Ok x) = Ok (Leaf (holds.Span kind_text x.place x.size) (x.place + x.size))
text_head at (Err e) = refuse e at

abbrev pub binary_head : ℕ → ℕ → Result Count Refusal → Result Head Refused
binary_head at stop c = with_count at c (λ n place. bodied at (holds.Span kind_binary place n) place n stop)

abbrev pub holder_head : Holder → ℕ → Result Count Refusal → Result Head Refused
holder_head h at c = with_count at c (λ n next. Ok (Hold h n next))

abbrev pub refer_head : ℕ → Result Count Refusal → Result Head Refused
refer_head at c = with_count at c (λ n next. Ok (Refer n next))

-- "8 empty registry: declaration of 0"
abbrev pub declare_head : ℕ → Result Count Refusal → Result Head Refused
declare_head at c = with_count at c (λ n next. cond (eqb n 0) (refuse why.Empty at) (Ok (Declare n next)))

-- "A body running past the bytes around it is a fault of the position that holds it."
abbrev pub foreign_head : ℕ → ℕ → Result Count Refusal → Result Head Refused
foreign_head at stop c = with_count at c (λ n place. cond (leb n (stop - place)) (Ok (Foreign place n)) (refuse why.Short at))

-- "`0d` before other than `0d`, `00`" is refused
abbrev pub second_head : List ℕ → ℕ → ℕ → ℕ → Result Head Refused
second_head s at stop b =
    cond (eqb b 0x0d) (declare_head at (count_at declaration_count s at stop))
    (cond (eqb b 0x00) (foreign_head at stop (count_at foreign_length s at stop))
    (refuse why.Marker at))

abbrev pub special_head : List ℕ → ℕ → ℕ → Result Head Refused
special_head s at stop = cond (ltb (at + 1) stop) (second_head s at stop (get_or s (at + 1) 0)) (refuse why.Short at)

-- the byte b at `at`, by what it begins
unfoldable pub head_by : List ℕ → ℕ → ℕ → ℕ → Marker → Result Head Refused
head_by s at stop b constant = Ok (Leaf (holds.Constant (b + 1)) (at + 1))
head_by s at stop b small = Ok (Leaf (holds.Small b) (at + 1))
head_by s at stop b signed_body = integer_head at stop (b - 0x10) true
head_by s at stop b unsigned_body = integer_head at stop (b - 0x18) false
head_by s at stop b float = bodied at (holds.Span kind_float (at + 1) (float_size b)) (at + 1) (float_size b) stop
head_by s at stop b text = text_head at (spelling_of s stop (count_at text_length s at stop))
head_by s at stop b binary = binary_head at stop (count_at binary_length s at stop)
head_by s at stop b char = char_head s at stop
head_by s at stop b array = holder_head Array at (count_at array_count s at stop)
head_by s at stop b entries = holder_head Record at (count_at record_count s at stop)
head_by s at stop b map = holder_head Map at (count_at map_count s at stop)
head_by s at stop b reference = refer_head at (count_at reference_number s at stop)
head_by s at stop b special = special_head s at stop
head_by s at stop b nothing = refuse why.Marker at

-- what stands at `at`
unfoldable pub head_at : List ℕ → ℕ → ℕ → Result Head Refused
head_at s at stop = cond (ltb at stop) (head_by s at stop (get_or s at 0) (marker_of (get_or s at 0))) (refuse why.Short at)

-- "A record key is a length and text, with no marker"
unfoldable pub key_at : List ℕ → ℕ → ℕ → Result Spelling Refusal
key_at s at stop = spelling_of s stop (count_at key_length s at stop)
