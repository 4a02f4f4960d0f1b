-- What a value position, and a document, read as. Assumes nothing: these are definitions.
use Rattle.std.specs.Prelude.{ℕ, zero, suc, ◌+◌, ◌*◌, ◌%◌, Bool, true, false, cond, List, length, take, drop, ltb, eqb, Result, Ok, Err}
use Rattle.wide.specs.declared.wide.Wide.{Wide}
use Rattle.wide.specs.Words.{wide_of}
use Rattle.wide.specs.Body.{body_value}
use Rattle.wide.specs.Family.{number_of, has_number}
use Rattle.wide.specs.Members.{integer_signed, integer_unsigned}
use Rattle.rows.specs.Table.{Own}
use Rattle.rows.specs.Kinds.{kind_small, kind_signed, kind_unsigned, kind_array, kind_record, kind_map, kind_key, own, constant_own, span_own, holder_own, char_own, reference_own, declaration_own, foreign_own, damaged_own}
use Rattle.format.specs.declared.refused.Refused.{Refused}
use Rattle.format.specs.declared.refusal.Refusal.{Refusal}
use Rattle.format.specs.declared.refusal.Refusal.TheVariants as why
use Rattle.format.specs.declared.head.Spelling.{Spelling}
use Rattle.format.specs.declared.head.Content.{Content}
use Rattle.format.specs.declared.head.Content.TheVariants as holds
use Rattle.format.specs.declared.head.Holder.{Holder}
use Rattle.format.specs.declared.head.Holder.TheVariants.{Array, Record, Map}
use Rattle.format.specs.declared.head.Head.{Head}
use Rattle.format.specs.declared.head.Head.TheVariants.{Leaf, Hold, Refer, Declare, Foreign}
use Rattle.format.specs.declared.head.Children.{Children}
use Rattle.format.specs.declared.head.Children.TheVariants.{Plain, Keyed, Entries}
use Rattle.format.specs.Refusal.{refusal_number}
use Rattle.format.specs.Tree.{Tree, leaf, refer, hold, declare, foreign, damaged, Trees, none, more}
use Rattle.format.specs.Head.{head_at, key_at}

-- what reading a position gives: the tree and the place behind it, or the refusal and its place
pub data Reading : Type 0 where
  right : (tree : Tree) → (next : ℕ) → Reading
  wrong : (reason : Refusal) → (place : ℕ) → Reading

-- the same of positions in a row
pub data Readings : Type 0 where
  ran : (trees : Trees) → (next : ℕ) → Readings
  broke : (reason : Refusal) → (place : ℕ) → Readings

-- how a value position is read one level down: entries in force, place, stop
abbrev pub Reader : Type 0
Reader = ℕ → ℕ → ℕ → Reading

-- ---- leaves

-- "4 small, 5 signed, 6 unsigned integer: w0..w3: 128 bits, low word first; two's complement for 4 and 5"
abbrev pub integer_own : ℕ → Wide → Own
integer_own kind w = own kind w.w0 w.w1 w.w2 w.w3

-- "An integer in -31..64 is kind 4 from every form; else its marker's signedness counts."
abbrev pub integer_kind : Bool → ℕ → ℕ
integer_kind true n = cond (has_number integer_signed.direct n) kind_small kind_signed
integer_kind false n = cond (has_number integer_unsigned.direct n) kind_small kind_unsigned

unfoldable pub leaf_own : List ℕ → Content → Own
leaf_own s (holds.Constant kind) = constant_own kind
leaf_own s (holds.Small marker) = integer_own kind_small (wide_of (number_of integer_signed.direct marker))
leaf_own s (holds.Integer signed place size) =
    integer_own (integer_kind signed (body_value signed (take size (drop place s)))) (wide_of (body_value signed (take size (drop place s))))
leaf_own s (holds.Span kind place size) = span_own kind place size
leaf_own s (holds.Char codepoint) = char_own codepoint

-- ---- children

abbrev pub kind_of : Holder → ℕ
kind_of Array = kind_array
kind_of Record = kind_record
kind_of Map = kind_map

-- "a record: key and value in turn; a map: two an entry"
abbrev pub child_count : Holder → ℕ → ℕ
child_count Array n = n
child_count Record n = 2 * n
child_count Map n = 2 * n

abbrev pub children_of : Holder → Children
children_of Array = Plain
children_of Record = Keyed
children_of Map = Plain

-- "A record key is a length and text": a key's row, by how it is spelled
abbrev pub keyed : ℕ → Result Spelling Refusal → Reading
keyed at (Ok x) = right (leaf (span_own kind_key x.place x.size)) (x.place + x.size)
keyed at (Err e) = wrong e at

-- "a record: key and value in turn": whether child number i is a key
abbrev pub is_key : Children → ℕ → Bool
is_key Plain i = false
is_key Keyed i = eqb (i % 2) 0
is_key Entries i = false

-- "While entry i of a declaration is read, entries 0..i-1 of that declaration are in force and nothing outside it": how many are in force for
-- child number i of what has `around` around it
abbrev pub in_force : Children → ℕ → ℕ → ℕ
in_force Plain around i = around
in_force Keyed around i = around
in_force Entries around i = i

-- a key, or a value
abbrev pub in_turn : Bool → Reader → List ℕ → ℕ → ℕ → ℕ → Reading
in_turn true R s around at stop = keyed at (key_at s at stop)
in_turn false R s around at stop = R around at stop

-- child number i
unfoldable pub child : Children → Reader → List ℕ → ℕ → ℕ → ℕ → ℕ → Reading
child c R s around i at stop = in_turn (is_key c i) R s (in_force c around i) at stop

abbrev pub ahead : Tree → Readings → Readings
ahead t (ran ts next) = ran (more t ts) next
ahead t (broke e place) = broke e place

-- one reading, then what follows at the place behind it
abbrev pub follow : Reading → (ℕ → Readings) → Readings
follow (right t next) rest = ahead t (rest next)
follow (wrong e place) rest = broke e place

-- n children in a row, the first of them number i
unfoldable pub readings : Reader → Children → List ℕ → ℕ → ℕ → ℕ → ℕ → ℕ → Readings
readings R c s around i zero at stop = ran none at
readings R c s around i (suc n) at stop = follow (child c R s around i at stop) (λ next. readings R c s around (i + 1) n next stop)

-- ---- a value position

abbrev pub holding : Own → Readings → Reading
holding o (ran ts next) = right (hold o ts) next
holding o (broke e place) = wrong e place

-- "7 no entry: reference not in force"
abbrev pub referred : Bool → ℕ → ℕ → ℕ → Reading
referred true number at next = right (refer (reference_own number 0)) next
referred false number at next = wrong why.NoEntry at

abbrev pub closed : ℕ → Trees → Reading → Reading
closed n es (right t next) = right (declare (declaration_own n) es t) next
closed n es (wrong e place) = wrong e place

-- "in its value position all n are, and they alone"
abbrev pub declaring : ℕ → Readings → Reader → ℕ → Reading
declaring n (ran es next) R stop = closed n es (R n next stop)
declaring n (broke e place) R stop = wrong e place

-- "A document is one value position, then the end."
abbrev pub ended : Bool → Tree → ℕ → Reading
ended true t next = right t next
ended false t next = wrong why.Extra next

abbrev pub whole : ℕ → Reading → Reading
whole stop (right t next) = ended (eqb next stop) t next
whole stop (wrong e place) = wrong e place

-- "A foreign body that is not a whole right document is damaged: its bytes are skipped, it gets one row with its verdict"
abbrev pub framed : ℕ → ℕ → Reading → Reading
framed place size (right t next) = right (foreign foreign_own t) (place + size)
framed place size (wrong e p) = right (damaged (damaged_own place size (refusal_number e))) (place + size)

-- "A foreign body is read as a document of its own", and "no registry is in force at the start of a foreign body" (request §2): how many entries
-- are in force there, of those around it
unfoldable pub in_foreign : ℕ → ℕ
in_foreign around = 0

-- by what stands at the position, with `around` entries in force; R reads one level down
unfoldable pub step : Reader → List ℕ → ℕ → ℕ → ℕ → Result Head Refused → Reading
step R s around at stop (Ok (Leaf c next)) = right (leaf (leaf_own s c)) next
step R s around at stop (Ok (Hold h n next)) = holding (holder_own (kind_of h) n) (readings R (children_of h) s around 0 (child_count h n) next stop)
step R s around at stop (Ok (Refer n next)) = referred (ltb n around) n at next
step R s around at stop (Ok (Declare n next)) = declaring n (readings R Entries s 0 0 n next stop) R stop
step R s around at stop (Ok (Foreign place size)) = framed place size (whole (place + size) (R (in_foreign around) place (place + size)))
step R s around at stop (Err w) = wrong w.why w.place

-- "elements, record values, map keys and values, declared entries, a declaration's value and a foreign body are one deeper than what holds
-- them": a value position with `levels` levels left, its own with them; "9 deep" where none is
unfoldable pub value : ℕ → List ℕ → ℕ → ℕ → ℕ → Reading
value zero s around at stop = wrong why.Deep at
value (suc levels) s around at stop = step (value levels s) s around at stop (head_at s at stop)

-- "The document's is 0": a document whose positions nest to `depth`
unfoldable pub document : ℕ → List ℕ → Reading
document depth s = whole (length s) (value (suc depth) s 0 0 (length s))
