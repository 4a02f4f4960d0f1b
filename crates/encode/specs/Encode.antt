-- The bytes of a tree: each value in the fewest that its kind and size of float allow. Assumes nothing: these are definitions.
use Rattle.std.specs.Prelude.{ℕ, suc, ◌+◌, ◌-◌, Bool, true, false, cond, List, [], ◌∷◌, ◌++◌, length, take, drop, eqb}
use Rattle.wide.specs.Number.{bytes_of}
use Rattle.wide.specs.Words.{value_of, words}
use Rattle.wide.specs.Family.{Family, form}
use Rattle.wide.specs.Members.{integer_signed, integer_unsigned, text_length, binary_length, array_count, record_count, map_count, key_length, reference_number, declaration_count, foreign_length}
use Rattle.format.specs.declared.head.Holder.{Holder}
use Rattle.format.specs.declared.head.Holder.TheVariants.{Array, Record, Map}
use Rattle.rows.specs.Table.{Own, with_place}
use Rattle.format.specs.Tree.{Tree, leaf, refer, hold, declare, foreign, damaged, Trees, none, more}
use Rattle.format.specs.Head.{float_sizes}
use Rattle.rules.specs.declared.kind.Kind.{Kind}
use Rattle.rules.specs.declared.kind.Kind.TheVariants.{Constant, Small, Signed, Unsigned, Float, Text, Holds, Binary, Char, Reference, Declaration, Whole, Damaged, Key, Unknown}
use Rattle.rules.specs.Shape.{named}

-- where a number stands in a list
abbrev pub index_in : List ℕ → ℕ → ℕ
index_in [] n = 0
index_in (m ∷ ms) n = cond (eqb n m) 0 (suc (index_in ms n))

-- "`03`..`07`: float bodies of 2, 4, 8, 16, 32 bytes"
unfoldable pub float_marker : ℕ → ℕ
float_marker size = 0x03 + index_in float_sizes size

-- the counts of holders
abbrev pub holder_count : Holder → Family
holder_count Array = array_count
holder_count Record = record_count
holder_count Map = map_count

-- What stands before a row's payload, or before its children, which take `size` bytes: a row that says o, and what its kind names. "The length
-- of a whole body is written before the body."
unfoldable pub head_for : Own → ℕ → Kind → List ℕ
head_for o size Constant = (o.kind - 1) ∷ []
head_for o size Small = form integer_signed (value_of (words o.w0 o.w1 o.w2 o.w3))
head_for o size Signed = form integer_signed (value_of (words o.w0 o.w1 o.w2 o.w3))
head_for o size Unsigned = form integer_unsigned (value_of (words o.w0 o.w1 o.w2 o.w3))
head_for o size Float = float_marker o.w1 ∷ []
head_for o size Text = form text_length o.w1
head_for o size (Holds holder) = form (holder_count holder) o.w0
head_for o size Binary = form binary_length o.w1
head_for o size Char = 0xc0 ∷ bytes_of 3 o.w0
head_for o size Reference = form reference_number o.w0
head_for o size Declaration = form declaration_count o.w0
head_for o size Whole = form foreign_length size
head_for o size Damaged = form foreign_length o.w1
head_for o size Key = form key_length o.w1
head_for o size Unknown = 0x0e ∷ []  -- no table that passes the check has one

abbrev pub head_of : Own → ℕ → List ℕ
head_of o size = head_for o size (named o)

-- "7 float, 8 text, 12 binary, 17 key | w0 place in the data, w1 size"; "a damaged body's bytes count as payload"
abbrev pub has_bytes : Kind → Bool
has_bytes Constant = false
has_bytes Small = false
has_bytes Signed = false
has_bytes Unsigned = false
has_bytes Float = true
has_bytes Text = true
has_bytes (Holds holder) = false
has_bytes Binary = true
has_bytes Char = false
has_bytes Reference = false
has_bytes Declaration = false
has_bytes Whole = false
has_bytes Damaged = true
has_bytes Key = true
has_bytes Unknown = false

-- the bytes of the data that a row has
abbrev pub payload_of : List ℕ → Own → List ℕ
payload_of s o = cond (has_bytes (named o)) (take o.w1 (drop o.w0 s)) []

-- the same row with its payload, if it has one, at `place`
abbrev pub moved : Own → ℕ → Own
moved o place = cond (has_bytes (named o)) (with_place o place) o

-- "It writes each value in the fewest bytes its kind and size of float allow, keeping declarations and foreign headers."
unfoldable mutual
  pub encode : List ℕ → Tree → List ℕ
  encode s (leaf o) = head_of o 0 ++ payload_of s o
  encode s (refer o) = head_of o 0
  encode s (hold o ts) = head_of o (length (encodes s ts)) ++ encodes s ts
  encode s (declare o es t) = head_of o (length (encodes s es ++ encode s t)) ++ (encodes s es ++ encode s t)
  encode s (foreign o t) = head_of o (length (encode s t)) ++ encode s t
  encode s (damaged o) = head_of o 0 ++ payload_of s o

  pub encodes : List ℕ → Trees → List ℕ
  encodes s none = []
  encodes s (more t ts) = encode s t ++ encodes s ts
