-- What a row's own words make it: the paper's table of kinds. Assumes nothing: these are definitions.
use Rattle.std.specs.Prelude.{ℕ, ◌+◌, Bool, true, false, not, cond, ◌&&◌, ◌||◌, List, [], ◌∷◌, length, take, drop, ltb, leb, eqb}
use Rattle.wide.specs.Words.{value_of, words}
use Rattle.wide.specs.Family.{has_number}
use Rattle.wide.specs.Members.{integer}
use Rattle.text.specs.Check.{text_of, well_formed}
use Rattle.rows.specs.Table.{Own}
use Rattle.rows.specs.Kinds.{kind_false, kind_true, kind_none, kind_small, kind_signed, kind_unsigned, kind_float, kind_text, kind_array, kind_record, kind_map, kind_binary, kind_char, kind_reference, kind_declaration, kind_foreign, kind_key}
use Rattle.format.specs.declared.head.Holder.TheVariants.{Array, Record, Map}
use Rattle.format.specs.Head.{codepoint, float_sizes}
use Rattle.rules.specs.declared.kind.Kind.{Kind}
use Rattle.rules.specs.declared.kind.Kind.TheVariants.{Constant, Small, Signed, Unsigned, Float, Text as Spelt, Holds, Binary, Char, Reference, Declaration, Whole, Damaged, Key, Unknown}
use Rattle.rules.specs.declared.shape.Shape.{Shape}
use Rattle.rules.specs.declared.shape.Shape.TheVariants as shape

-- "Row kinds, with the numbers that every part uses"; a damaged foreign document has a verdict in w2, a right one has 0
unfoldable pub named : Own → Kind
named o =
    cond (eqb o.kind kind_false) Constant
    (cond (eqb o.kind kind_true) Constant
    (cond (eqb o.kind kind_none) Constant
    (cond (eqb o.kind kind_small) Small
    (cond (eqb o.kind kind_signed) Signed
    (cond (eqb o.kind kind_unsigned) Unsigned
    (cond (eqb o.kind kind_float) Float
    (cond (eqb o.kind kind_text) Spelt
    (cond (eqb o.kind kind_array) (Holds Array)
    (cond (eqb o.kind kind_record) (Holds Record)
    (cond (eqb o.kind kind_map) (Holds Map)
    (cond (eqb o.kind kind_binary) Binary
    (cond (eqb o.kind kind_char) Char
    (cond (eqb o.kind kind_reference) Reference
    (cond (eqb o.kind kind_declaration) Declaration
    (cond (eqb o.kind kind_foreign) (cond (eqb o.w2 0) Whole Damaged)
    (cond (eqb o.kind kind_key) Key
    Unknown))))))))))))))))

-- "unnamed ones are 0": the four words, with 0 for a named one
unfoldable pub blank : ℕ → ℕ → ℕ → ℕ → Bool
blank a b c d = eqb a 0 && (eqb b 0 && (eqb c 0 && eqb d 0))

-- "place + size is at most the data's length"
unfoldable pub inside : List ℕ → ℕ → ℕ → Bool
inside s place size = leb (place + size) (length s)

-- "An integer in -31..64 is kind 4 from every form": the number of the four words is one of these; an unsigned one is not below 0
abbrev pub is_small : Bool → Own → Bool
is_small signed o = has_number (integer signed).direct (value_of (words o.w0 o.w1 o.w2 o.w3))

-- "float bodies of 2, 4, 8, 16, 32 bytes"
unfoldable pub one_of : List ℕ → ℕ → Bool
one_of [] n = false
one_of (m ∷ ms) n = eqb n m || one_of ms n

-- "7 float, 8 text, 12 binary, 17 key: w0 place in the data, w1 size"
unfoldable pub span : List ℕ → Own → Bool
span s o = blank 0 0 o.w2 o.w3 && inside s o.w0 o.w1

unfoldable pub spelt : List ℕ → Own → Bool
spelt s o = span s o && well_formed (text_of (take o.w1 (drop o.w0 s)))

-- whether what a row says is right for its kind, over the data s
unfoldable pub fits : List ℕ → Own → Kind → Bool
fits s o Constant = blank o.w0 o.w1 o.w2 o.w3
fits s o Small = is_small true o
fits s o Signed = not (is_small true o)
fits s o Unsigned = not (is_small false o)
fits s o Float = span s o && one_of float_sizes o.w1
fits s o Spelt = spelt s o
fits s o (Holds holder) = blank 0 o.w1 o.w2 o.w3
fits s o Binary = span s o
fits s o Char = blank 0 o.w1 o.w2 o.w3 && codepoint o.w0
fits s o Reference = blank 0 0 o.w2 o.w3
fits s o Declaration = blank 0 o.w1 o.w2 o.w3 && ltb 0 o.w0  -- "w0 at least 1"
fits s o Whole = blank o.w0 o.w1 o.w2 o.w3  -- "right: all 0, one child"
fits s o Damaged = blank 0 0 0 o.w3 && inside s o.w0 o.w1  -- "Damaged: w0 place, w1 size, w2 verdict (2..10), no child"
fits s o Key = spelt s o
fits s o Unknown = false

-- the shape of a row of each kind
abbrev pub shape_for : Kind → Shape
shape_for Constant = shape.Leaf
shape_for Small = shape.Leaf
shape_for Signed = shape.Leaf
shape_for Unsigned = shape.Leaf
shape_for Float = shape.Leaf
shape_for Spelt = shape.Leaf
shape_for (Holds holder) = shape.Hold holder
shape_for Binary = shape.Leaf
shape_for Char = shape.Leaf
shape_for Reference = shape.Refer
shape_for Declaration = shape.Declare
shape_for Whole = shape.Whole
shape_for Damaged = shape.Damaged
shape_for Key = shape.Bad  -- "keys stand only as record keys"
shape_for Unknown = shape.Bad

abbrev pub shape_if : Bool → Kind → Shape
shape_if true kind = shape_for kind
shape_if false kind = shape.Bad

-- what a row that says o is at a value position, over the data s
unfoldable pub shape_of : List ℕ → Own → Shape
shape_of s o = shape_if (fits s o (named o)) (named o)

-- whether it is a record's key
abbrev pub key_fits : List ℕ → Own → Bool
key_fits s o = eqb o.kind kind_key && spelt s o
