-- The row rules: the tree that stands in the rows of a table. Positions only; what a row says itself is judged in Shape. Assumes nothing: these
-- are definitions.
use Rattle.std.specs.Prelude.{ℕ, zero, suc, ◌+◌, Bool, true, false, cond, ◌&&◌, List, [], length, get_or, ltb, leb, eqb}
use Rattle.rows.specs.declared.row.Row.{Row}
use Rattle.rows.specs.Table.{Own, own_of, row_at, lent, limit, aimed}
use Rattle.format.specs.declared.head.Children.{Children}
use Rattle.format.specs.declared.head.Children.TheVariants.{Entries}
use Rattle.format.specs.Tree.{Tree, leaf, refer, hold, declare, foreign, damaged, Trees, none, more}
use Rattle.format.specs.Value.{Reading, right, wrong, child_count, children_of, in_foreign, value, whole, is_key}
use Rattle.format.specs.Layout.{is_entry, grown, entries, in_body}
use Rattle.rules.specs.declared.shape.Shape.{Shape}
use Rattle.rules.specs.declared.shape.Shape.TheVariants.{Bad, Leaf, Refer, Hold, Declare, Whole, Damaged}
use Rattle.rules.specs.Shape.{shape_of, key_fits}
use Rattle.format.specs.Refusal.{refusal_number}

-- the tree that stands from a row on and the row behind it, or that a rule is broken
pub data Growth : Type 0 where
  grew : (tree : Tree) → (next : ℕ) → Growth
  bad : Growth

-- the same of trees in a row
pub data Growths : Type 0 where
  grew_all : (trees : Trees) → (next : ℕ) → Growths
  bad_all : Growths

-- how a tree grows one level down: the rows of the entries in force, and its own row
abbrev pub Grower : Type 0
Grower = List ℕ → ℕ → Growth

-- "a leaf ends at its row + 1", and a holder behind its children
abbrev pub ends_at : ℕ → Growth → Growth
ends_at end (grew t next) = cond (eqb next end) (grew t next) bad
ends_at end bad = bad

abbrev pub at_front : Tree → Growths → Growths
at_front t (grew_all ts next) = grew_all (more t ts) next
at_front t bad_all = bad_all

-- one growth, then what follows at the row behind it
abbrev pub and_then : Growth → (ℕ → Growths) → Growths
and_then (grew t next) rest = at_front t (rest next)
and_then bad rest = bad_all

-- ---- by what a row that says o holds

-- "w0 number, w1 row of that entry": "a reference needs an entry in force"
abbrev pub pointing : List ℕ → ℕ → Own → Growth
pointing registry row o = cond (ltb o.w0 (length registry) && eqb o.w1 (get_or registry o.w0 0)) (grew (refer (aimed o 0)) (row + 1)) bad

abbrev pub over_children : Own → Growths → Growth
over_children o (grew_all ts next) = grew (hold o ts) next
over_children o bad_all = bad

abbrev pub over_value : Own → Trees → Growth → Growth
over_value o es (grew t next) = grew (declare o es t) next
over_value o es bad = bad

-- "a declaration: w0 + 1" children: w0 entries, the first of them at `row`, and the value, where they all are in force
abbrev pub over_entries : Grower → Own → ℕ → Growths → Growth
over_entries G o row (grew_all es next) = over_value o es (G (entries es row []) next)
over_entries G o row bad_all = bad

abbrev pub over_body : Own → Growth → Growth
over_body o (grew t next) = grew (foreign o t) next
over_body o bad = bad

-- "a damaged row's verdict is what reading those bytes there gives"
abbrev pub judged : ℕ → Own → Reading → Growth
judged row o (right t next) = bad
judged row o (wrong e place) = cond (eqb o.w2 (refusal_number e)) (grew (damaged o) (row + 1)) bad

-- the row w at `row`, as a key over the data s
abbrev pub key_row : List ℕ → ℕ → Row → Growth
key_row s row w = ends_at w.end (cond (key_fits s (own_of w)) (grew (leaf (own_of w)) (row + 1)) bad)

-- ---- the first n rows of a table over the data s

module _ (table : List ℕ) (n : ℕ) (s : List ℕ) where
  -- "keys stand only as record keys"
  unfoldable pub grow_key : ℕ → Growth
  grow_key row = cond (ltb row n) (key_row s row (row_at table row)) bad

  unfoldable pub item : Bool → Grower → List ℕ → ℕ → Growth
  item true G registry row = grow_key row
  item false G registry row = G registry row

  -- "children stand back to back": `count` children from `row` on, the first of them number i
  unfoldable pub grows : Grower → Children → List ℕ → ℕ → ℕ → ℕ → Growths
  grows G c registry i zero row = grew_all none row
  grows G c registry i (suc count) row =
      and_then (item (is_key c i) G registry row) (λ next. grows G c (grown (is_entry c) registry row) (i + 1) count next)

  -- by the row's shape; G grows one level down, where `levels` are left
  unfoldable pub by_shape : Grower → ℕ → List ℕ → ℕ → Own → Shape → Growth
  by_shape G levels registry row o Bad = bad
  by_shape G levels registry row o Leaf = grew (leaf o) (row + 1)
  by_shape G levels registry row o Refer = pointing registry row o
  -- "in the number the holder says (a record: key and value in turn; a map: two an entry"
  by_shape G levels registry row o (Hold holder) = over_children o (grows G (children_of holder) registry 0 (child_count holder o.w0) (row + 1))
  by_shape G levels registry row o Declare = over_entries G o (row + 1) (grows G Entries [] 0 o.w0 (row + 1))
  -- "right: all 0, one child"
  by_shape G levels registry row o Whole = over_body o (G (in_body registry) (row + 1))
  by_shape G levels registry row o Damaged = judged row o (whole (o.w0 + o.w1) (value levels s (in_foreign (length registry)) o.w0 (o.w0 + o.w1)))

  abbrev pub row_grows : Grower → ℕ → List ℕ → ℕ → Row → Growth
  row_grows G levels registry row w = ends_at w.end (by_shape G levels registry row (own_of w) (shape_of s (own_of w)))

  -- "depth and references obey the section above": the tree at `row`, where `registry` has the rows of the entries in force and `levels` levels
  -- are left, its own with them
  unfoldable pub grow : ℕ → List ℕ → ℕ → Growth
  grow zero registry row = bad
  grow (suc levels) registry row = cond (ltb row n) (row_grows (grow levels) levels registry row (row_at table row)) bad

-- ---- a table

-- "row 0 ends at n and is not a key"
abbrev pub ends_with : ℕ → Growth → Bool
ends_with n (grew t next) = eqb next n
ends_with n bad = false

-- "n is 1 to 16,777,215 and the table holds n rows; data are at most 16,777,215 bytes"
unfoldable pub rules_hold : ℕ → List ℕ → ℕ → List ℕ → Bool
rules_hold depth table n s =
    leb 1 n && (leb n limit && (leb n (lent table) && (leb (length s) limit && ends_with n (grow table n s (suc depth) [] 0))))
