-- What a right tree is, whatever table it stands in. Assumes nothing: these are definitions.
use Rattle.std.specs.Prelude.{◌≡◌, ℕ, suc, ◌+◌, ◌-◌, ◌*◌, ◌≤◌, ◌<◌, Bool, true, false, List, [], length, take}
use Rattle.rows.specs.Table.{words_per_row, Own, lent, limit}
use Rattle.format.specs.declared.refusal.Refusal.{Refusal}
use Rattle.format.specs.declared.head.Holder.{Holder}
use Rattle.format.specs.declared.head.Children.{Children}
use Rattle.format.specs.declared.head.Children.TheVariants.{Entries}
use Rattle.format.specs.Tree.{Tree, leaf, refer, hold, declare, foreign, damaged, Trees, none, more, many, size}
use Rattle.format.specs.Value.{wrong, child_count, children_of, in_foreign, value, whole, is_key}
use Rattle.format.specs.Layout.{is_entry, layout}
use Rattle.rules.specs.declared.shape.Shape.TheVariants.{Leaf, Refer, Hold, Declare, Whole, Damaged}
use Rattle.rules.specs.Shape.{shape_of, key_fits}
use Rattle.format.specs.Refusal.{refusal_number}

-- "a damaged row's verdict is what reading those bytes there gives": k entries are in force in the body, and `levels` levels are left
pub record Spoilt (s : List ℕ) (levels k : ℕ) (o : Own) : Type 0 where
  pub why : Refusal
  pub place : ℕ
  pub reads : whole (o.w0 + o.w1) (value levels s k o.w0 (o.w0 + o.w1)) ≡ wrong why place
  pub verdict : o.w2 ≡ refusal_number why

-- a record's key: a leaf
pub record KeyObeys (s : List ℕ) (t : Tree) : Type 0 where
  pub own : Own
  pub is : t ≡ leaf own
  pub fits : key_fits s own ≡ true

abbrev pub IfKey : Bool → Type 0 → Type 0 → Type 0
IfKey true A B = A
IfKey false A B = B

-- how many entries are in force behind a child
abbrev pub after : Bool → ℕ → ℕ
after true k = k + 1
after false k = k

-- a tree at a position with `levels` levels left, its own with them, where k entries are in force
unfoldable mutual
  pub Obeys : List ℕ → ℕ → ℕ → Tree → Type 0
  Obeys s levels k (leaf o) = (0 < levels) × (shape_of s o ≡ Leaf)
  -- the row of its entry is told by where it stands
  Obeys s levels k (refer o) = (0 < levels) × (shape_of s o ≡ Refer) × (o.w1 ≡ 0) × (o.w0 < k)
  -- "in the number the holder says (a record: key and value in turn; a map: two an entry"
  Obeys s levels k (hold o ts) =
      (0 < levels) × ((h : Holder) × (shape_of s o ≡ Hold h) × (many ts ≡ child_count h o.w0) × ObeyAll s (levels - 1) (children_of h) k 0 ts)
  Obeys s levels k (declare o es t) =
      (0 < levels) × (shape_of s o ≡ Declare) × (many es ≡ o.w0) × ObeyAll s (levels - 1) Entries 0 0 es × Obeys s (levels - 1) o.w0 t
  Obeys s levels k (foreign o t) = (0 < levels) × (shape_of s o ≡ Whole) × Obeys s (levels - 1) (in_foreign k) t
  Obeys s levels k (damaged o) = (0 < levels) × (shape_of s o ≡ Damaged) × Spoilt s (levels - 1) (in_foreign k) o

  -- children of the sort c, the first of them number i
  pub ObeyAll : List ℕ → ℕ → Children → ℕ → ℕ → Trees → Type 0
  ObeyAll s levels c k i none = Unit {0}
  ObeyAll s levels c k i (more t ts) = IfKey (is_key c i) (KeyObeys s t) (Obeys s levels k t) × ObeyAll s levels c (after (is_entry c) k) (i + 1) ts

-- the first n rows of the table are those of the right tree t over the data s, with positions down to `depth`
pub record Stands (depth : ℕ) (table : List ℕ) (n : ℕ) (s : List ℕ) (t : Tree) : Type 0 where
  pub some : 1 ≤ n
  pub few : n ≤ limit
  pub rows-lent : n ≤ lent table
  pub short : length s ≤ limit
  pub rows : size t ≡ n
  pub words : take (words_per_row * n) table ≡ layout t 0 []
  pub obeys : Obeys s (suc depth) 0 t
