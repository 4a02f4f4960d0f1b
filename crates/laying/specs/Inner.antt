-- Words of the contracts inside: what laying rows asks, and what it does. P is what a position reads as, Q what positions in a row read as;
-- how they are read plays no part. Definitions only, which no promise to a user cites.
use Rattle.std.specs.Prelude.{◌≡◌, Bool, true, false, Option, Some, None, List, ℕ, ◌+◌, ◌*◌, ◌≤◌, ◌<◌, Result, Ok}
use Rattle.std.proofs.lemmas.List.Edits.{sets}
use Rattle.rows.specs.Table.{words_per_row, words_of, lent, limit}
use Rattle.rows.specs.Kinds.{own, leaf_row, kind_key, span_own}
use Rattle.format.specs.declared.refusal.Refusal.{Refusal}
use Rattle.format.specs.Refusal.{refusal_number}
use Rattle.format.specs.declared.head.Spelling.{Spelling}
use Rattle.format.specs.declared.head.Children.{Children}
use Rattle.format.specs.Tree.{Tree, leaf, Trees, none, size, sizes}
use Rattle.format.specs.Value.{Reading, right, wrong, Readings, ran, broke, in_force}
use Rattle.format.specs.Layout.{is_entry, layout, layouts}
use Rattle.measure.specs.Inner.{harmed, some_harmed, place_and_row, place_in, row_in}
use Rattle.registry.specs.Inner.{walk, chain, Below, first_in, Based}
use Rattle.format.specs.Head.{spells}

-- ---- a right reading: its tree, and the place behind it

unfoldable pub Right : Reading → Type 0
Right (right t next) = Unit {0}
Right (wrong e place) = ⊥

unfoldable pub tree_read : Reading → Tree
tree_read (right t next) = t
tree_read (wrong e place) = leaf (own 0 0 0 0 0)

unfoldable pub next_of : Reading → ℕ
next_of (right t next) = next
next_of (wrong e place) = 0

unfoldable pub Ran : Readings → Type 0
Ran (ran ts next) = Unit {0}
Ran (broke e place) = ⊥

unfoldable pub trees_read : Readings → Trees
trees_read (ran ts next) = ts
trees_read (broke e place) = none

unfoldable pub nexts_of : Readings → ℕ
nexts_of (ran ts next) = next
nexts_of (broke e place) = 0

-- ---- one position

-- P is right, its rows from `row` on are lent, the k entries in force stand before them, and where there is no doubt none of its foreign
-- documents is damaged
pub record Ready (P : Reading) (doubt : Bool) (table : List ℕ) (row base k : ℕ) : Type 0 where
  pub good : Right P
  pub room : row + size (tree_read P) ≤ lent table
  pub small : row + size (tree_read P) ≤ limit
  pub below : Below table (first_in base) k row
  pub based : Based table base k
  pub sure : (doubt ≡ false → harmed (tree_read P) ≡ false)

-- its rows stand in the table; f has the place and the row behind it
pub record Did (P : Reading) (table : List ℕ) (row first k : ℕ) (table' : List ℕ) (f : ℕ) : Type 0 where
  pub words : table' ≡ sets table (words_per_row * row) (layout (tree_read P) row (chain table first k))
  pub place : place_in f ≡ next_of P
  pub past : row_in f ≡ row + size (tree_read P)

-- nothing is laid, and it is no key
pub record NotLaid (key : Bool) (table table' : List ℕ) : Type 0 where
  pub kept : table' ≡ table
  pub other : key ≡ false

-- P takes one row, which stands in the table, and ends at `next`
pub record OneLaid (P : Reading) (table : List ℕ) (row first k : ℕ) (table' : List ℕ) (next : ℕ) : Type 0 where
  pub low : next ≤ limit
  pub did : Did P table row first k table' (place_and_row next (row + 1))

abbrev pub OneTried : Reading → Bool → List ℕ → ℕ → ℕ → ℕ → List ℕ → Option ℕ → Type 0
OneTried P key table row first k table' None = NotLaid key table table'
OneTried P key table row first k table' (Some next) = OneLaid P table row first k table' next

-- ---- positions in a row, the first of them number i of what holds them, which has k entries in force around it

-- where they are entries, the last one in force ends at `row`
pub record ReadyAll (Q : Readings) (c : Children) (doubt : Bool) (table : List ℕ) (row base k i : ℕ) : Type 0 where
  pub good : Ran Q
  pub room : row + sizes (trees_read Q) ≤ lent table
  pub small : row + sizes (trees_read Q) ≤ limit
  pub below : Below table (first_in base) (in_force c k i) row
  pub based : Based table base (in_force c k i)
  pub sure : (doubt ≡ false → some_harmed (trees_read Q) ≡ false)
  pub walked : (is_entry c ≡ true → base < 4294967296)
  pub linked : (is_entry c ≡ true → walk table (first_in base) (in_force c k i) ≡ row)

pub record DidAll (Q : Readings) (c : Children) (table : List ℕ) (row first k i : ℕ) (table' : List ℕ) (f : ℕ) : Type 0 where
  pub words : table' ≡ sets table (words_per_row * row) (layouts (trees_read Q) (is_entry c) row (chain table first (in_force c k i)))
  pub place : place_in f ≡ nexts_of Q
  pub past : row_in f ≡ row + sizes (trees_read Q)

-- ---- a key laid, whose text is x and ends at r

pub record KeyLaid (x : Result Spelling Refusal) (table : List ℕ) (row : ℕ) (table' : List ℕ) (r : ℕ) : Type 0 where
  pub place : ℕ
  pub size : ℕ
  pub is : x ≡ Ok (spells place size)
  pub ends : r ≡ place + size
  pub put : table' ≡ sets table (words_per_row * row) (words_of (leaf_row (span_own kind_key place size) row))

-- ---- a foreign body that reads as X is damaged, and this is its verdict

pub record Damaged (X : Reading) (verdict : ℕ) : Type 0 where
  pub reason : Refusal
  pub place : ℕ
  pub is : X ≡ wrong reason place
  pub number : verdict ≡ refusal_number reason
