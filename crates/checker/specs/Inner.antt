-- What the functions of the check ask and answer. Assumes nothing: these are definitions, and they are cited inside the crate only.
use Rattle.std.specs.Prelude.{◌≡◌, ℕ, ◌+◌, ◌≤◌, ◌<◌, Bool, true, false, cond, ◌&&◌, List, Option, Some, None, ltb, eqb}
use Rattle.rows.specs.Table.{own_of, row_at, lent, limit}
use Rattle.registry.specs.Inner.{walk, Below, Based}
use Rattle.format.specs.declared.head.Children.{Children}
use Rattle.format.specs.Value.{in_force}
use Rattle.format.specs.Layout.{is_entry}
use Rattle.rules.specs.declared.shape.Shape.{Shape}
use Rattle.rules.specs.declared.shape.Shape.TheVariants.{Bad, Leaf, Refer, Hold, Declare, Whole, Damaged}
use Rattle.rules.specs.Shape.{shape_of}
use Rattle.rules.specs.Grow.{Growth, grew, bad, Growths, grew_all, bad_all}

-- the table holds n rows, and each of the k entries in force stands before `row`
pub record EntriesBefore (table : List ℕ) (n first k row : ℕ) : Type 0 where
  pub room : n ≤ lent table
  pub few : n ≤ limit
  pub here : row ≤ n
  pub below : Below table first k row

-- the same of child number i of the sort c: where the children are entries, the ends of those before it lead to its row
pub record EntriesBeforeChild (table : List ℕ) (n first k : ℕ) (c : Children) (i row : ℕ) : Type 0 where
  pub before : EntriesBefore table n first (in_force c k i) row
  pub linked : (is_entry c ≡ true → walk table first (in_force c k i) ≡ row)

-- the base of the k entries in force around the children of the sort c; entries among them are walked over
pub record BasedForChild (table : List ℕ) (base k : ℕ) (c : Children) : Type 0 where
  pub based : Based table base k
  pub walked : (is_entry c ≡ true → base < 4294967296)

-- whether a row of that shape has no child and ends behind itself
abbrev pub is_alone : Shape → ℕ → ℕ → Bool
is_alone Bad row end = false
is_alone Leaf row end = eqb end (row + 1)
is_alone Refer row end = false
is_alone (Hold holder) row end = false
is_alone Declare row end = false
is_alone Whole row end = false
is_alone Damaged row end = false

-- such a row stands at `row`
unfoldable pub stands_alone : List ℕ → ℕ → List ℕ → ℕ → Bool
stands_alone table n s row =
    ltb row n && is_alone (shape_of s (own_of (row_at table row))) row (row_at table row).end

-- how what grows stands: until the row behind it
abbrev pub extent_of : Growth → Option ℕ
extent_of (grew t next) = Some next
extent_of bad = None

abbrev pub extent_all : Growths → Option ℕ
extent_all (grew_all ts next) = Some next
extent_all bad_all = None

abbrev pub ending_at : ℕ → Option ℕ → Option ℕ
ending_at end (Some next) = cond (eqb next end) (Some next) None
ending_at end None = None

-- a damaged row whose verdict is `said`, where reading its bytes gave the refusal of that number
abbrev pub verdict_is : ℕ → ℕ → ℕ → Option ℕ
verdict_is row said number = cond (eqb said number) (Some (row + 1)) None
