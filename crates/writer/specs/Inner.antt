-- What the rows of a table spell. Assumes nothing: these are definitions, and they are cited inside the crate only.
use Rattle.std.specs.Prelude.{◌≡◌, List, [], ◌++◌, ℕ, ◌+◌, ◌≤◌, ◌<◌, length}
use Rattle.std.proofs.lemmas.List.Edits.{sets}
use Rattle.rows.specs.declared.row.Row.{Row}
use Rattle.rows.specs.Table.{row_at, lent, limit}
use Rattle.plan.specs.Inner.{own_head}
use Rattle.spell.specs.Inner.{Inside, own_bytes}

-- the rows from `row` to `stop` spell `bytes`: a row's own, those of its children, and those of the rows behind its end
pub data Spells (table s : List ℕ) : ℕ → ℕ → List ℕ → Type 0 where
  none : (row stop : ℕ) (bytes : List ℕ) → row ≡ stop → bytes ≡ [] → Spells table s row stop bytes
  next : (row stop : ℕ) (bytes body rest : List ℕ) → row < (row_at table row).end → (row_at table row).end ≤ stop → Inside s (row_at table row)
      → Spells table s (row + 1) (row_at table row).end body → Spells table s (row_at table row).end stop rest
      → bytes ≡ own_bytes s (row_at table row) (length body) ++ (body ++ rest) → Spells table s row stop bytes

-- they are rows of the table and spell something, over some data within the limit
pub record Spelt (table : List ℕ) (row stop : ℕ) : Type 0 where
  pub rows-lent : stop ≤ lent table
  pub few : stop ≤ limit
  pub over : List ℕ
  pub short : length over ≤ limit
  pub bytes : List ℕ
  pub spells : Spells table over row stop bytes

-- whatever they spell has that length
pub record Long (table : List ℕ) (row stop size : ℕ) : Type 0 where
  pub long : (s bytes : List ℕ) → Spells table s row stop bytes → size ≡ length bytes

-- the row's own bytes are the same for that size as for that of its children
pub record Told (table : List ℕ) (row : ℕ) (w : Row) (size : ℕ) : Type 0 where
  pub told : (s bytes : List ℕ) → Spells table s (row + 1) w.end bytes → own_head w size ≡ own_head w (length bytes)

-- the first n rows spell something over the data s, and an output of that room holds it
pub record RoomFor (table s : List ℕ) (n room : ℕ) : Type 0 where
  pub rows-lent : n ≤ lent table
  pub few : n ≤ limit
  pub short : length s ≤ limit
  pub bytes : List ℕ
  pub spells : Spells table s 0 n bytes
  pub fits : length bytes ≤ room

-- what they spell stands at the front of the output; the rest of it is as it was
pub record FrontLaid (table s : List ℕ) (n : ℕ) (before after : List ℕ) : Type 0 where
  pub laid : (bytes : List ℕ) → Spells table s 0 n bytes → after ≡ sets before 0 bytes
