-- Words of the contracts inside: a row's own bytes, those of its value without those of its children. Definitions only, which no promise to
-- a user cites.
use Rattle.std.specs.Prelude.{◌≡◌, true, cond, List, ◌++◌, ℕ, ◌+◌, ◌≤◌, length}
use Rattle.rows.specs.declared.row.Row.{Row}
use Rattle.rows.specs.Table.{own_of}
use Rattle.rules.specs.Shape.{named}
use Rattle.encode.specs.Encode.{has_bytes, payload_of}
use Rattle.plan.specs.Inner.{own_head}

-- what stands before the row's payload or its children, with its payload in the data s
unfoldable pub own_bytes : List ℕ → Row → ℕ → List ℕ
own_bytes s w size = own_head w size ++ payload_of s (own_of w)

-- how many they are, where the payload lies in the data
unfoldable pub own_size : Row → ℕ → ℕ
own_size w size = length (own_head w size) + cond (has_bytes (named (own_of w))) w.w1 0

-- "every payload lies in the data"
unfoldable pub Inside : List ℕ → Row → Type 0
Inside s w = has_bytes (named (own_of w)) ≡ true → w.w0 + w.w1 ≤ length s
