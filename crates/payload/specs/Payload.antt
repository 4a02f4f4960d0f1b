-- A row's payload. Assumes nothing: these are definitions.
use Rattle.std.specs.Prelude.{ℕ, ◌+◌, Bool, cond, ◌&&◌, ◌||◌, List, length, take, drop, ltb, leb, eqb}
use Rattle.std.specs.Borrow.{Bor}
use Rattle.rows.specs.declared.row.Row.{Row}
use Rattle.rows.specs.Table.{row_at, lent}
use Rattle.rows.specs.Kinds.{kind_float, kind_text, kind_binary, kind_key}
use Rattle.payload.specs.declared.part.Part.{Part}

-- "A row's payload (7, 8, 12, 17)"
unfoldable pub has_payload : ℕ → Bool
has_payload kind = eqb kind kind_float || (eqb kind kind_text || (eqb kind kind_binary || eqb kind kind_key))

abbrev pub part : ℕ → ℕ → Part
part place size = record { place = place; size = size }

-- "is handed back as that part of the lent data; for other kinds, a row not in the table or bytes outside the data, the empty part at the front"
abbrev pub part_of : Row → List ℕ → Part
part_of w s = cond (has_payload w.kind && leb (w.w0 + w.w1) (length s)) (part w.w0 w.w1) (part 0 0)

unfoldable pub payload_at : List ℕ → ℕ → List ℕ → Part
payload_at table row s = cond (ltb row (lent table)) (part_of (row_at table row) s) (part 0 0)

-- the bytes of a part
abbrev pub part_bytes : Part → List ℕ → List ℕ
part_bytes p s = take p.size (drop p.place s)

-- a lent slice as it lies in memory: where it begins, and its bytes
abbrev pub lies : Bor (List ℕ) → (ℕ × ℕ) × List ℕ
lies r = (r.ref_ptr, r.now)

-- "A row's payload .. is handed back as that part of the lent data": `place` bytes behind the front of the data, and no copy of them
abbrev pub part_in : Bor (List ℕ) → Part → (ℕ × ℕ) × List ℕ
part_in s p = ((s.ref_ptr.0, p.place + s.ref_ptr.1), part_bytes p s.now)
