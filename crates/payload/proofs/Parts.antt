-- Where a payload lies, and that it lies in the data. Assumes nothing.
use mathlib.Core.Path.{◌≡◌, refl, sym, ap, ◌∙◌}
use mathlib.Core.Bool.{Bool, true, false, ◌&&◌}
use mathlib.Core.List.{List}
use Prim.Native.Nat.{ℕ, ◌+◌, ◌-◌, ◌≤◌, ◌<◌}
use native.Mathlib.Omega.{arith}
use lib.ListN.{length, take, drop}
use lib.Dec.{ltb, leb}
use denote.Ref.{Bor}
use borrow.Author.Tests.{lt-ltb, le-leb, ltb-true, leb-true}
use Rattle.lists.proofs.Tests.{and_second}
use Rattle.wide.proofs.Families.{cond-case}
use Rattle.rows.specs.declared.row.Row.{Row}
use Rattle.rows.specs.Table.{row_at, lent, row_or_zeros}
use Rattle.payload.specs.declared.part.Part.{Part}
use Rattle.payload.specs.Payload.{has_payload, part, part_of, payload_at, part_in}

module _ (table : List ℕ) (row : ℕ) (s : List ℕ) where
  module _ (l : ℕ) (is : l ≡ lent table) (within : row < l) (w : Row) (at : w ≡ row_at table row) (b : Bool) (has : b ≡ has_payload w.kind)
      (yes : b ≡ true) (place size : ℕ) (f : place ≡ w.w0) (g : size ≡ w.w1) where
    pub part_yes : place + size ≤ length s → part place size ≡ payload_at table row s
    unfolding payload_at
    part_yes h = rw (lt-ltb row (lent table) (omega arith), ← at, ← has, yes, ← f, ← g, le-leb (place + size) (length s) h)

  -- a row with a payload is one that the table lends
  lent_by : (t : Bool) → ltb row (lent table) ≡ t → has_payload (row_or_zeros table row).kind ≡ true → row < lent table
  unfolding row_or_zeros has_payload
  lent_by true e h = ltb-true row (lent table) e
  lent_by false e h = absurd (let q = rw e at h in cc)

  row_is : row < lent table → row_or_zeros table row ≡ row_at table row
  unfolding row_or_zeros
  row_is h = rw (lt-ltb row (lent table) h)

  -- the same of a row that the table may not lend
  pub part_given : (w : Row) (b : Bool) (place size : ℕ) → w ≡ row_or_zeros table row → b ≡ has_payload w.kind → b ≡ true → place ≡ w.w0 → size ≡ w.w1 → place + size ≤ length s
      → part place size ≡ payload_at table row s
  part_given w b place size is has given f g h =
      let k : has_payload (row_or_zeros table row).kind ≡ true = ap (λ (r : Row). has_payload r.kind) (sym is) ∙ sym has ∙ given in
      let l : row < lent table = lent_by (ltb row (lent table)) refl k in
      part_yes (lent table) refl l w (is ∙ row_is l) b has given place size f g h

-- ---- a part lies in the data

abbrev Inside : List ℕ → Part → Type 0
Inside s p = p.place + p.size ≤ length s

part-inside : (w : Row) (s : List ℕ) → Inside s (part_of w s)
part-inside w s =
    let T : Bool = has_payload w.kind && leb (w.w0 + w.w1) (length s) in
    cond-case (Inside s) T (part w.w0 w.w1) (part 0 0)
    (λ e. leb-true (w.w0 + w.w1) (length s) (and_second (has_payload w.kind) (leb (w.w0 + w.w1) (length s)) e))
    (λ _. omega arith)

-- "every payload lies in the data", whatever the table is
pub payload_inside : (table : List ℕ) (row : ℕ) (s : List ℕ) → (payload_at table row s).place + (payload_at table row s).size ≤ length s
unfolding payload_at
payload_inside table row s = cond-case (Inside s) (ltb row (lent table)) (part_of (row_at table row) s) (part 0 0) (λ _. part-inside (row_at table row) s) (λ _. omega arith)

pub part_within : (table : List ℕ) (row : ℕ) (s : List ℕ) (p : Part) → p ≡ payload_at table row s → p.place + p.size ≤ length s
part_within table row s p is = rw is (payload_inside table row s)

-- the slice that the code cuts out is that part
pub part_lies : (table : List ℕ) (row : ℕ) (d : Bor (List ℕ)) (p : Part) → p ≡ payload_at table row d.now → ((d.ref_ptr.0, p.place + d.ref_ptr.1), take (p.place + p.size - p.place) (drop p.place d.now)) ≡ part_in d (payload_at table row d.now)
part_lies table row d p is =
    let e : p.place + p.size - p.place ≡ p.size = omega arith in
    ap (λ (n : ℕ). ((d.ref_ptr.0, p.place + d.ref_ptr.1), take n (drop p.place d.now))) e ∙ ap (part_in d) is
