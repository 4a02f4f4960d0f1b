-- Two answers that the promise of `payload` allows are equal: where the part lies, and its bytes. That of `payload_at` is an equation. Assumes nothing.
use mathlib.Core.Path.{◌≡◌, sym, ◌∙◌}
use mathlib.Core.List.{List}
use Prim.Native.Nat.{ℕ}
use denote.Ref.{Bor}
use Rattle.payload.specs.Payload.{payload_at, lies, part_in}

-- two slices handed back as a row's payload begin at the same byte of the same memory, and have the same bytes
pub one_payload : (table : List ℕ) (row : ℕ) (d a b : Bor (List ℕ)) → lies a ≡ part_in d (payload_at table row d.now) → lies b ≡ part_in d (payload_at table row d.now) → lies a ≡ lies b
one_payload table row d a b p q = p ∙ sym q
