-- Which marker a byte of each range begins: one test over a range, computed. Assumes nothing.
use Prim.Native.Nat.{ℕ, zero, suc, ◌+◌, ◌≤◌, ◌<◌}
use mathlib.Core.Path.{◌≡◌, ◌∙◌, sym, ap, refl, subst}
use mathlib.Core.Bool.{Bool, true, ◌&&◌, So, and-eq-true_iff}
use native.Mathlib.Omega.{arith}
use lib.Dec.{eqb}
use borrow.Author.Tests.{eqb-true}
use Rattle.wide.proofs.Numbers.{either}
use Rattle.format.specs.Head.{Marker, constant, float, text, array, entries, map, binary, special, nothing, signed_body, unsigned_body, small, char, reference, marker_of}

-- markers told apart by numbers
number : Marker → ℕ
number constant = 0
number float = 1
number text = 2
number array = 3
number entries = 4
number map = 5
number binary = 6
number special = 7
number nothing = 8
number signed_body = 9
number unsigned_body = 10
number small = 11
number char = 12
number reference = 13

numbered : ℕ → Marker
numbered zero = constant
numbered (suc zero) = float
numbered (suc (suc zero)) = text
numbered (suc (suc (suc zero))) = array
numbered (suc (suc (suc (suc zero)))) = entries
numbered (suc (suc (suc (suc (suc zero))))) = map
numbered (suc (suc (suc (suc (suc (suc zero)))))) = binary
numbered (suc (suc (suc (suc (suc (suc (suc zero))))))) = special
numbered (suc (suc (suc (suc (suc (suc (suc (suc zero)))))))) = nothing
numbered (suc (suc (suc (suc (suc (suc (suc (suc (suc zero))))))))) = signed_body
numbered (suc (suc (suc (suc (suc (suc (suc (suc (suc (suc zero)))))))))) = unsigned_body
numbered (suc (suc (suc (suc (suc (suc (suc (suc (suc (suc (suc zero))))))))))) = small
numbered (suc (suc (suc (suc (suc (suc (suc (suc (suc (suc (suc (suc zero)))))))))))) = char
numbered (suc (suc (suc (suc (suc (suc (suc (suc (suc (suc (suc (suc (suc n))))))))))))) = reference

again : (m : Marker) → numbered (number m) ≡ m
unfolding number numbered
again constant = refl
again float = refl
again text = refl
again array = refl
again entries = refl
again map = refl
again binary = refl
again special = refl
again nothing = refl
again signed_body = refl
again unsigned_body = refl
again small = refl
again char = refl
again reference = refl

-- the k bytes from low on all begin m
all : ℕ → ℕ → Marker → Bool
all low zero m = true
all low (suc k) m = eqb (number (marker_of (low + k))) (number m) && all low k m

ranged : (low k : ℕ) (m : Marker) → So (all low k m) → (b : ℕ) → low ≤ b → b < low + k → marker_of b ≡ m
unfolding all
ranged low zero m t b l h = absurd (let z : ⊥ = omega arith in z)
ranged low (suc k) m t b l h =
    let p = (and-eq-true_iff (eqb (number (marker_of (low + k))) (number m)) (all low k m)).0 t in
    either (low + k) b
    (λ g.
    let e : low + k ≡ b = omega arith in
    subst (λ (x : ℕ). marker_of x ≡ m) e
    (sym (again (marker_of (low + k))) ∙ ap numbered (eqb-true (number (marker_of (low + k))) (number m) p.0) ∙ again m))
    (λ g. ranged low k m p.1 b l g)

pub is-constant : (b : ℕ) → b < 3 → marker_of b ≡ constant
unfolding all number marker_of
is-constant b h = ranged 0 3 constant refl b (omega arith) (omega arith)

pub is-float : (b : ℕ) → 3 ≤ b → b < 8 → marker_of b ≡ float
unfolding all number marker_of
is-float b l h = ranged 3 5 float refl b l h

pub is-nothing : (b : ℕ) → 14 ≤ b → b < 16 → marker_of b ≡ nothing
unfolding all number marker_of
is-nothing b l h = ranged 14 2 nothing refl b l h

pub is_signed : (b : ℕ) → 16 ≤ b → b < 24 → marker_of b ≡ signed_body
unfolding all number marker_of
is_signed b l h = ranged 16 8 signed_body refl b l h

pub is-unsigned : (b : ℕ) → 24 ≤ b → b < 32 → marker_of b ≡ unsigned_body
unfolding all number marker_of
is-unsigned b l h = ranged 24 8 unsigned_body refl b l h

pub is-small : (b : ℕ) → 32 ≤ b → b < 128 → marker_of b ≡ small
unfolding all number marker_of
is-small b l h = ranged 32 96 small refl b l h

pub is-text : (b : ℕ) → 128 ≤ b → b < 160 → marker_of b ≡ text
unfolding all number marker_of
is-text b l h = ranged 128 32 text refl b l h

pub is-array : (b : ℕ) → 160 ≤ b → b < 176 → marker_of b ≡ array
unfolding all number marker_of
is-array b l h = ranged 160 16 array refl b l h

pub is-entries : (b : ℕ) → 176 ≤ b → b < 184 → marker_of b ≡ entries
unfolding all number marker_of
is-entries b l h = ranged 176 8 entries refl b l h

pub is-map : (b : ℕ) → 184 ≤ b → b < 192 → marker_of b ≡ map
unfolding all number marker_of
is-map b l h = ranged 184 8 map refl b l h

pub is-reference : (b : ℕ) → 193 ≤ b → b < 256 → marker_of b ≡ reference
unfolding all number marker_of
is-reference b l h = ranged 193 63 reference refl b l h
