-- Every coded number of the paper is a sound family, so that the laws of families hold of it: one test, computed. Assumes nothing.
use mathlib.Core.Path.{◌≡◌, refl, subst}
use mathlib.Core.Bool.{Bool, true, false, not, ◌&&◌, So, and-eq-true_iff}
use mathlib.Core.List.{List, [], ◌∷◌}
use Prim.Native.Nat.{ℕ, zero, suc, ◌+◌, ◌<◌}
use native.Mathlib.Nat.{not-suc-le-zero}
use native.Mathlib.Omega.{arith}
use lib.Dec.{leb, ltb, eqb}
use borrow.Author.Tests.{leb-true, ltb-true, eqb-true, not-true}
use Rattle.wide.specs.Words.{wide_end}
use Rattle.wide.specs.Family.{Run, behind, has_byte, Family}
use Rattle.wide.specs.Members.{integer_signed, integer_unsigned, text_length, binary_length, array_count, record_count, map_count, reference_number, declaration_count, foreign_length}
use Rattle.wide.specs.Inner.{variable}
use Rattle.wide.proofs.Numbers.{either, Bytes}
use Rattle.wide.proofs.Runs.{Valid}
use Rattle.wide.proofs.Families.{Opening, Sound}

test_run : Run → Bool
test_run r = ltb r.low 256 && (ltb r.from wide_end && leb r.count 256)

test_bodies : Run → ℕ → ℕ → Bool
test_bodies r first zero = true
test_bodies r first (suc j) = not (has_byte r (first + j)) && test_bodies r first j

test_bytes : List ℕ → Bool
test_bytes [] = true
test_bytes (b ∷ bs) = ltb b 256 && test_bytes bs

test_opening : Run → List ℕ → Bool
test_opening alone [] = eqb alone.count 0
test_opening alone (m ∷ ms) = not (has_byte alone m)

test_family : Family → Bool
test_family F =
    test_run F.alone
    && (test_run F.direct
    && (leb (F.first + 8) 256
    && (test_bodies F.direct F.first 8 && (test_bytes F.marker && test_opening F.alone F.marker))))

-- ---- what the test shows

left : (a b : Bool) → So (a && b) → So a
left a b h = ((and-eq-true_iff a b).0 h).0

right : (a b : Bool) → So (a && b) → So b
right a b h = ((and-eq-true_iff a b).0 h).1

valid : (r : Run) → So (test_run r) → Valid r
unfolding test_run
valid r h =
    let g : So (ltb r.from wide_end && leb r.count 256) = right (ltb r.low 256) _ h in
    record {
      low_byte = ltb-true r.low 256 (left _ _ h);
      from-small = ltb-true r.from wide_end (left _ _ g);
      few = leb-true r.count 256 (right (ltb r.from wide_end) _ g);
    }

bodies : (r : Run) (first k : ℕ) → So (test_bodies r first k) → (j : ℕ) → j < k → has_byte r (first + j) ≡ false
unfolding test_bodies
bodies r first zero h j l = absurd (not-suc-le-zero l)
bodies r first (suc k) h j l =
    either k j
    (λ b. let e : k ≡ j = omega arith in subst (λ (x : ℕ). has_byte r (first + x) ≡ false) e (not-true (has_byte r (first + k)) (left _ _ h)))
    (λ b. bodies r first k (right (not (has_byte r (first + k))) _ h) j b)

bytes : (bs : List ℕ) → So (test_bytes bs) → Bytes bs
unfolding test_bytes
bytes [] h = tt
bytes (b ∷ bs) h = (ltb-true b 256 (left _ _ h), bytes bs (right (ltb b 256) _ h))

opening : (alone : Run) (ms : List ℕ) → So (test_opening alone ms) → Opening alone ms
unfolding test_opening
opening alone [] h = eqb-true alone.count 0 h
opening alone (m ∷ ms) h = not-true (has_byte alone m) h

sound : (F : Family) → So (test_family F) → Sound F
unfolding test_family
sound F h =
    let h1 = right (test_run F.alone) _ h in
    let h2 = right (test_run F.direct) _ h1 in
    let h3 = right (leb (F.first + 8) 256) _ h2 in
    let h4 = right (test_bodies F.direct F.first 8) _ h3 in
    record {
      alone-run = valid F.alone (left _ _ h);
      direct-run = valid F.direct (left _ _ h1);
      first-low = leb-true (F.first + 8) 256 (left _ _ h2);
      bodies = bodies F.direct F.first 8 (left _ _ h3);
      marker-bytes = bytes F.marker (left _ _ h4);
      opening = opening F.alone F.marker (right (test_bytes F.marker) _ h4);
    }

-- ---- the members

pub sound_variable : (s : Bool) → Sound (variable s)
unfolding test_family test_run test_bodies test_bytes test_opening behind wide_end
sound_variable true = sound (variable true) refl
sound_variable false = sound (variable false) refl

-- integers in a value position
pub record Integers : Type 0 where
  pub signed : Sound integer_signed
  pub unsigned : Sound integer_unsigned

pub sound_integers : Integers
unfolding test_family test_run test_bodies test_bytes test_opening behind wide_end
sound_integers = record { signed = sound integer_signed refl; unsigned = sound integer_unsigned refl }

-- lengths, counts and reference numbers
pub record Headers : Type 0 where
  pub text : Sound text_length
  pub binary : Sound binary_length
  pub array : Sound array_count
  pub entries : Sound record_count
  pub map : Sound map_count
  pub reference : Sound reference_number
  pub declaration : Sound declaration_count
  pub foreign : Sound foreign_length

pub sound_headers : Headers
unfolding test_family test_run test_bodies test_bytes test_opening behind wide_end
sound_headers = record {
  text = sound text_length refl;
  binary = sound binary_length refl;
  array = sound array_count refl;
  entries = sound record_count refl;
  map = sound map_count refl;
  reference = sound reference_number refl;
  declaration = sound declaration_count refl;
  foreign = sound foreign_length refl;
}
