-- Words of the contracts inside: what is measured of a reading (its rows, the place behind it and whether a foreign document in it is damaged,
-- or its refusal), and how one number says it. Definitions only, which no promise to a user cites.
use Rattle.std.specs.Prelude.{◌≡◌, ℕ, ◌+◌, ◌*◌, ◌%◌, ◌/◌, ◌<◌, Bool, true, false, cond, ◌||◌, leb, eqb, Result, Ok}
use Rattle.format.specs.declared.refused.Refused.{Refused}
use Rattle.format.specs.declared.refusal.Refusal.{Refusal}
use Rattle.format.specs.declared.refusal.Refusal.TheVariants as why
use Rattle.format.specs.declared.head.Head.{Head}
use Rattle.format.specs.declared.head.Head.TheVariants.{Refer}
use Rattle.format.specs.Refusal.{refusal_number}
use Rattle.format.specs.Tree.{Tree, leaf, refer, hold, declare, foreign, damaged, Trees, none, more, size, sizes}
use Rattle.format.specs.Value.{Reading, right, wrong, Readings, ran, broke}

-- whether a foreign document in a tree is damaged
unfoldable mutual
  pub harmed : Tree → Bool
  harmed (leaf o) = false
  harmed (refer o) = false
  harmed (hold o ts) = some_harmed ts
  harmed (declare o es t) = some_harmed es || harmed t
  harmed (foreign o t) = harmed t
  harmed (damaged o) = true

  pub some_harmed : Trees → Bool
  some_harmed none = false
  some_harmed (more t ts) = harmed t || some_harmed ts

pub data Measured : Type 0 where
  Right : (rows next : ℕ) → (broken : Bool) → Measured
  Wrong : (reason : Refusal) → (place : ℕ) → Measured

abbrev pub measured_of : Reading → Measured
measured_of (right t next) = Right (size t) next (harmed t)
measured_of (wrong e place) = Wrong e place

-- the same of children in a row
abbrev pub measured_all : Readings → Measured
measured_all (ran ts next) = Right (sizes ts) next (some_harmed ts)
measured_all (broke e place) = Wrong e place

-- the head h refers to entry `number` of those in force, and ends at `next`
pub record ReferEnds (h : Result Head Refused) (around next : ℕ) : Type 0 where
  pub number : ℕ
  pub is : h ≡ Ok (Refer number next)
  pub low : number < around

-- r is 0, or where the reference ends
pub record ReferAsked (h : Result Head Refused) (around r : ℕ) : Type 0 where
  pub ends : (r ≡ 0 → ⊥) → ReferEnds h around r

-- r is 0, or where P ends, which is right and takes one row
pub record OneRow (P : Reading) (r : ℕ) : Type 0 where
  pub one : (r ≡ 0 → ⊥) → measured_of P ≡ Right 1 r false

-- ---- in one number

-- a place and a row, or so many rows, each within the limit
abbrev pub place_and_row : ℕ → ℕ → ℕ
place_and_row next row = next + 0x1000000 * row

abbrev pub place_in : ℕ → ℕ
place_in f = f % 0x1000000

abbrev pub row_in : ℕ → ℕ
row_in f = f / 0x1000000 % 0x1000000

-- those, and 2^48 more where a foreign document is damaged; or the place and 2^56 times the refusal's number
unfoldable pub told : Measured → ℕ
told (Right rows next broken) = place_and_row next rows + cond broken 0x1000000000000 0
told (Wrong e place) = place + 0x100000000000000 * refusal_number e

abbrev pub is_broken : ℕ → Bool
is_broken f = leb 0x1000000000000 f

abbrev pub number_wrong : ℕ → ℕ
number_wrong f = f / 0x100000000000000

abbrev pub place_wrong : ℕ → ℕ
place_wrong f = f % 0x100000000000000

-- the refusal that has the number n, of 2 to 10
unfoldable pub refusal_of : ℕ → Refusal
refusal_of n =
    cond (eqb n 2) why.Short
    (cond (eqb n 3) why.Marker
    (cond (eqb n 4) why.Huge
    (cond (eqb n 5) why.Text
    (cond (eqb n 6) why.Char
    (cond (eqb n 7) why.NoEntry
    (cond (eqb n 8) why.Empty
    (cond (eqb n 9) why.Deep
    why.Extra)))))))

-- f tells a value position. All the bytes up to `stop` are it where it ends there, and have bytes too many where it does not; a refusal stays
unfoldable pub ended_at : ℕ → ℕ → ℕ
ended_at stop f = cond (leb 0x100000000000000 f) f (cond (eqb (place_in f) stop) f (told (Wrong why.Extra (place_in f))))
