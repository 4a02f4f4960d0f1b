-- One shape for every coded number of the format. Assumes nothing: these are definitions.
use Rattle.std.specs.Prelude.{Bool, cond, List, [], ◌∷◌, ◌++◌, ℕ, suc, ◌+◌, ◌-◌, ◌%◌, length, take, leb, ltb, eqb}
use Rattle.wide.specs.Number.{bytes_of}
use Rattle.wide.specs.Words.{wide_end}
use Rattle.wide.specs.Body.{size_at, body_value, rank}

-- A run of bytes that are numbers by themselves, as `84`..`ff`, `00`..`7b` are -124..123: `count` bytes from `low` on (behind ff stands
-- 00) are the numbers from `from` on (behind wide_end - 1, which is -1, stands 0).
pub record Run : Type 0 where
  pub low : ℕ
  pub count : ℕ
  pub from : ℕ

-- how far x stands behind a, where the numbers go round at m
unfoldable pub behind : ℕ → ℕ → ℕ → ℕ
behind m a x = (x + (m - a)) % m

-- the byte b belongs to the run, and is this number
abbrev pub has_byte : Run → ℕ → Bool
has_byte r b = ltb (behind 256 r.low b) r.count

abbrev pub number_of : Run → ℕ → ℕ
number_of r b = (r.from + behind 256 r.low b) % wide_end

-- the number n belongs to the run, and is this byte
abbrev pub has_number : Run → ℕ → Bool
has_number r n = ltb (behind wide_end r.from n) r.count

abbrev pub byte_of : Run → ℕ → ℕ
byte_of r n = (r.low + behind wide_end r.from n) % 256

-- A family of coded numbers: the bytes that are numbers by themselves; the marker before every other form; behind it, the bytes that are
-- numbers, or one of the eight bytes from `first` on and a body of the size that it names.
pub record Family : Type 0 where
  pub alone : Run
  pub marker : List ℕ
  pub direct : Run
  pub first : ℕ
  pub signed : Bool

-- What stands at the front of some bytes: a number and how many bytes say it; a form cut short; no form of the family.
pub data Coded : Type 0 where
  is : (value used : ℕ) → Coded
  short : Coded
  other : Coded

abbrev pub longer : Coded → Coded
longer (is n used) = is n (suc used)
longer short = short
longer other = other

abbrev pub body : Bool → ℕ → List ℕ → Coded
body signed k s = cond (leb k (length s)) (is (body_value signed (take k s)) k) short

unfoldable pub unmarked : Family → List ℕ → Coded
unmarked F [] = short
unmarked F (b ∷ s) =
    cond (has_byte F.direct b) (is (number_of F.direct b) 1)
    (cond (ltb (behind 256 F.first b) 8) (longer (body F.signed (size_at (behind 256 F.first b)) s))
    other)

unfoldable pub marked : Family → List ℕ → List ℕ → Coded
marked F [] s = unmarked F s
marked F (m ∷ ms) [] = short
marked F (m ∷ ms) (b ∷ s) = cond (eqb b m) (longer (marked F ms s)) other

-- reading: what stands at the front of s
unfoldable pub coded : Family → List ℕ → Coded
coded F [] = short
coded F (b ∷ s) = cond (has_byte F.alone b) (is (number_of F.alone b) 1) (marked F F.marker (b ∷ s))

-- writing, "in the fewest bytes": alone, or behind the marker direct, or the shortest body
unfoldable pub unmarked_form : Family → ℕ → List ℕ
unmarked_form F n =
    cond (has_number F.direct n) (byte_of F.direct n ∷ [])
    ((F.first + rank F.signed n) ∷ bytes_of (size_at (rank F.signed n)) n)

unfoldable pub form : Family → ℕ → List ℕ
form F n = cond (has_number F.alone n) (byte_of F.alone n ∷ []) (F.marker ++ unmarked_form F n)
