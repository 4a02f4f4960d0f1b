-- What a body of 1 to 16 bytes is read as, and the shortest body of a number. Assumes nothing: these are definitions.
use Rattle.std.specs.Prelude.{Bool, true, false, cond, List, [], ◌∷◌, ℕ, suc, ◌+◌, ◌-◌, ◌*◌, ◌^◌, length, get_or, leb, eqb}
use Rattle.wide.specs.Number.{number, bytes_of}
use Rattle.wide.specs.Words.{wide_end}

-- "signed bodies of 1, 2, 3, 4, 6, 8, 12, 16 bytes; unsigned, same sizes"
abbrev pub body_sizes : List ℕ
body_sizes = 1 ∷ 2 ∷ 3 ∷ 4 ∷ 6 ∷ 8 ∷ 12 ∷ 16 ∷ []

abbrev pub size_at : ℕ → ℕ
size_at j = get_or body_sizes j 0

-- "two's complement": a signed body of k bytes is negative where its highest bit is set,
abbrev pub negative : Bool → ℕ → ℕ → Bool
negative true k m = leb (256 ^ k) (2 * m)
negative false k m = false

-- and then it stands for 256 ^ k less than its bytes say; below 0 the numbers go round at wide_end
abbrev pub extended : Bool → ℕ → ℕ → ℕ
extended true k m = m + (wide_end - 256 ^ k)
extended false k m = m

-- the number that a body is read as
unfoldable pub body_value : Bool → List ℕ → ℕ
body_value signed bs = extended (negative signed (length bs) (number bs)) (length bs) (number bs)

-- a body of k bytes holds n: the bytes of n are read as n
unfoldable pub fits_in : Bool → ℕ → ℕ → Bool
fits_in signed n k = eqb (body_value signed (bytes_of k n)) n

-- the place of the first in a list for which a test says true
abbrev pub first_of : (ℕ → Bool) → List ℕ → ℕ
first_of test [] = 0
first_of test (k ∷ ks) = cond (test k) 0 (suc (first_of test ks))

-- the place in body_sizes of the shortest body that holds n
unfoldable pub rank : Bool → ℕ → ℕ
rank signed n = first_of (fits_in signed n) body_sizes
