-- Bytes as text. Assumes nothing: these are definitions.
use Rattle.std.specs.Prelude.{ℕ, ◌/◌, ◌%◌, List, [], ◌∷◌, slice_index, codes}

-- the hexadecimal digits, in lower case
abbrev pub digits : List ℕ
digits = codes "0123456789abcdef"

-- a space and two hexadecimal digits for each byte
unfoldable pub pairs : List ℕ → List ℕ
pairs [] = []
pairs (b ∷ bs) = 32 ∷ slice_index digits (b / 16) ∷ slice_index digits (b % 16) ∷ pairs bs
