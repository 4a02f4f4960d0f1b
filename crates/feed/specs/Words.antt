-- A table's words from bytes. Assumes nothing: this is a definition.
use Rattle.std.specs.Prelude.{ℕ, zero, suc, List, [], ◌∷◌, take, drop}
use Rattle.wide.specs.Number.{number}

-- the first so many words of four bytes each, little endian
unfoldable pub words_in : ℕ → List ℕ → List ℕ
words_in zero s = []
words_in (suc words) s = number (take 4 s) ∷ words_in words (drop 4 s)
