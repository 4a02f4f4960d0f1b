-- The sequences of RFC 3629 as a grammar: the second witness of the text check. Assumes nothing: these are definitions, for theorems.
use Rattle.std.specs.Prelude.{ℕ, ◌≤◌, ◌<◌, ◌≡◌, length, take, drop}
use mathlib.Core.List.{List, [], ◌∷◌, ◌++◌, Memᴰ}
use Rattle.text.specs.Syntax.{◌to◌, Line, UTF8-char}

-- the bytes of one sequence: one in each range of its line
pub data Sequence : Line → List ℕ → Type 0 where
  end : Sequence [] []
  byte : {low high b : ℕ} {l : Line} {q : List ℕ} → low ≤ b → b ≤ high → Sequence l q → Sequence (low to high ∷ l) (b ∷ q)

-- "UTF8-octets = *( UTF8-char )": sequences back to back
pub data Sequences : List ℕ → Type 0 where
  none : Sequences []
  more : {l : Line} {q s : List ℕ} → Memᴰ l UTF8-char → Sequence l q → Sequences s → Sequences (q ++ s)

-- the first ill-formed sequence of s begins at k: sequences up to there, and none that begins there
pub record Breaks (s : List ℕ) (k : ℕ) : Type 0 where
  pub inside : k < length s
  pub before : Sequences (take k s)
  pub none_there : (l : Line) (q t : List ℕ) → Memᴰ l UTF8-char → Sequence l q → drop k s ≡ q ++ t → ⊥
