-- Words of the contracts inside: what the first byte of a sequence says of the others, by the first ranges of the table's lines; what a run
-- of plain bytes is, and the number that some bytes make. Definitions only, which no promise to a user cites.
use Rattle.std.specs.Prelude.{ℕ, zero, suc, ◌+◌, ◌*◌, ◌≤◌, ◌<◌, true, cond, List, [], ◌∷◌, Option, Some, None, ◌≡◌, length, get_or}
use Rattle.text.specs.declared.lead.Lead.{Lead}
use Rattle.text.specs.Syntax.{Range, ◌to◌, Line, UTF8-tail, plain_byte, UTF8-char}
use Rattle.text.specs.Check.{in_range}

-- the first of these lines that may begin with b, [] where none may
abbrev pub line_in : List Line → ℕ → Line
line_in [] b = []
line_in ([] ∷ ls) b = line_in ls b
line_in ((r ∷ l) ∷ ls) b = cond (in_range r b) (r ∷ l) (line_in ls b)

-- n bytes follow the first, the next of them in this range
abbrev pub goes_on : ℕ → Range → Option Lead
goes_on n (low to high) = Some (record { left = n; low = low; high = high })

-- what a line says behind its first range; where nothing follows, no range is asked, and a tail's is named
abbrev pub leads : Line → Option Lead
leads [] = None
leads (r ∷ []) = goes_on 0 UTF8-tail
leads (r ∷ next ∷ l) = goes_on (length (next ∷ l)) next

-- what b, as the first byte of a sequence, says of the others
unfoldable pub lead_of : ℕ → Option Lead
lead_of b = leads (line_in UTF8-char b)

-- the bytes from `from` to before `end` are plain
pub record PlainTo (s : List ℕ) (from end : ℕ) : Type 0 where
  pub rises : from ≤ end
  pub inside : end ≤ length s
  pub plain : (k : ℕ) → from ≤ k → k < end → in_range plain_byte (get_or s k 0) ≡ true

-- the n bytes from `at` on as one number, the first lowest
abbrev pub number_at : List ℕ → ℕ → ℕ → ℕ
number_at s at zero = 0
number_at s at (suc n) = get_or s at 0 + 256 * number_at s (suc at) n
