-- How far bytes are text. Assumes nothing: this is a definition.
use Rattle.std.specs.Prelude.{ℕ, Ok, Err}
use Rattle.text.specs.Check.{Text}

-- of n bytes all, or "the offset of the first byte of the first ill-formed sequence"
abbrev pub up_to : ℕ → Text → ℕ
up_to n (Ok u) = n
up_to n (Err e) = e.offset
