-- The number of an answer and the number beside it, where a refusal has both. Assumes nothing: these are definitions.
use Rattle.std.specs.Prelude.{ℕ, Result, Ok, Err}

-- "0", or the refusal's number
abbrev pub number_in : {T E : Type 0} → (E → ℕ) → Result T E → ℕ
number_in number (Ok x) = 0
number_in number (Err e) = number e

-- what is answered, or the number beside the refusal
abbrev pub beside_in : {E : Type 0} → (E → ℕ) → Result ℕ E → ℕ
beside_in beside (Ok n) = n
beside_in beside (Err e) = beside e
