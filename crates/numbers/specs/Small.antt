-- An answer's number takes 8 bits where each refusal's does. Assumes nothing.
use Rattle.std.specs.Prelude.{ℕ, Result, Ok, Err, ◌<◌, ◌^◌}
use Rattle.std.proofs.Common.{rules}
use Rattle.numbers.specs.Answer.{number_in}

pub number_in-small : {T E : Type 0} (number : E → ℕ) → ((e : E) → number e < 2 ^ 8) → (a : Result T E) → number_in number a < 2 ^ 8
number_in-small number small (Ok x) = search rules
number_in-small number small (Err e) = small e
