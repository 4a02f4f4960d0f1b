-- Two answers that the writer's promise allows are equal, and so are the outputs. Assumes nothing.
use mathlib.Core.Path.{◌≡◌, sym, ◌∙◌}
use mathlib.Core.List.{List}
use Prim.Native.Nat.{ℕ}
use lib.ListN.{length}
use Rattle.std.specs.Prelude.{Result}
use Rattle.writer.specs.declared.unwritten.Unwritten.{Unwritten}
use Rattle.writer.specs.Written.{written, output_after}

module _ (depth : ℕ) (table : List ℕ) (n : ℕ) (s out : List ℕ) where
  pub one_answer : (a b : Result ℕ Unwritten) → a ≡ written depth table n s (length out) → b ≡ written depth table n s (length out) → a ≡ b
  one_answer a b p q = p ∙ sym q

  pub one_output : (a b : List ℕ) → a ≡ output_after depth table n s out → b ≡ output_after depth table n s out → a ≡ b
  one_output a b p q = p ∙ sym q
