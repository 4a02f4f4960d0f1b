-- Texts and what the check says of them, as one list with one statement. Assumes nothing.
use Prim.Native.Nat.{ℕ}
use mathlib.Core.List.{List, [], ◌∷◌, map}
use Rattle.std.specs.Prelude.{Ok}
use mathlib.Core.Path.{◌≡◌, refl}
use Rattle.text.specs.Check.{Text, ill_formed, sequence, text_from, text_of}

infix 68 ◌says◌
pub data Example : Type 0 where
  ◌says◌ : (bytes : List ℕ) → (answer : Text) → Example

abbrev pub bytes : Example → List ℕ
bytes (b says a) = b

abbrev pub answer : Example → Text
answer (b says a) = a

unfoldable pub examples : List Example
examples =
    [] says Ok tt
    ∷ (0x61 ∷ []) says Ok tt
    ∷ (0xC3 ∷ 0xA9 ∷ []) says Ok tt
    ∷ (0xE2 ∷ 0x82 ∷ 0xAC ∷ []) says Ok tt
    ∷ (0xF0 ∷ 0x9F ∷ 0x98 ∷ 0x80 ∷ []) says Ok tt
    ∷ (0xC0 ∷ 0x80 ∷ []) says ill_formed 0
    ∷ (0x61 ∷ 0xC0 ∷ 0x80 ∷ []) says ill_formed 1
    ∷ (0xED ∷ 0xA0 ∷ 0x80 ∷ []) says ill_formed 0
    ∷ (0xF4 ∷ 0x90 ∷ 0x80 ∷ 0x80 ∷ []) says ill_formed 0
    ∷ (0xE2 ∷ 0x82 ∷ []) says ill_formed 0
    ∷ (0x61 ∷ 0xE2 ∷ 0x82 ∷ []) says ill_formed 1
    ∷ (0x80 ∷ []) says ill_formed 0
    ∷ (0xF5 ∷ 0x80 ∷ 0x80 ∷ 0x80 ∷ []) says ill_formed 0
    ∷ (0xE0 ∷ 0x80 ∷ 0x80 ∷ []) says ill_formed 0
    ∷ (0xC3 ∷ 0xA9 ∷ 0xC3 ∷ 0x28 ∷ []) says ill_formed 2
    ∷ []

pub all_said : map (λ (e : Example). text_of (bytes e)) examples ≡ map answer examples
unfolding examples text_of text_from sequence
all_said = refl
