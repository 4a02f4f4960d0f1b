-- The paper's examples of the variable integers, and the edges of every size. Assumes nothing: these are definitions.
use Rattle.std.specs.Prelude.{Bool, true, false, List, [], ◌∷◌, ◌++◌, ℕ, ◌-◌, ◌/◌, ◌^◌, replicate}
use Rattle.wide.specs.Words.{wide_end}

-- a number, signed or not, and its bytes
pub record Example : Type 0 where
  pub signed : Bool
  pub value : ℕ
  pub bytes : List ℕ

abbrev case : Bool → ℕ → List ℕ → Example
case s n bs = record { signed = s; value = n; bytes = bs }

-- "124 is `7c 7c`, -125 is `7c 83`, 128 is `7d 80 00`"; then, unsigned and signed, the last number of each form and the first behind it
unfoldable pub examples : List Example
examples =
    case true (124) (0x7c ∷ 0x7c ∷ [])
    ∷ case true (wide_end - 125) (0x7c ∷ 0x83 ∷ [])
    ∷ case true (128) (0x7d ∷ 0x80 ∷ 0x00 ∷ [])
    ∷ case false (0) (0x00 ∷ [])
    ∷ case false (247) (0xf7 ∷ [])
    ∷ case false (248) (0xf8 ∷ 0xf8 ∷ [])
    ∷ case false (256 ^ 1 - 1) (0xf8 ∷ 0xff ∷ [])
    ∷ case false (256 ^ 1) (0xf9 ∷ 0x00 ∷ 0x01 ∷ [])
    ∷ case false (256 ^ 2 - 1) (0xf9 ∷ 0xff ∷ 0xff ∷ [])
    ∷ case false (256 ^ 2) (0xfa ∷ 0x00 ∷ 0x00 ∷ 0x01 ∷ [])
    ∷ case false (256 ^ 3 - 1) (0xfa ∷ 0xff ∷ 0xff ∷ 0xff ∷ [])
    ∷ case false (256 ^ 3) (0xfb ∷ 0x00 ∷ 0x00 ∷ 0x00 ∷ 0x01 ∷ [])
    ∷ case false (256 ^ 4 - 1) (0xfb ∷ (replicate 4 0xff))
    ∷ case false (256 ^ 4) (0xfc ∷ (replicate 4 0x00 ++ (0x01 ∷ 0x00 ∷ [])))
    ∷ case false (256 ^ 6 - 1) (0xfc ∷ (replicate 6 0xff))
    ∷ case false (256 ^ 6) (0xfd ∷ (replicate 6 0x00 ++ (0x01 ∷ 0x00 ∷ [])))
    ∷ case false (256 ^ 8 - 1) (0xfd ∷ (replicate 8 0xff))
    ∷ case false (256 ^ 8) (0xfe ∷ (replicate 8 0x00 ++ (0x01 ∷ 0x00 ∷ 0x00 ∷ 0x00 ∷ [])))
    ∷ case false (256 ^ 12 - 1) (0xfe ∷ (replicate 12 0xff))
    ∷ case false (256 ^ 12) (0xff ∷ (replicate 12 0x00 ++ (0x01 ∷ 0x00 ∷ 0x00 ∷ 0x00 ∷ [])))
    ∷ case false (256 ^ 16 - 1) ((replicate 17 0xff))
    ∷ case true (0) (0x00 ∷ [])
    ∷ case true (123) (0x7b ∷ [])
    ∷ case true (wide_end - 1) (0xff ∷ [])
    ∷ case true (wide_end - 124) (0x84 ∷ [])
    ∷ case true (256 ^ 1 / 2 - 1) (0x7c ∷ 0x7f ∷ [])
    ∷ case true (wide_end - 256 ^ 1 / 2) (0x7c ∷ 0x80 ∷ [])
    ∷ case true (256 ^ 1 / 2) (0x7d ∷ 0x80 ∷ 0x00 ∷ [])
    ∷ case true (wide_end - 256 ^ 1 / 2 - 1) (0x7d ∷ 0x7f ∷ 0xff ∷ [])
    ∷ case true (256 ^ 2 / 2 - 1) (0x7d ∷ 0xff ∷ 0x7f ∷ [])
    ∷ case true (wide_end - 256 ^ 2 / 2) (0x7d ∷ 0x00 ∷ 0x80 ∷ [])
    ∷ case true (256 ^ 2 / 2) (0x7e ∷ 0x00 ∷ 0x80 ∷ 0x00 ∷ [])
    ∷ case true (wide_end - 256 ^ 2 / 2 - 1) (0x7e ∷ 0xff ∷ 0x7f ∷ 0xff ∷ [])
    ∷ case true (256 ^ 3 / 2 - 1) (0x7e ∷ 0xff ∷ 0xff ∷ 0x7f ∷ [])
    ∷ case true (wide_end - 256 ^ 3 / 2) (0x7e ∷ 0x00 ∷ 0x00 ∷ 0x80 ∷ [])
    ∷ case true (256 ^ 3 / 2) (0x7f ∷ 0x00 ∷ 0x00 ∷ 0x80 ∷ 0x00 ∷ [])
    ∷ case true (wide_end - 256 ^ 3 / 2 - 1) (0x7f ∷ 0xff ∷ 0xff ∷ 0x7f ∷ 0xff ∷ [])
    ∷ case true (256 ^ 4 / 2 - 1) (0x7f ∷ 0xff ∷ 0xff ∷ 0xff ∷ 0x7f ∷ [])
    ∷ case true (wide_end - 256 ^ 4 / 2) (0x7f ∷ 0x00 ∷ 0x00 ∷ 0x00 ∷ 0x80 ∷ [])
    ∷ case true (256 ^ 4 / 2) (0x80 ∷ 0x00 ∷ 0x00 ∷ 0x00 ∷ 0x80 ∷ 0x00 ∷ 0x00 ∷ [])
    ∷ case true (wide_end - 256 ^ 4 / 2 - 1) (0x80 ∷ 0xff ∷ 0xff ∷ 0xff ∷ 0x7f ∷ 0xff ∷ 0xff ∷ [])
    ∷ case true (256 ^ 6 / 2 - 1) (0x80 ∷ (replicate 5 0xff ++ (0x7f ∷ [])))
    ∷ case true (wide_end - 256 ^ 6 / 2) (0x80 ∷ (replicate 5 0x00 ++ (0x80 ∷ [])))
    ∷ case true (256 ^ 6 / 2) (0x81 ∷ (replicate 5 0x00 ++ (0x80 ∷ 0x00 ∷ 0x00 ∷ [])))
    ∷ case true (wide_end - 256 ^ 6 / 2 - 1) (0x81 ∷ (replicate 5 0xff ++ (0x7f ∷ 0xff ∷ 0xff ∷ [])))
    ∷ case true (256 ^ 8 / 2 - 1) (0x81 ∷ (replicate 7 0xff ++ (0x7f ∷ [])))
    ∷ case true (wide_end - 256 ^ 8 / 2) (0x81 ∷ (replicate 7 0x00 ++ (0x80 ∷ [])))
    ∷ case true (256 ^ 8 / 2) (0x82 ∷ (replicate 7 0x00 ++ (0x80 ∷ (replicate 4 0x00))))
    ∷ case true (wide_end - 256 ^ 8 / 2 - 1) (0x82 ∷ (replicate 7 0xff ++ (0x7f ∷ (replicate 4 0xff))))
    ∷ case true (256 ^ 12 / 2 - 1) (0x82 ∷ (replicate 11 0xff ++ (0x7f ∷ [])))
    ∷ case true (wide_end - 256 ^ 12 / 2) (0x82 ∷ (replicate 11 0x00 ++ (0x80 ∷ [])))
    ∷ case true (256 ^ 12 / 2) (0x83 ∷ (replicate 11 0x00 ++ (0x80 ∷ (replicate 4 0x00))))
    ∷ case true (wide_end - 256 ^ 12 / 2 - 1) (0x83 ∷ (replicate 11 0xff ++ (0x7f ∷ (replicate 4 0xff))))
    ∷ case true (256 ^ 16 / 2 - 1) (0x83 ∷ (replicate 15 0xff ++ (0x7f ∷ [])))
    ∷ case true (wide_end - 256 ^ 16 / 2) (0x83 ∷ (replicate 15 0x00 ++ (0x80 ∷ [])))
    ∷ []
