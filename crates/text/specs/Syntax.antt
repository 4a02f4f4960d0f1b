-- RFC 3629, section 4, "Syntax of UTF-8 Byte Sequences", line by line. Assumes nothing: these are definitions.
use Rattle.std.specs.Prelude.{ℕ, List, [], ◌∷◌, ◌++◌, replicate}

-- "%x80-BF": a byte from low to high
infix 70 ◌to◌
pub data Range : Type 0 where
  ◌to◌ : (low high : ℕ) → Range

-- "%xE0": this byte alone
abbrev pub only : ℕ → Range
only b = b to b

-- one form of a sequence: the ranges of its bytes, in order
abbrev pub Line : Type 0
Line = List Range

-- "UTF8-tail = %x80-BF"
abbrev pub UTF8-tail : Range
UTF8-tail = 0x80 to 0xBF

-- "%x00-7F": such a byte, a sequence by itself, is called plain
abbrev pub plain_byte : Range
plain_byte = 0x00 to 0x7F

-- "UTF8-1 = %x00-7F"
abbrev pub UTF8-1 : List Line
UTF8-1 = (plain_byte ∷ []) ∷ []

-- "UTF8-2 = %xC2-DF UTF8-tail"
abbrev pub UTF8-2 : List Line
UTF8-2 = (0xC2 to 0xDF ∷ UTF8-tail ∷ []) ∷ []

-- "UTF8-3 = %xE0 %xA0-BF UTF8-tail /
--           %xE1-EC 2( UTF8-tail ) /
--           %xED %x80-9F UTF8-tail /
--           %xEE-EF 2( UTF8-tail )"
abbrev pub UTF8-3 : List Line
UTF8-3 =
    (only 0xE0 ∷ 0xA0 to 0xBF ∷ UTF8-tail ∷ [])
    ∷ (0xE1 to 0xEC ∷ replicate 2 UTF8-tail)
    ∷ (only 0xED ∷ 0x80 to 0x9F ∷ UTF8-tail ∷ [])
    ∷ (0xEE to 0xEF ∷ replicate 2 UTF8-tail)
    ∷ []

-- "UTF8-4 = %xF0 %x90-BF 2( UTF8-tail ) /
--           %xF1-F3 3( UTF8-tail ) /
--           %xF4 %x80-8F 2( UTF8-tail )"
abbrev pub UTF8-4 : List Line
UTF8-4 =
    (only 0xF0 ∷ 0x90 to 0xBF ∷ replicate 2 UTF8-tail)
    ∷ (0xF1 to 0xF3 ∷ replicate 3 UTF8-tail)
    ∷ (only 0xF4 ∷ 0x80 to 0x8F ∷ replicate 2 UTF8-tail)
    ∷ []

-- "UTF8-char = UTF8-1 / UTF8-2 / UTF8-3 / UTF8-4"
abbrev pub UTF8-char : List Line
UTF8-char = UTF8-1 ++ UTF8-2 ++ UTF8-3 ++ UTF8-4
