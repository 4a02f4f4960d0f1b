-- The coded numbers of the paper, each a family. Assumes nothing: these are definitions.
use Rattle.std.specs.Prelude.{Bool, true, false, List, [], ◌∷◌, ℕ, ◌-◌}
use Rattle.wide.specs.Words.{wide_end}
use Rattle.wide.specs.Family.{Run, Family}

abbrev pub run : ℕ → ℕ → ℕ → Run
run low count from = record { low = low; count = count; from = from }

abbrev pub none : Run
none = run 0 0 0

-- "`00`..`f7` itself; `f8`..`ff` followed by 1, 2, 3, 4, 6, 8, 12, 16 bytes"
abbrev pub unsigned : Family
unsigned = record { alone = none; marker = []; direct = run 0x00 248 0; first = 0xf8; signed = false }

-- "`84`..`ff`: -124..-1; `00`..`7b`: 0..123; `7c`..`83` followed by 1, 2, 3, 4, 6, 8, 12, 16 bytes, two's complement"
abbrev pub signed : Family
signed = record { alone = none; marker = []; direct = run 0x84 248 (wide_end - 124); first = 0x7c; signed = true }

-- "`20`..`3f`: -31..0. `40`..`7f`: 1..64. `10`..`17`: signed bodies"
abbrev pub integer_signed : Family
integer_signed = record { alone = none; marker = []; direct = run 0x20 96 (wide_end - 31); first = 0x10; signed = true }

-- "`18`..`1f`: unsigned, same sizes"; an unsigned number is not below 0
abbrev pub integer_unsigned : Family
integer_unsigned = record { alone = none; marker = []; direct = run 0x3f 65 0; first = 0x18; signed = false }

-- the integer at a value position of that sign
abbrev pub integer : Bool → Family
integer true = integer_signed
integer false = integer_unsigned

-- a run of markers that are lengths, counts or numbers, or a marker and an unsigned variable integer
abbrev pub headed : Run → List ℕ → Family
headed alone marker = record { alone = alone; marker = marker; direct = unsigned.direct; first = unsigned.first; signed = false }

-- "`80`..`9f`: text of 1..32 bytes; `08` and a length: text. `0c` and a length: binary."
abbrev pub text_length : Family
text_length = headed (run 0x80 32 1) (0x08 ∷ [])

abbrev pub binary_length : Family
binary_length = headed none (0x0c ∷ [])

-- "`a0`..`af`: array of 1..16; `09` and a count. `b0`..`b7`: record of 1..8 entries; `0a` and a count. `b8`..`bf`: map of 1..8; `0b` and a count."
abbrev pub array_count : Family
array_count = headed (run 0xa0 16 1) (0x09 ∷ [])

abbrev pub record_count : Family
record_count = headed (run 0xb0 8 1) (0x0a ∷ [])

abbrev pub map_count : Family
map_count = headed (run 0xb8 8 1) (0x0b ∷ [])

-- "A record key is a length and text, with no marker"
abbrev pub key_length : Family
key_length = unsigned

-- "`c1`..`fe`: reference 0..61; `ff` and a number."
abbrev pub reference_number : Family
reference_number = headed (run 0xc1 62 0) (0xff ∷ [])

-- "`0d 0d`, a count n of 1 or more", "`0d 00`, a length"
abbrev pub declaration_count : Family
declaration_count = headed none (0x0d ∷ 0x0d ∷ [])

abbrev pub foreign_length : Family
foreign_length = headed none (0x0d ∷ 0x00 ∷ [])
