-- The numbers of a table that is not written. Assumes nothing: definitions, and that each number takes 8 bits.
use Rattle.std.specs.Prelude.{ℕ, ◌<◌, ◌^◌}
use Rattle.std.proofs.Common.{rules}
use Rattle.writer.specs.declared.unwritten.Unwritten.{Unwritten}
use Rattle.writer.specs.declared.unwritten.Unwritten.TheVariants.{BadTable, TooLarge, NoRoom}

-- "1 too long: document above 16,777,215 bytes: bytes needed"; "12 bad table: a row rule is broken"; "13 no room: output too small: bytes needed"
abbrev pub unwritten_number : Unwritten → ℕ
unwritten_number BadTable = 12
unwritten_number (TooLarge needed) = 1
unwritten_number (NoRoom needed) = 13

abbrev pub unwritten_beside : Unwritten → ℕ
unwritten_beside BadTable = 0
unwritten_beside (TooLarge needed) = needed
unwritten_beside (NoRoom needed) = needed

-- it takes 8 bits
pub unwritten-small : (why : Unwritten) → unwritten_number why < 2 ^ 8
unwritten-small BadTable = search rules
unwritten-small (TooLarge needed) = search rules
unwritten-small (NoRoom needed) = search rules
