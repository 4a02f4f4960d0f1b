-- What the public functions answer, and what an output holds afterwards. Assumes nothing: definitions, and that each number takes 8 bits.
use Rattle.std.specs.Prelude.{cond, List, ℕ, Result, Ok, Err, ◌<◌, ◌^◌, length, leb}
use Rattle.std.proofs.Common.{rules}
use Rattle.std.proofs.lemmas.List.Edits.{sets}
use Rattle.numbers.specs.Answer.{number_in, beside_in}
use Rattle.wide.specs.declared.wide.Wide.{Wide}
use Rattle.variable.specs.declared.got.Got.{Got}
use Rattle.variable.specs.declared.short.Short.{Short}
use Rattle.variable.specs.declared.no_room.NoRoom.{NoRoom}
use Rattle.wide.specs.Words.{words, wide_of}
use Rattle.wide.specs.Family.{Family, Coded, is, short, other, coded}

abbrev pub got : Wide → ℕ → Got
got value used = record { value = value; used = used }

abbrev pub too_short : Short
too_short = record {}

abbrev pub needs : ℕ → NoRoom
needs needed = record { needed = needed }

-- "They are read from the front of a slice"; every byte begins a form of a variable integer, so `other` does not occur
abbrev pub read_as : Coded → Result Got Short
read_as (is n used) = Ok (got (wide_of n) used)
read_as short = Err too_short
read_as other = Err too_short

unfoldable pub read_of : Family → List ℕ → Result Got Short
read_of F s = read_as (coded F s)

-- "and written shortest at the front of a buffer, the rest unchanged (13 leaves it untouched)": the answer with room for that many bytes
unfoldable pub written_of : List ℕ → ℕ → Result ℕ NoRoom
written_of form room = cond (leb (length form) room) (Ok (length form)) (Err (needs (length form)))

-- and the buffer afterwards
unfoldable pub output_of : List ℕ → List ℕ → List ℕ
output_of form out = cond (leb (length form) (length out)) (sets out 0 form) out

-- "too few bytes: 2, value and bytes used 0": the paper's numbers for each case
abbrev pub short_number : Short → ℕ
short_number e = 2

abbrev pub read_number : Result Got Short → ℕ
read_number r = number_in short_number r

abbrev pub read_value : Result Got Short → Wide
read_value (Ok g) = g.value
read_value (Err e) = words 0 0 0 0

abbrev pub read_used : Result Got Short → ℕ
read_used (Ok g) = g.used
read_used (Err e) = 0

-- "0 accepted: bytes written", "13 no room: bytes needed"
abbrev pub no_room_number : NoRoom → ℕ
no_room_number e = 13

abbrev pub no_room_beside : NoRoom → ℕ
no_room_beside e = e.needed

abbrev pub coded_number : Result ℕ NoRoom → ℕ
coded_number w = number_in no_room_number w

abbrev pub coded_beside : Result ℕ NoRoom → ℕ
coded_beside w = beside_in no_room_beside w

-- each takes 8 bits
pub short-small : (e : Short) → short_number e < 2 ^ 8
short-small e = search rules

pub no_room-small : (e : NoRoom) → no_room_number e < 2 ^ 8
no_room-small e = search rules
