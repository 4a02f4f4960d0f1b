-- Words of the contracts inside: the variable integer of a sign. Definitions only, which no promise to a user cites.
use Rattle.std.specs.Prelude.{Bool, true, false}
use Rattle.wide.specs.Family.{Family}
use Rattle.wide.specs.Members.{unsigned, signed}

-- the variable integer of that sign
abbrev pub variable : Bool → Family
variable true = signed
variable false = unsigned
