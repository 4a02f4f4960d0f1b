-- The list of examples holds: each number is written as its bytes, and its bytes are read as the number, all used. Assumes nothing.
use mathlib.Core.Path.{◌≡◌, refl}
use mathlib.Core.List.{List, map}
use Prim.Native.Nat.{ℕ}
use lib.ListN.{length}
use Rattle.wide.specs.Words.{wide_end}
use Rattle.wide.specs.Body.{body_value, fits_in, rank}
use Rattle.wide.specs.Family.{behind, Coded, is, unmarked, marked, coded, unmarked_form, form}
use Rattle.wide.specs.Inner.{variable}
use Rattle.variable.specs.Examples.{Example, examples}

pub record Both : Type 0 where
  pub written : List ℕ
  pub read : Coded

abbrev pub done : Example → Both
done c = record { written = form (variable c.signed) c.value; read = coded (variable c.signed) c.bytes }

abbrev pub said : Example → Both
said c = record { written = c.bytes; read = is c.value (length c.bytes) }

pub examples-hold : map done examples ≡ map said examples
unfolding examples form unmarked_form coded marked unmarked rank fits_in body_value behind wide_end
examples-hold = refl
