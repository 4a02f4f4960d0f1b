-- `spell::put::put_row` meets its contract: each kind has bytes of the data or none. Assumes nothing.
use mathlib.Core.Path.{◌∙◌, sym, ap}
use Rattle.encode.specs.Encode.{has_bytes}
use Rattle.spell.proofs.put.put_row.Goals as goal

pub put_bare-requires : goal.put_bare-requires
put_bare-requires c = (ap has_bytes (sym c.named.ensures ∙ c.in-Constant.is), c.requires.1)

pub put_bare-requires-in-Small : goal.put_bare-requires-in-Small
put_bare-requires-in-Small c = (ap has_bytes (sym c.named.ensures ∙ c.in-Small.is), c.requires.1)

pub put_bare-requires-in-Signed : goal.put_bare-requires-in-Signed
put_bare-requires-in-Signed c = (ap has_bytes (sym c.named.ensures ∙ c.in-Signed.is), c.requires.1)

pub put_bare-requires-in-Unsigned : goal.put_bare-requires-in-Unsigned
put_bare-requires-in-Unsigned c = (ap has_bytes (sym c.named.ensures ∙ c.in-Unsigned.is), c.requires.1)

pub put_with-requires : goal.put_with-requires
put_with-requires c = (ap has_bytes (sym c.named.ensures ∙ c.in-Float.is), c.requires.0, c.requires.1)

pub put_with-requires-in-Text : goal.put_with-requires-in-Text
put_with-requires-in-Text c = (ap has_bytes (sym c.named.ensures ∙ c.in-Text.is), c.requires.0, c.requires.1)

pub put_bare-requires-in-Holds : goal.put_bare-requires-in-Holds
put_bare-requires-in-Holds c = (ap has_bytes (sym c.named.ensures ∙ c.in-Holds.is), c.requires.1)

pub put_with-requires-in-Binary : goal.put_with-requires-in-Binary
put_with-requires-in-Binary c = (ap has_bytes (sym c.named.ensures ∙ c.in-Binary.is), c.requires.0, c.requires.1)

pub put_bare-requires-in-Char : goal.put_bare-requires-in-Char
put_bare-requires-in-Char c = (ap has_bytes (sym c.named.ensures ∙ c.in-Char.is), c.requires.1)

pub put_bare-requires-in-Reference : goal.put_bare-requires-in-Reference
put_bare-requires-in-Reference c = (ap has_bytes (sym c.named.ensures ∙ c.in-Reference.is), c.requires.1)

pub put_bare-requires-in-Declaration : goal.put_bare-requires-in-Declaration
put_bare-requires-in-Declaration c = (ap has_bytes (sym c.named.ensures ∙ c.in-Declaration.is), c.requires.1)

pub put_bare-requires-in-Whole : goal.put_bare-requires-in-Whole
put_bare-requires-in-Whole c = (ap has_bytes (sym c.named.ensures ∙ c.in-Whole.is), c.requires.1)

pub put_with-requires-in-Damaged : goal.put_with-requires-in-Damaged
put_with-requires-in-Damaged c = (ap has_bytes (sym c.named.ensures ∙ c.in-Damaged.is), c.requires.0, c.requires.1)

pub put_with-requires-in-Key : goal.put_with-requires-in-Key
put_with-requires-in-Key c = (ap has_bytes (sym c.named.ensures ∙ c.in-Key.is), c.requires.0, c.requires.1)

pub put_bare-requires-in-Unknown : goal.put_bare-requires-in-Unknown
put_bare-requires-in-Unknown c = (ap has_bytes (sym c.named.ensures ∙ c.in-Unknown.is), c.requires.1)
