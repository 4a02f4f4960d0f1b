-- `leaves::plain::lay_plain` meets its contract: a law of Straight for each way out. Assumes nothing.
use Rattle.leaves.proofs.Straight.{constant-laid, constant_head, known_as, laid_as, long-binary_stands, long-text_stands, signed_head, small-laid, small_head, span-laid, text_stands, unsigned_head}
use Rattle.leaves.proofs.plain.lay_plain.Goals as goal

pub lay_long-requires-clause-behind : goal.lay_long-requires-clause-behind
lay_long-requires-clause-behind c = search long-binary_stands

pub lay_long-requires-then-b-eq8-clause-behind : goal.lay_long-requires-then-b-eq8-clause-behind
lay_long-requires-then-b-eq8-clause-behind c = search long-text_stands

pub returns-then-b-lt3 : goal.returns-then-b-lt3
returns-then-b-lt3 c = search (constant-laid, constant_head)

pub lay_integer-requires-clause-known : goal.lay_integer-requires-clause-known
lay_integer-requires-clause-known c = search (known_as, signed_head)

pub returns-then-b-lt24 : goal.returns-then-b-lt24
returns-then-b-lt24 c = search (laid_as, signed_head)

pub lay_integer-requires-then-b-lt32-clause-known : goal.lay_integer-requires-then-b-lt32-clause-known
lay_integer-requires-then-b-lt32-clause-known c = search (known_as, unsigned_head)

pub returns-then-b-lt32 : goal.returns-then-b-lt32
returns-then-b-lt32 c = search (laid_as, unsigned_head)

pub returns-then-b-lt128 : goal.returns-then-b-lt128
returns-then-b-lt128 c = search (small-laid, small_head)

pub returns-then-b-lt160 : goal.returns-then-b-lt160
returns-then-b-lt160 c = search (span-laid, text_stands)
