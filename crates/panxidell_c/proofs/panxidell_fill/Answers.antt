-- `panxidell_c::panxidell_fill` meets its contract. Assumes nothing.
use borrow.Author.Rules.{rules}
use Rattle.packing.proofs.Packs.{answer-packed}
use Rattle.bounds.proofs.Bounds.{answer-beside}
use Rattle.panxidell_c.proofs.panxidell_fill.Goals as goal

pub answer-requires : goal.answer-requires
answer-requires c = search answer-beside

pub returns : goal.returns
returns c = record { value = search answer-packed; table_after = search rules }
