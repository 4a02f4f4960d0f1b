-- `panxidell_c::panxidell_write` meets its contract. Assumes nothing.
use borrow.Author.Rules.{rules}
use Rattle.packing.proofs.Packs.{written-packed}
use Rattle.bounds.proofs.Bounds.{written-beside}
use Rattle.panxidell_c.proofs.panxidell_write.Goals as goal

pub answer-requires : goal.answer-requires
answer-requires c = written-beside _ _ (λ i. (c.type_inv.table i).fits) _ _ _ _ c.write.ensures.value

pub returns : goal.returns
returns c = record { value = search written-packed; out_after = search rules }
