-- `panxidell_c::panxidell_write_unsigned` meets its contract. Assumes nothing.
use borrow.Author.Rules.{rules}
use Rattle.packing.proofs.Packs.{coded-packed}
use Rattle.bounds.proofs.Bounds.{unsigned-few}
use Rattle.panxidell_c.proofs.panxidell_write_unsigned.Goals as goal

pub answer-requires : goal.answer-requires
answer-requires c = search unsigned-few

pub returns : goal.returns
returns c = record { value = search coded-packed; out_after = search rules }
