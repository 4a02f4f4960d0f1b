-- `format::head::Holder::children` meets its contract. Assumes nothing.
use mathlib.Core.Path.{ap, sym}
use Rattle.format.specs.declared.head.Holder.{Holder}
use Rattle.format.specs.Value.{child_count}
use Rattle.format.proofs.head.Holder.children.Goals as goal

pub returns-in-Record : goal.returns-in-Record
returns-in-Record c = ap (λ (h : Holder). child_count h c.args.n) (sym c.in-Record.is)

pub returns-in-Map : goal.returns-in-Map
returns-in-Map c = ap (λ (h : Holder). child_count h c.args.n) (sym c.in-Map.is)
