-- `laying::one::lay_marked` meets its contract: a law of Lays for each way out. Assumes nothing.
use borrow.Author.Rules.{rules}
use Rattle.laying.proofs.Lays.{marked, marked_laid}
use Rattle.laying.proofs.one.lay_marked.Goals as goal

pub lay_reference-requires : goal.lay_reference-requires
lay_reference-requires c = record { ready = search rules; next_value = (search marked, search rules, search rules) }

pub returns : goal.returns
returns c = search marked_laid
