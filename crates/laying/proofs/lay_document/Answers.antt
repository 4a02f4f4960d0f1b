-- `laying::lay_document` meets its contract. Assumes nothing.
use borrow.Author.Rules.{rules}
use Rattle.laying.proofs.Whole.{document_ready, rows-laid, words-laid}
use Rattle.laying.proofs.lay_document.Goals as goal

pub lay_value-f-requires : goal.lay_value-f-requires
lay_value-f-requires c = record { ready = search document_ready; stop_in_bounds = search rules }

pub returns : goal.returns
returns c = record { value = search rows-laid; table_after = search words-laid }
